-- The lines of an actor, one after another, over any device.
use Rattle.std.proofs.Common.{◌≡◌, ℕ, zero, suc, Bool, true, false, nat_eq, List, [], ◌∷◌, ◌++◌, length, take}
use Rattle.std.proofs.Common.{drop, refl, sym, ap, ◌∙◌, inl, inr, Option, Some, None}
use Rattle.inp_script.specs.DoneLine.{HasActor, Holds}
use Rattle.inp_script.specs.Owner.{MayHaveFed}
use Rattle.inp_runs.proofs.Common.{option_map, length-map, same_Some, slice_get-map, EvdevView, ActorText}
use Rattle.inp_runs.proofs.Common.{Line, Role, Source, Client, Tap, Joy, Owner, is_owner, RecordView, finish}
use Rattle.inp_runs.proofs.Common.{Waiting, line_talk, ActorView, Job, end_talk, lines_by, last_talk}
use Rattle.std.specs.Prelude.{slice_get, is_some, min, ◌⊎◌}
use Rattle.inp_model.proofs.Leaves.{left-none, left-then}
use Rattle.inp_feedback.specs.declared.fed.TheConstants.{FEEDBACK_MAX}
use Rattle.inp_feedback.specs.Feeds.{Feeding}
use Rattle.inp_script.specs.ActorLine.{Acts, FeedCall, AreFeedCalls, BeginsToAct, IsActedOn, OwnsLine}
use Rattle.inp_script.proofs.TalkCalls.{holds-nothing, begins-left}
use Rattle.inp_runs.specs.DoingAll.{ActsAll, ActsSome, AreNumbersOf, AreOwned, DoesAll, EndsLines}
use Rattle.inp_runs.proofs.CalledLines.{AreCalled, called-none, called-line, called-events, called-append}
use Rattle.inp_runs.proofs.CalledLines.{called-all}
use Rattle.inp_runs.proofs.JobEnds.{owner-role}
use Rattle.inp_runs.proofs.Lists.{eq_same, option_map-some, slice_get-filter}

-- a role that fails the test for owners is not the owner's
pub no-owner : (role : Role) → is_owner role ≡ false → role ≡ Owner → ⊥
no-owner role caller owner = let e : false ≡ true = sym caller ∙ ap is_owner owner in cc

module _ {S : Type 0} (told : S → EvdevView) (feeds : Feeding S) where
  -- What was done with a device

  feed-calls-append : (before between after : S) (calls more : List FeedCall)
      → AreFeedCalls feeds before between calls → AreFeedCalls feeds between after more
      → AreFeedCalls feeds before after (calls ++ more)
  unfolding AreFeedCalls
  feed-calls-append before between after [] more h k = rw h at k
  feed-calls-append before between after (call ∷ calls) more h k =
      (h.0, h.1, feed-calls-append h.0 between after calls more h.2 k)

  -- a device that stays as it is was acted on by no calls, whatever the role
  pub acted_on-none : (role : Role) (s : S) → IsActedOn told feeds role s s
  unfolding AreFeedCalls
  acted_on-none role s = by (is_owner role) refl
    where
      by : (b : Bool) → is_owner role ≡ b → IsActedOn told feeds role s s
      by true e = inl (owner-role role e, [], refl)
      by false e = inr (e, left-none (told s))

  -- a line that was begun made at most one feedback call, or the first calls of its talk
  pub acted_on-begun : (before after : S) (r : RecordView) (wait : Option Waiting) (number : ℕ)
      (a : ActorView) → BeginsToAct told feeds before after r wait number a
      → IsActedOn told feeds a.role before after
  unfolding AreFeedCalls
  acted_on-begun before after r wait number a (inl o) = by o.may
    where
      by : MayHaveFed feeds before after (min o.room FEEDBACK_MAX) → IsActedOn told feeds a.role before after
      by (inl none) = inl (o.owner, [], none)
      by (inr (answer, events, fed)) =
          inl (
            o.owner,
            record { room = min o.room FEEDBACK_MAX; answer = answer; events = events }
                ∷ [],
            (after, fed, refl),
          )
  acted_on-begun before after r wait number a (inr (caller, begun)) =
      inr (
        caller,
        begins-left (told before) (told after)
            (line_talk a.role a.description r.streams wait begun.rounds begun.line.command a.job)
            begun.begins,
      )

  pub acted_on-then : (role : Role) (before between after : S) → IsActedOn told feeds role before between
      → IsActedOn told feeds role between after → IsActedOn told feeds role before after
  acted_on-then role before between after (inl h) (inl k) =
      inl (h.0, h.1 ++ k.1, feed-calls-append before between after h.1 k.1 h.2 k.2)
  acted_on-then role before between after (inl h) (inr k) = absurd (no-owner role k.0 h.0)
  acted_on-then role before between after (inr h) (inl k) = absurd (no-owner role h.0 k.0)
  acted_on-then role before between after (inr h) (inr k) =
      inr (h.0, left-then (told before) (told between) (told after) h.1 k.1)

  -- the same where the role of whoever goes on is said so
  pub acted_on-next : (role its : Role) (before between after : S) → its ≡ role
      → IsActedOn told feeds role before between → IsActedOn told feeds its between after
      → IsActedOn told feeds role before after
  acted_on-next role its before between after same h k =
      acted_on-then role before between after h (rw same at k)

  -- it is still the same device
  pub acted_on-described : (role : Role) (before after : S) → IsActedOn told feeds role before after
      → is_owner role ≡ false → (told after).description ≡ (told before).description
  acted_on-described role before after (inl h) caller = absurd (no-owner role caller h.0)
  acted_on-described role before after (inr h) caller = h.1.leaves.description

  -- Lines of an owner

  owned-append : (before between after : S) (lines more : List Line) (old mid new : ActorView)
      → AreOwned feeds before between lines old mid → AreOwned feeds between after more mid new
      → AreOwned feeds before after (lines ++ more) old new
  unfolding AreOwned
  owned-append before between after [] more old mid new h k = rw (h.1, h.0) at k
  owned-append before between after (line ∷ lines) more old mid new h k =
      (h.0, h.1, h.2, owned-append h.0 between after lines more h.1 mid new h.3 k)

  owned-none : (s : S) (a : ActorView) → AreOwned feeds s s [] a a
  unfolding AreOwned
  owned-none s a = (refl, refl)

  owned-line : (before after : S) (line : Line) (old new : ActorView)
      → OwnsLine feeds before after old line new → AreOwned feeds before after (line ∷ []) old new
  unfolding AreOwned
  owned-line before after line old new owns = (after, new, owns, (refl, refl))

  module _ (r : RecordView) (wait : Option Waiting) where
    -- The first lines of an actor, one part of them after another

    -- the calls at lines of an actor of this role and description
    abbrev AreCalledBy : ActorView → S → S → List Line → Job → Job → Type 0
    AreCalledBy a before after lines old new =
        AreCalled (told before) (told after) a.role a.description r.streams wait lines old new

    -- An actor did these lines, and others may follow: an owner by feedback calls, and any other one by calls
    -- of an evdev.
    abbrev pub AreDone : S → S → List Line → ActorView → ActorView → Type 0
    AreDone before after lines old new =
        ((old.role ≡ Owner) × AreOwned feeds before after lines old new)
        ⊎ ((is_owner old.role ≡ false) × AreCalledBy old before after lines old.job new.job)

    -- before its first line an actor has made no calls
    pub done-none : (s : S) (a : ActorView) → AreDone s s [] a a
    done-none s a = by (is_owner a.role) refl
      where
        by : (b : Bool) → is_owner a.role ≡ b → AreDone s s [] a a
        by true e = inl (owner-role a.role e, owned-none s a)
        by false e = inr (e, called-none a.role a.description r.streams wait (told s) a.job)

    module _ (before between after : S) (lines more : List Line) (old mid new : ActorView)
        (still : mid ≡ record old { job = mid.job; owning = mid.owning }) where
      with_more : AreCalledBy old before between lines old.job mid.job
          → AreCalledBy mid between after more mid.job new.job
          → AreCalledBy old before after (lines ++ more) old.job new.job
      with_more first next =
          called-append old.role old.description r.streams wait (told before) (told between)
          (told after) lines more old.job mid.job new.job first
          (rw still at next)

      -- some lines more
      pub done-more : AreDone before between lines old mid
          → ActsSome told feeds between after r wait more mid new
          → AreDone before after (lines ++ more) old new
      done-more (inl (owner, owned)) (inl (line, is, inl o)) =
          inl (
            owner,
            rw is
                (owned-append before between after lines (line ∷ []) old mid new owned
                (owned-line between after line mid new o)),
          )
      done-more (inl (owner, owned)) (inl (line, is, inr c)) =
          absurd (no-owner mid.role c.caller (rw still owner))
      done-more (inl (owner, owned)) (inr events) =
          let both : Source ≡ Owner = rw (← events.source, still) owner in
          absurd cc
      done-more (inr (caller, called)) (inl (line, is, inl o)) =
          absurd (no-owner old.role caller (sym (rw still) ∙ o.owner))
      done-more (inr (caller, called)) (inl (line, is, inr c)) =
          inr (
            caller,
            with_more called
                (rw is
                (called-line mid.role mid.description r.streams wait (told between)
                (told after) c.rounds line mid.job new.job c.holds)),
          )
      done-more (inr (caller, called)) (inr events) =
          inr (
            caller,
            with_more called
                (rw events.are_lines
                (called-events mid.role mid.description r.streams wait (told between)
                (told after) mid.actor events.events mid.job new.job events.source events.holds)),
          )

    -- all lines, and what is asked then
    pub done-all : (before between after : S) (old mid new : ActorView)
        → mid ≡ record old { job = mid.job; owning = mid.owning }
        → AreDone before between (lines_by old.actor r.lines) old mid
        → EndsLines told feeds between after wait mid new → ActsAll told feeds before after r wait old new
    done-all before between after old mid new still (inl (owner, owned)) (inl (same, rests, nothing)) =
        inl (
          owner,
          rw (same, rests) owned,
        )
    done-all before between after old mid new still (inl (owner, owned)) (inr (source, holds, actor)) =
        let both : Source ≡ Owner = rw (← source, still) owner in
        absurd cc
    done-all before between after old mid new still (inr (caller, called)) ends =
        let all =
        called-all old.role old.description r.streams wait (told before) (told between) (told after)
        (lines_by old.actor r.lines) old.job mid.job new.job called
        (rw still at (last ends)) in
        inr (caller, record { rounds = all.0; holds = all.1 })
      where
        last : EndsLines told feeds between after wait mid new
            → Holds (told between) (told after) (last_talk wait mid.role mid.job) (Some new.job)
        last (inl (same, rests, nothing)) =
            rw (same, rests)
            (holds-nothing (told between) (last_talk wait mid.role mid.job) (Some mid.job) nothing)
        last (inr (source, holds, actor)) = holds

    -- What is said of an actor that did all its lines, by its role

    -- an actor that is no owner did its lines by calls of an evdev, as only owners make feedback calls
    pub all-called : (before after : S) (old new : ActorView) → is_owner old.role ≡ false
        → ActsAll told feeds before after r wait old new
        → DoesAll (told before) (told after) r wait old new.job
    all-called before after old new caller (inl (owner, owned)) = absurd (no-owner old.role caller owner)
    all-called before after old new caller (inr (other, does)) = does

    -- an owner did its lines by feedback calls, as it is no caller of an evdev
    pub all-owned : (before after : S) (old new : ActorView) → old.role ≡ Owner
        → ActsAll told feeds before after r wait old new
        → AreOwned feeds before after (lines_by old.actor r.lines) old new
    all-owned before after old new owner (inl (same, owned)) = owned
    all-owned before after old new owner (inr (caller, does)) = absurd (no-owner old.role caller owner)

-- An actor stays the record's, whatever its job is

-- the record has one text at a number, so the one found there has the actor's role
pub its-role : (r : RecordView) (a : ActorView) (number : ℕ) (text : ActorText) → HasActor r a
    → a.actor ≡ number → slice_get r.actors number ≡ Some text → text.role ≡ a.role
its-role r a number text h same is =
    let one : h.text ≡ text = same_Some h.text text (rw (← h.is_text, same) is) in
    rw (← one) h.role

-- An actor's lines by their numbers

-- what stands at one of these numbers
pub record IsOwnLine (r : RecordView) (actor i number : ℕ) : Type 0 where
  -- the line at the number
  pub line : Line
  -- among the actor's own lines it is the one of the index
  pub is_own : slice_get (lines_by actor r.lines) i ≡ Some line
  -- the record has it at the number
  pub is_line : slice_get r.lines number ≡ Some line
  -- the actor does it
  pub is_actor : line.actor ≡ actor

-- the numbers are those of the actor's lines in order, so each index has the same line in both
pub own-line : (r : RecordView) (actor : ℕ) (numbers : List ℕ) (i number : ℕ) → AreNumbersOf r actor numbers
    → slice_get numbers i ≡ Some number → IsOwnLine r actor i number
own-line r actor numbers i number are at =
    let own : List Line = lines_by actor r.lines in
    let both : option_map Some (slice_get own i) ≡ Some (slice_get r.lines number) =
    sym (slice_get-map Some own i) ∙ sym (rw are) ∙ slice_get-map (slice_get r.lines) numbers i
    ∙ ap (option_map (slice_get r.lines)) at in
    let image = option_map-some Some (slice_get own i) (slice_get r.lines number) both in
    record {
      line = image.from;
      is_own = image.is;
      is_line = sym image.same;
      is_actor =
          eq_same image.from.actor actor
          (slice_get-filter (λ (line : Line). nat_eq line.actor actor) r.lines i image.from image.is).passes;
    }

-- an actor has as many lines as numbers of lines, since each number stands for one
pub own-count : (r : RecordView) (actor : ℕ) (numbers : List ℕ) → AreNumbersOf r actor numbers
    → length (lines_by actor r.lines) ≡ length numbers
own-count r actor numbers are =
    let own : List Line = lines_by actor r.lines in
    sym (length-map own Some) ∙ ap length (sym are) ∙ length-map numbers (slice_get r.lines)

one-item : {X : Type 0} (xs : List X) (i : ℕ) (x : X) → slice_get xs i ≡ Some x → take 1 (drop i xs) ≡ x ∷ []
one-item [] i x h = absurd cc
one-item (y ∷ xs) zero x h = let same : y ≡ x = cc in rw same
one-item (y ∷ xs) (suc i) x h = one-item xs i x h

-- An actor did one of them.
pub acted-line : {S : Type 0} (told : S → EvdevView) (feeds : Feeding S) (r : RecordView)
    (wait : Option Waiting) (before after : S) (actor i number : ℕ) (old new : ActorView)
    → IsOwnLine r actor i number
    → Acts told feeds before after r wait number old new
    → ActsSome told feeds before after r wait (take 1 (drop i (lines_by actor r.lines))) old new
acted-line told feeds r wait before after actor i number old new own did =
    let same : did.line ≡ own.line = same_Some did.line own.line (sym did.is_line ∙ own.is_line) in
    inl (own.line, one-item (lines_by actor r.lines) i own.line own.is_own, rw same at did.acts)

-- What is done when lines are done

-- where lines do not wait, nothing is asked once they are done
pub last-none : (wait : Option Waiting) (role : Role) (j : Job) → is_some wait ≡ false
    → last_talk wait role j ≡ finish (Some j)
last-none None role j h = refl
last-none (Some waiting) role j h = absurd cc

-- where lines wait, a source that did not stop says behind them that it is done
pub last-source : (wait : Option Waiting) (role : Role) (j : Job) → is_some wait ≡ true → role ≡ Source
    → last_talk wait role j ≡ end_talk j.stop j
last-source None role j h source = absurd cc
last-source (Some waiting) role j h source = rw source

-- behind its lines an actor that is no source asks for nothing, whether or not lines wait
pub last-reader : (wait : Option Waiting) (role : Role) (j : Job)
    → (role ≡ Client) ⊎ (role ≡ Tap) ⊎ (role ≡ Joy) ⊎ (role ≡ Owner) → last_talk wait role j ≡ finish (Some j)
last-reader None role j h = refl
last-reader (Some waiting) Source j (inl h) = absurd cc
last-reader (Some waiting) Source j (inr (inl h)) = absurd cc
last-reader (Some waiting) Source j (inr (inr (inl h))) = absurd cc
last-reader (Some waiting) Source j (inr (inr (inr h))) = absurd cc
last-reader (Some waiting) _ j h = refl
