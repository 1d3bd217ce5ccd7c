-- What a worker's thread leaves: its pass is one of the same port, and its actor did its lines.
use Rattle.std.proofs.Common.{◌≡◌, ℕ, ◌+◌, ◌<◌, ◌≤◌, Bool, true, false, not, cond, List, [], ◌∷◌, ◌++◌}
use Rattle.std.proofs.Common.{length, drop, refl, sym, ap, ◌∙◌, arith, inl, inr, Option, Some, None, zero}
use Rattle.std.proofs.Common.{suc}
use Rattle.std.specs.Prelude.{Result, Ok, Err, OnOk, if◌then◌else◌}
use Rattle.std.specs.Result.{is_ok}
use Rattle.std.proofs.lemmas.List.{append-nil}
use Rattle.std.proofs.lemmas.List.Sums.{sum_by-cons}
use Rattle.std.proofs.lemmas.Option.{same_Some}
use Rattle.inp_script.specs.Owner.{OwnerState}
use Rattle.inp_model.specs.Evdev.{TurnsRise, TurnsStand}
use Rattle.inp_model.specs.Run.{IsLegalRun}
use Rattle.inp_model.specs.Leaves.{IsLeft}
use Rattle.inp_feedback.specs.Feeds.{Feeding}
use Rattle.inp_script.proofs.Common.{Description, Line, Role, is_owner, RecordView, UEntry, step_made}
use Rattle.inp_script.proofs.Common.{EndsWith, HasActor, ActorView, Job, first_job, EvdevView, IsCall, Call}
use Rattle.inp_script.proofs.Common.{IsLegalFrom, Event, AreCalls, Owner}
use Rattle.inp_model.specs.Step.{is_inject}
use Rattle.inp_model.proofs.Leaves.{calls-legal, own-grown}
use Rattle.inp_script.specs.ActorLine.{IsActedOn}
use Rattle.inp_runs.specs.DoingAll.{ActsAll, DoesAll}
use Rattle.inp_runs.proofs.DoingAll.{all-called, all-owned}
use Rattle.inp_runs.specs.Job.{lines_by, lines_talk}
use Rattle.inp_threads.specs.Owner.{IsFedBy}
use Rattle.inp_threads.specs.Worker.{IsAtStart, IsFreshPass, asking_count, HasPass}
use Rattle.inp_threads.proofs.Common.{Ghosts, Pass, PassView, view_of, PortOf, UdevView, rooms_of}
use Rattle.inp_threads.proofs.Common.{HasFedLines, HasWorked, HasOwnedLines, HasDoneLines, Waiting}
use Rattle.inp_turn.specs.Shared.{shared_id}
use Rattle.inp_port.specs.Entries.{steps_among, step_places, other_places}
use Rattle.inp_port.specs.Port.{IsReadyAt, description_of, told_by}
use Rattle.inp_threads.proofs.CallsAt.{no-calls}
use Rattle.inp_threads.proofs.FeedbackTurns.{all-lines, calls-keep, owner-stays}
use Rattle.inp_turn.specs.declared.shared.Shared.{Shared}
use Rattle.inp_feedback.specs.declared.fed.Fed.{Fed}

-- The tie of a caller of a port names the port

abbrev numbers_in : Option (List ℕ) → List ℕ
numbers_in None = []
numbers_in (Some numbers) = numbers

abbrev number_at : ℕ → List ℕ → ℕ
number_at k [] = 0
number_at zero (n ∷ ns) = n
number_at (suc k) (n ∷ ns) = number_at k ns

-- a list as long as one that begins with it
as-long : (xs ys more : List ℕ) → length xs ≡ length ys → xs ++ more ≡ ys → (xs ≡ ys) × (more ≡ [])
as-long [] [] more long h = (refl, h)
as-long [] (y ∷ ys) more long h = absurd (omega (arith, long))
as-long (x ∷ xs) [] more long h = absurd (omega (arith, long))
as-long (x ∷ xs) (y ∷ ys) more long h =
    let rest = as-long xs ys more (omega (arith, long)) (ap (drop 1) h) in
    ((λ i. ap (number_at 0) h i ∷ rest.0 i), rest.1)

-- which table it is, by its name
same-table : (s s' : Shared UdevView Description UEntry) → shared_id s' ≡ shared_id s
    → s'.table.shared.table_id ≡ s.table.shared.table_id
same-table s s' e = λ i. record {
  words = number_at 0 (e i);
  slots = number_at 1 (e i);
  views_name = number_at 2 (e i);
  atom = number_at 3 (e i);
  block = number_at 4 (e i);
  offset = number_at 5 (e i);
  slot_names = drop 6 (e i);
}

-- What a pass leaves

module _ {K : Ghosts UdevView Description UEntry} where
  -- Calls through a pass that has seen nothing leave its share, and it stays a pass of the port that it
  -- was one of. It owns places of steps alone.
  pub record IsCallersPass (port port' : PortOf UdevView UEntry)
      (p' : Pass UdevView Description UEntry K) : Type 0 where
    -- the pass is one of the first port, without the turn and with one unit of the share
    pub back : HasPass port (Some p')
    -- it owns no place without a step
    pub others : other_places step_made (view_of p').seen (view_of p').own ≡ []

  pub pass-back : (port port' : PortOf UdevView UEntry) (p p' : Pass UdevView Description UEntry K) (n n' : ℕ)
      → IsFreshPass port p → IsLeft (told_by step_made port p n) (told_by step_made port' p' n')
      → IsReadyAt port' p' → IsCallersPass port port' p'
  pass-back port port' p p' n n' fresh left ready =
      let others : List ℕ = other_places step_made (view_of p').seen (view_of p').own in
      let none : other_places step_made (view_of p).seen (view_of p).own ≡ [] =
      ap (other_places step_made (view_of p).seen) fresh.own in
      let tie : (view_of p').share ∷ length (shared_id port'.shared) ∷ shared_id port'.shared ++ others
      ≡ (view_of p).share ∷ length (shared_id port.shared) ∷ shared_id port.shared
      ++ other_places step_made (view_of p).seen (view_of p).own =
      ap numbers_in left.leaves.tie in
      let rest : shared_id port'.shared ++ others ≡ shared_id port.shared =
      ap (drop 2) tie ∙ ap (λ (l : List ℕ). shared_id port.shared ++ l) none
      ∙ append-nil (shared_id port.shared) in
      let name =
      as-long (shared_id port'.shared) (shared_id port.shared) others (ap (number_at 1) tie) rest in
      let table = same-table port.shared port'.shared name.0 in
      let caps : port'.caps ≡ port.caps = left.leaves.description in
      record {
        back = record {
          pass = p';
          is_pass = refl;
          ready = record {
            own = ready.own ∙ table;
            free = ready.free;
            described = rw (ready.described, caps);
          };
          share = ap (number_at 0) tie ∙ fresh.share;
        };
        others = name.1;
      }

-- What the actor did

-- each call that is no injection has a turn of its own
pub turns-taken : (before after : EvdevView) (calls : List Call) (m : ℕ) → AreCalls before after calls
    → before.turns ≡ Some m → (n : ℕ) × (after.turns ≡ Some n) × (m + asking_count calls ≤ n)
unfolding AreCalls
turns-taken before after [] m same told = (m, rw same told, omega arith)
turns-taken before after (call ∷ calls) m h told =
    let c : IsCall before h.0 call = h.1 in
    let next = one-turn before.turns h.0.turns (is_inject call.step) m c.turns c.rises told in
    let last = turns-taken h.0 after calls next.0 h.2 next.1 in
    let counted = sum_by-cons (λ (x : Call). cond (not (is_inject x.step)) 1 0) call calls in (
      last.0,
      last.1,
      one-more (is_inject call.step) m next.0 last.0 (asking_count calls)
          (asking_count (call ∷ calls)) next.2 last.2 counted,
    )
  where
    one-turn : (before after : Option ℕ) (free : Bool) (m : ℕ) → TurnsStand before after
        → (free ≡ false → TurnsRise before after) → before ≡ Some m
        → (n : ℕ) × (after ≡ Some n) × ((if free then 0 else 1) + m ≤ n)
    one-turn None after free m stand rise told = absurd cc
    one-turn (Some k) None free m stand rise told = absurd stand
    one-turn (Some k) (Some n) true m stand rise told =
        (n, refl, (let e : k ≡ m = same_Some k m told in omega arith))
    one-turn (Some k) (Some n) false m stand rise told =
        (n, refl, (let e : k ≡ m = same_Some k m told in let less : k < n = rise refl in omega arith))

    one-more : (free : Bool) (m k n count all : ℕ) → (if free then 0 else 1) + m ≤ k → k + count ≤ n
        → all ≡ cond (not free) 1 0 + count → m + all ≤ n
    one-more true m k n count all h l same = omega arith
    one-more false m k n count all h l same = omega arith

has-worked : (r : RecordView) (d : Description) (wait : Option Waiting) (a : ActorView) (new : Job)
    (owning : OwnerState) (b e : EvdevView) (v : PassView Description UEntry)
    → b.seen ≡ [] → b.own ≡ [] → e.description ≡ d → e.seen ≡ steps_among step_made v.seen
    → e.own ≡ step_places step_made v.seen v.own → other_places step_made v.seen v.own ≡ [] → (m : ℕ)
    → b.turns ≡ Some m → e.turns ≡ Some v.turns
    → a.description ≡ d → a.job ≡ first_job a.role a.description → DoesAll b e r wait a new
    → HasWorked r d wait (record a { job = new; owning = owning }) v
has-worked r d wait a new owning b e v no_seen no_own same_d seen own others m begun_turns turns
    described first does =
    let h = does.holds in
    let taken = turns-taken b e h.calls m h.are_calls begun_turns in
    let from : IsLegalFrom e.description e.seen 0 h.calls =
    rw no_seen at (calls-legal b e h.calls h.are_calls) in
    let run : IsLegalRun d e.seen h.calls = rw same_d at from in
    let begun : EndsWith
    (lines_talk a.role a.description r.streams wait does.rounds (lines_by a.actor r.lines)
    (first_job a.role a.description)) h.calls (Some new) =
    rw first at h.talk_ends in
    record {
      calls = h.calls;
      legal = rw seen at run;
      rounds = does.rounds;
      follows = rw described at begun;
      own = rw (← own, own-grown b e h.calls h.are_calls, no_own);
      others = others;
      turns = omega (arith, taken.2, same_Some taken.0 v.turns (sym taken.1 ∙ turns));
    }

-- an actor that is no owner did its lines by calls of an evdev
calling-done : (role : Role) (r : RecordView) (d : Description) (wait : Option Waiting) (a : ActorView)
    (view : PassView Description UEntry) → is_owner role ≡ false → HasWorked r d wait a view
    → HasDoneLines role r d wait a view
calling-done Owner r d wait a view away h = absurd cc
calling-done _ r d wait a view away h = h

-- a record has an actor, whatever its job and whatever it was told
pub has_actor-still : (r : RecordView) (a : ActorView) (j : Job) (o : OwnerState) → HasActor r a
    → HasActor r (record a { job = j; owning = o })
has_actor-still r a j o h =
    record {
      text = h.text;
      device = h.device;
      is_text = h.is_text;
      role = h.role;
      is_device = h.is_device;
      description = h.description;
    }

-- By whatever makes calls and feedback calls by a port and a pass

module _ {S : Type 0} {K : Ghosts UdevView Description UEntry} (port : S → PortOf UdevView UEntry) (pass : S
    → Pass UdevView Description UEntry K) (agains : S → ℕ) (feeds : Feeding S)
    (by : (before after : S) (room : ℕ) (answer : Fed) (events : List Event)
    → feeds before after room answer events
    → IsFedBy (port before) (port after) (pass before) (pass after) room answer events) where
  abbrev told : S → EvdevView
  told s = told_by step_made (port s) (pass s) (agains s)

  -- the pass is one of the same port, with the same share
  pub worked-back : (role : Role) (before after : S) → IsFreshPass (port before) (pass before)
      → IsReadyAt (port after) (pass after) → IsActedOn told feeds role before after
      → HasPass (port before) (Some (pass after))
  worked-back role before after fresh ready (inr calls) =
      (pass-back (port before) (port after) (pass before) (pass after) (agains before)
      (agains after) fresh calls.1 ready).back
  worked-back role before after fresh ready (inl (owner, calls, made)) =
      let same : port after ≡ port before =
      calls-keep feeds port (λ b a room answer events h. (by b a room answer events h).0) before
      after calls made in
      let share : (view_of (pass after)).share ≡ (view_of (pass before)).share =
      calls-keep feeds (λ (s : S). (view_of (pass s)).share)
      (λ b a room answer events h. (by b a room answer events h).1.turn.share) before after calls made in
      record {
        pass = pass after;
        is_pass = refl;
        ready = rw same at ready;
        share = share ∙ fresh.share;
      }

  -- and the lines were done
  pub worked-done : (r : RecordView) (wait : Option Waiting) (before after : S) (old new : ActorView)
      → IsFreshPass (port before) (pass before) → IsReadyAt (port after) (pass after)
      → IsAtStart (port before) r old
      → new ≡ record old { job = new.job; owning = new.owning } → IsActedOn told feeds old.role before after
      → ActsAll told feeds before after r wait old new
      → HasDoneLines new.role r (description_of (port before)) wait new (view_of (pass after))
  worked-done r wait before after old new fresh ready start still acted all =
      let d : Description = description_of (port before) in
      let v : PassView Description UEntry = view_of (pass after) in
      let role : new.role ≡ old.role = rw still in
      elim acted [
        | inl fed_all ↦
            (let owner : old.role ≡ Owner = fed_all.0 in
            let lines : List Line = lines_by old.actor r.lines in
            let acts = all-owned told feeds r wait before after old new owner all in
            let stays : new ≡ record old { owning = new.owning } =
            owner-stays feeds lines before after old new acts in
            let fed : HasFedLines d (rooms_of lines) v new.owning =
            all-lines feeds (λ (s : S). description_of (port s)) (λ (s : S). view_of (pass s))
            (λ b a room answer events h. (let t =
            by b a room answer events h in (ap description_of t.0, t.1)))
            lines [] before after old new
            (record {
              done = [];
              before = old.owning;
              calls = no-calls d (view_of (pass before)) old.owning fresh.seen fresh.own start.owning;
              ends = inl (refl, refl);
            }) acts in
            let owned : HasOwnedLines r d new v = record {
              fed = rw still fed;
              job = rw (stays, start.job) ((λ i. first_job (owner i) (start.description i)));
            } in
            simp (role, owner) owned)
        | inr called ↦
            (let p = pass before in
            let its =
            pass-back (port before) (port after) p (pass after) (agains before)
            (agains after) fresh called.1 ready in
            calling-done new.role r d wait new v (ap is_owner role ∙ called.0)
            (rw still
            (has-worked r d wait old new.job new.owning (told before) (told after) v
            (ap (steps_among step_made) fresh.seen) (ap (step_places step_made (view_of p).seen) fresh.own)
            called.1.leaves.description refl refl its.others
            (view_of p).turns refl refl start.description start.job
            (all-called told feeds r wait before after old new called.0 all))))
      ]

-- the result was found to be no error, so what holds of such a one holds
pub on-ok : {T E : Type 0} (P : Type 0) (result : Result T E) (b : Bool) → b ≡ is_ok result → b ≡ true
    → OnOk result P → P
on-ok P (Ok x) b same good h = h
on-ok P (Err e) b same good h = absurd (let never : false ≡ true = sym same ∙ good in cc)
