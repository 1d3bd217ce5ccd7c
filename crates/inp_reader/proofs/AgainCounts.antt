-- The count of answers Again rises by one in a `next` that answers Again, and stays in each other call of a
-- reader.
use Rattle.std.proofs.lemmas.Bool.{true≢false, false≢true}
use Rattle.std.proofs.Common.{◌≡◌, ℕ, Bool, true, false, List, [], ◌∷◌, refl, sym, ap, ◌∙◌, inl, inr}
use Rattle.std.proofs.Common.{if◌then◌else◌, Option, Some, None}
use Rattle.std.specs.Prelude.{Result, Ok, Err}
use Rattle.inp_model.specs.declared.step.Step.{Step}
use Rattle.inp_model.specs.declared.step.Step.TheVariants.{Open, Read}
use Rattle.inp_model.specs.declared.reply.Reply.{Reply}
use Rattle.inp_model.specs.declared.reply.Reply.TheVariants.{Again as NothingVisible}
use Rattle.inp_model.specs.Description.{Description}
use Rattle.inp_model.specs.Evdev.{EvdevView, is_again, agains_after}
use Rattle.inp_model.specs.Past.{past_at}
use Rattle.inp_model.specs.Left.{eaten}
use Rattle.inp_model.specs.Reply.{Answer, Case, IsAnswer, answer_by, accepted, refused, refusals, first_reply}
use Rattle.inp_model.specs.Reply.{is_accepted, finds_nothing}
use Rattle.inp_model.specs.Run.{place_of}
use Rattle.inp_recon.specs.declared.view.View.{View}
use Rattle.inp_recon.proofs.Each.{Each}
use Rattle.inp_reader.specs.declared.mode.Mode.{Mode}
use Rattle.inp_reader.specs.declared.call_made.CallMade.{CallMade}
use Rattle.inp_reader.specs.declared.next.Next.{Next}
use Rattle.inp_reader.specs.declared.started.Started.{Started}
use Rattle.inp_reader.specs.LeftEvdev.{agains_after_next}
use Rattle.inp_reader.specs.ReaderPlace.{is_read}
use Rattle.inp_reader.specs.Reader.{ReaderState, queries, start_talk, next_talk, stop_of}
use Rattle.inp_reader.specs.FollowsTalk.{FollowsTalk}
use Rattle.inp_reader.proofs.Meets.{Any, IsCallOn, says-meets}
use Rattle.inp_reader.proofs.NextWalk.{OfQueries, each-query, sync_steps, each-sync, AskRules, asked-meets}
use Rattle.inp_reader.proofs.NextWalk.{sync-meets, Queried, start-meets, Renewed, NextRules, next-says}
use Rattle.inp_reader.proofs.NextWalk.{stop-cases}

-- Only a read is answered Again

abbrev NoneIsAgain : List Case → Type 0
NoneIsAgain [] = Unit {0}
NoneIsAgain (case ∷ cases) = (case.holds ≡ true → is_again case.reply ≡ false) × NoneIsAgain cases

first_if : (holds : Bool) (given reply : Reply) (rest : Option Reply)
    → (holds ≡ true → is_again given ≡ false) → (rest ≡ Some reply → is_again reply ≡ false)
    → (if holds then Some given else rest) ≡ Some reply → is_again reply ≡ false
first_if true given reply rest h later e = let same : given ≡ reply = cc in ap is_again (sym same) ∙ h refl
first_if false given reply rest h later e = later e

first_reply-not_again : (cases : List Case) (reply : Reply) → NoneIsAgain cases
    → first_reply cases ≡ Some reply → is_again reply ≡ false
first_reply-not_again [] reply h e = absurd cc
first_reply-not_again (case ∷ cases) reply h e =
    first_if case.holds case.reply reply (first_reply cases) h.0 (first_reply-not_again cases reply h.1) e

finds_something : (d : Description) (past : List Step) (x : Step) → is_read x ≡ false
    → finds_nothing (eaten d) d past x ≡ true → ⊥
finds_something d past (Read client count) h k = true≢false h
finds_something d past _ h k = false≢true k

refused-not_again : (d : Description) (past : List Step) (x : Step) (reply : Reply) → is_read x ≡ false
    → refused d past x ≡ Some reply → is_again reply ≡ false
refused-not_again d past x reply no_read h =
    first_reply-not_again (refusals (eaten d) d past x) reply (
      λ k.
          refl,
      (
        λ k.
            refl,
        (
          λ k.
              refl,
          (
            λ k.
                refl,
            (
              λ k.
                  refl,
              (
                λ k. absurd (finds_something d past x no_read k),
                (λ k. refl, (λ k. refl, (λ k. refl, (λ k. refl, tt)))),
              ),
            ),
          ),
        ),
      ),
    ) h

accepted-not_again : (d : Description) (past : List Step) (x : Step)
    → is_again (accepted d past x).reply ≡ false
accepted-not_again d past Open = refl
accepted-not_again d past _ = refl

by_cases : (d : Description) (past : List Step) (x : Step) (o : Option Reply) → refused d past x ≡ o
    → is_read x ≡ false → is_again (answer_by o (accepted d past x)).reply ≡ false
by_cases d past x None h no_read = accepted-not_again d past x
by_cases d past x (Some reply) h no_read = refused-not_again d past x reply no_read h

-- no other step than a read is answered Again, since only a read can find nothing
pub not_again : (d : Description) (past : List Step) (x : Step) (given : Answer) → is_read x ≡ false
    → IsAnswer d past x given → is_again given.reply ≡ false
not_again d past x given no_read (inl e) = rw e (by_cases d past x (refused d past x) refl no_read)
not_again d past x given no_read (inr l) = rw l.2

agains_after-same : (reply : Reply) (n : ℕ) → is_again reply ≡ false → agains_after reply n ≡ n
agains_after-same (NothingVisible at ends) n h = absurd cc
agains_after-same _ n h = refl

-- Queries

-- the step is no read
abbrev pub IsNoRead : Step → Type 0
IsNoRead x = is_read x ≡ false

of_queries : (d : Description) (client : ℕ) → OfQueries d client IsNoRead
of_queries d client =
    record {
      keys = λ h. refl;
      leds = λ h. refl;
      switches = λ h. refl;
      axes =
          λ code h. refl;
      slots = λ h. refl;
    }

-- a reader's queries ask for states: none of them is a read
pub no_read-queries : (d : Description) (client : ℕ) → Each IsNoRead (queries d client)
no_read-queries d client = each-query d client IsNoRead (of_queries d client)

-- a synchronisation is a Discard and then queries: none of them is a read
pub no_read-sync : (d : Description) (client : ℕ) → Each IsNoRead (sync_steps d client)
no_read-sync d client = each-sync d client IsNoRead refl (of_queries d client)

-- the count on an evdev of this description
record Counts (d : Description) (n : ℕ) (told : EvdevView) : Type 0 where
  described : told.description ≡ d
  count : told.agains ≡ n

never-again : (d : Description) (before after : EvdevView) (x : Step) (a : Answer) → before.description ≡ d
    → IsNoRead x → IsCallOn before x a after → is_again a.reply ≡ false
never-again d before after x a same no_read h =
    not_again after.description (past_at after.seen (place_of a.reply)) x a no_read h.placed.exact

-- after a call that is no read, and after one that was accepted
counts-on : (d : Description) (n : ℕ) (before after : EvdevView) (x : Step) (a : Answer) → Counts d n before
    → IsCallOn before x a after → agains_after a.reply before.agains ≡ before.agains → Counts d n after
counts-on d n before after x a c h same =
    record { described = h.description ∙ c.described; count = h.agains ∙ same ∙ c.count }

abbrev CountsSoFar : Description → ℕ → EvdevView → View → List Step → Type 0
CountsSoFar d n told view left = Counts d n told × Each IsNoRead left

counts-asks : (d : Description) (n : ℕ) (Q : EvdevView → Result View Reply → Type 0)
    → ((told : EvdevView) (view : View) → Counts d n told → Q told (Ok view))
    → ((told : EvdevView) (reply : Reply) → Counts d n told → is_again reply ≡ false → Q told (Err reply))
    → AskRules Any IsCallOn (CountsSoFar d n) Q
counts-asks d n Q whole stopped = record {
  asks = λ s view x xs j. tt;
  told = λ s t view x xs a j h is. (told s t x a j.0 j.1.0 h, j.1.1);
  stopped = λ s t view x xs a j h is.
      stopped t a.reply (told s t x a j.0 j.1.0 h) (never-again d s t x a j.0.described j.1.0 h);
  whole = λ s view j. whole s view j.0;
}
  where
    told : (s t : EvdevView) (x : Step) (a : Answer) → Counts d n s → IsNoRead x
        → IsCallOn s x a t → Counts d n t
    told s t x a c no_read h =
        counts-on d n s t x a c h
        (agains_after-same a.reply s.agains (never-again d s t x a c.described no_read h))

-- `next`

again_stopped : (reply : Reply) (n : ℕ) → is_again reply ≡ false → n ≡ agains_after_next (stop_of reply) n
again_stopped reply n h =
    stop-cases (λ next. n ≡ agains_after_next next n) reply
    (λ at ends is. absurd (true≢false (sym (ap is_again is) ∙ h)))
    refl refl (λ at. refl)

again_stop : (reply : Reply) (n : ℕ) → agains_after reply n ≡ agains_after_next (stop_of reply) n
again_stop (NothingVisible at ends) n = refl
again_stop reply n = agains_after-same reply n refl ∙ again_stopped reply n refl

accepted-same : (reply : Reply) (n : ℕ) → is_accepted reply ≡ true → agains_after reply n ≡ n
accepted-same (NothingVisible at ends) n h = absurd cc
accepted-same _ n h = refl

abbrev Rises : ℕ → EvdevView → Next × ReaderState → Type 0
Rises n told result = told.agains ≡ agains_after_next result.0 n

abbrev CountsIn : Description → ℕ → EvdevView → ReaderState → Type 0
CountsIn d n told r = Counts d n told

rises-rules : (d : Description) (n : ℕ) (mode : Mode) → NextRules Any IsCallOn (CountsIn d n) (Rises n) d mode
rises-rules d n mode = record {
  asks_read = λ s r c. tt;
  reads = λ s t r a c plain none h is.
      counts-on d n s t (Read r.client 64) a c h (accepted-same a.reply s.agains is);
  stops = λ s t r a c plain none h is. rw (h.agains, again_stop, c.count);
  hands = λ s r taken rest c plain q is. c.count;
  loses = λ s r taken rest c plain q is. c.count;
  empty = λ s r c plain q. c.count;
  idles = λ s r c plain is. c.count;
  syncs = λ s r c needed.
      sync-meets Any IsCallOn (CountsSoFar d n) (Renewed (CountsIn d n) (Rises n) r) d s r
      (counts-asks d n (Renewed (CountsIn d n) (Rises n) r) (λ told view c. c) (λ told reply c never. c.count
      ∙ again_stopped reply n never))
      (c, no_read-sync d r.client);
  makes = λ s r event left c handing sync is. c.count;
  made_all = λ s r c handing sync is. c.count;
  goes_on = λ s r c handing is. c;
}

-- the count rises by one where `next` answers Again
pub says-agains : (d : Description) {before after : EvdevView} {made : List CallMade} (mode : Mode)
    (r : ReaderState) {s : ReaderState} {next : Next} → before.description ≡ d
    → FollowsTalk before after [] made (next_talk d mode r) (next, s)
    → after.agains ≡ agains_after_next next before.agains
says-agains d {before} {after} {made} mode r {s} {next} same h =
    let n : ℕ = before.agains in
    next-says (CountsIn d n) (Rises n) d mode (rises-rules d n mode) before after [] made r (next, s)
    (record { described = same; count = refl }) h

-- it stays in a start
pub says-no_agains : (d : Description) (before after : EvdevView) (made : List CallMade) (r : ReaderState)
    (result : Started × ReaderState) → before.description ≡ d
    → FollowsTalk before after [] made (start_talk d r) result → after.agains ≡ before.agains
says-no_agains d before after made r result same h =
    let n : ℕ = before.agains in
    let Q : EvdevView → Started × ReaderState → Type 0 = λ told o. told.agains ≡ n in
    let c : Counts d n before = record { described = same; count = refl } in
    says-meets Any Q before after [] made (start_talk d r) result
    (start-meets Any IsCallOn Q d r before (record {
      asks_open = tt;
      opened = λ t a at client ring call is.
          asked-meets Any IsCallOn (CountsSoFar d n) (Queried Q client ring r)
          (counts-asks d n (Queried Q client ring r) (λ told view k. k.count) (λ told reply k never. k.count))
          t (queries d client) r.view
          (counts-on d n before t Open a c call (opens-same t a call), no_read-queries d client);
      refused = λ t a call other. (counts-on d n before t Open a c call (opens-same t a call)).count;
    })) h
  where
    opens-same : (t : EvdevView) (a : Answer) → IsCallOn before Open a t
        → agains_after a.reply before.agains ≡ before.agains
    opens-same t a call =
        agains_after-same a.reply before.agains (never-again d before t Open a same refl call)
