-- Injecting a stream, some events at a time, makes the calls of its line, and so does a single call that is
-- noted.
use Rattle.std.proofs.Common.{◌≡◌, ℕ, suc, ◌+◌, ◌-◌, ◌<◌, ◌≤◌, nat_lt, nat_le, List, [], ◌∷◌, ◌++◌, length}
use Rattle.std.proofs.Common.{refl, Bool, true, false, if◌then◌else◌, Option, Some, arith}
use Rattle.std.proofs.lemmas.Bool.Decides.{nat_tests}
use Rattle.std.proofs.lemmas.Bool.{cond_both}
use Rattle.inp_script.specs.Notes.{IsNoted, injected_calls, notes_after}
use Rattle.inp_script.proofs.Common.{Stamped, Step, Reply, EvdevView, Answer, Call, ReaderState, Notes, Holds}
use Rattle.inp_script.proofs.Common.{Begins, Job, Stick, job_of, job_with, IsStepMade}
use Rattle.inp_script.proofs.Common.{AreCalls, Talk, finish, LeadsTo, after_call, call_talk, call_if}
use Rattle.inp_script.proofs.Common.{stream_talk}
use Rattle.inp_model.specs.declared.injected.Injected.{Injected}
use Rattle.inp_model.specs.Injection.{AreInTime, IsInjectAll, entered_call, calls_of}
use Rattle.inp_model.proofs.Leaves.{AreCalls-append}
use Rattle.inp_reader.proofs.Talks.{LeadsTo-append}
use Rattle.inp_script.proofs.Batches.{made-calls}
use Rattle.inp_script.proofs.TalkCalls.{holds-one, begins-one, begins-same}

-- a call that was noted leaves the job that the definition says
pub noted-job : (before after : EvdevView) (x : Step) (reply : Reply) (old new : Notes) (r : ReaderState)
    (stick : Stick) (n : IsNoted before after x reply old new)
    → after_call (job_with r stick old) x n.answer ≡ job_with r stick new
noted-job before after x reply old new r stick n = rw n.noted

-- the talk of one call makes that call, and its job is the one that the note leaves
pub holds-noted : (before after : EvdevView) (x : Step) (reply : Reply) (old new : Notes) (r : ReaderState)
    (stick : Stick) → IsNoted before after x reply old new
    → Holds before after (call_talk (job_with r stick old) x) (Some (job_with r stick new))
holds-noted before after x reply old new r stick n =
    holds-one before after x n.answer
    (λ (answer : Answer). finish (Some (after_call (job_with r stick old) x answer))) _ n.is_call
    (rw noted-job)

-- such a call, whether it was noted or not
pub begins-call_if : (before after : EvdevView) (x : Step) (o : Option Step) (j : Job) → Some x ≡ o
    → IsStepMade before after x → Begins before after (call_if j o)
begins-call_if before after x o j is made =
    begins-same before after _ _ (rw (← is))
    (begins-one before after x (λ (answer : Answer). finish (Some (after_call j x answer))) made)

-- Events that one call injects

-- a job after these calls
abbrev job_after : List Call → Job → Job
job_after [] j = j
job_after (call ∷ calls) j = job_after calls (after_call j call.step call.answer)

noted-jobs : (calls : List Call) (r : ReaderState) (notes : Notes)
    → job_after calls (job_of r notes) ≡ job_of r (notes_after calls notes)
noted-jobs [] r notes = refl
noted-jobs (call ∷ calls) r notes = noted-jobs calls r (notes_after (call ∷ []) notes)

-- how a stream goes on behind some of its events
abbrev go_on : Bool → List Stamped → Job → Talk (Option Job)
go_on all later j = if all then stream_talk later j else finish (Some j)

one_less : (n count : ℕ) → 1 ≤ count → nat_le n (count - 1) ≡ nat_le (suc n) count
one_less n count h = grind (arith, nat_tests, h)

too_few : (n count : ℕ) → count ≡ 0 → nat_le (suc n) count ≡ false
too_few n count h = grind (arith, nat_tests, h)

none_left : (count : ℕ) → nat_le 0 count ≡ true
none_left count = grind (arith, nat_tests)

some-leads : (limit count from : ℕ) (events later : List Stamped) (j : Job) → limit ≡ from + count
    → LeadsTo (stream_talk (events ++ later) j) (calls_of limit from events)
    (go_on (nat_le (length events) count) later (job_after (calls_of limit from events) j))
unfolding LeadsTo stream_talk
some-leads limit count from [] later j is = rw none_left
some-leads limit count from (stamped ∷ events) later j is =
    cond_both (nat_lt from limit) _ _
    (λ calls. LeadsTo (stream_talk (stamped ∷ (events ++ later)) j) calls
    (go_on (nat_le (suc (length events)) count) later (job_after calls j)))
    (λ room.
    let below : from < limit = grind (arith, nat_tests, room) in
    let more : 1 ≤ count = omega (arith, below, is) in (
      refl,
      rw (one_less (length events) count more) at (some-leads limit (count - 1) (suc from) events later
          (job_after (entered_call from stamped ∷ []) j) (omega (arith, below, is))),
    ))
    (λ room.
    let above : limit ≤ from = grind (arith, nat_tests, room) in
    let none : count ≡ 0 = omega (arith, above, is) in
    (refl, rw (too_few (length events) count none)))

-- A stream, of which the rest was not yet injected.
pub record IsInjected (before after : EvdevView) (stream rest : List Stamped) (old new : Notes) : Type 0 where
  -- the calls made so far
  pub calls : List Call
  -- for any reader, the calls lead from the whole stream to its rest
  pub leads : (r : ReaderState)
      → LeadsTo (stream_talk stream (job_of r old)) calls (stream_talk rest (job_of r new))
  -- the calls were made, one after another
  pub are_calls : AreCalls before after calls
  -- the moments of the rest are within their limit
  pub in_time : AreInTime rest

-- before the first event no call was made, and all is left
pub injected-none : (told : EvdevView) (stream : List Stamped) (notes : Notes) → AreInTime stream
    → IsInjected told told stream stream notes notes
unfolding LeadsTo AreCalls
injected-none told stream notes h = record { calls = []; leads = λ r. refl; are_calls = refl; in_time = h }

-- as many more as a call injected, whether they were noted or not
module _ (before between after : EvdevView) (stream rest events later : List Stamped) (old mid : Notes)
    (injected : Injected) (s : IsInjected before between stream rest old mid) (is : rest ≡ events ++ later)
    (some : 1 ≤ length events) (all : IsInjectAll between after events injected) where
  more_leads : (r : ReaderState)
      → LeadsTo (stream_talk stream (job_of r old)) (s.calls ++ injected_calls injected events)
      (go_on (nat_le (length events) injected.count) later
      (job_of r (notes_after (injected_calls injected events) mid)))
  more_leads r =
      let limit : ℕ = injected.from + injected.count in
      let calls : List Call = injected_calls injected events in
      LeadsTo-append (stream_talk stream (job_of r old)) (stream_talk rest (job_of r mid))
      (go_on (nat_le (length events) injected.count) later (job_of r (notes_after calls mid))) s.calls
      calls (s.leads r)
      (rw is
      (rw noted-jobs at (some-leads limit injected.count injected.from events later (job_of r mid) refl)))

  more_calls : AreCalls before after (s.calls ++ injected_calls injected events)
  more_calls =
      AreCalls-append before between after s.calls _ s.are_calls
      (made-calls between after events injected some all)

  noted_leads : (r : ReaderState) (on : Bool) (new : Notes) → on ≡ nat_le (length events) injected.count
      → new ≡ notes_after (injected_calls injected events) mid
      → LeadsTo (stream_talk stream (job_of r old)) (s.calls ++ injected_calls injected events)
      (go_on on later (job_of r new))
  noted_leads r on new entered noted = rw (entered, noted) (more_leads r)

  -- all events of a part were entered, so the stream goes on with what is behind it
  pub injected-more : (new : Notes) → AreInTime later → true ≡ nat_le (length events) injected.count
      → new ≡ notes_after (injected_calls injected events) mid
      → IsInjected before after stream later old new
  injected-more new in_time entered noted = record {
    calls = s.calls ++ injected_calls injected events;
    leads = λ r. noted_leads r true new entered noted;
    are_calls = more_calls;
    in_time = in_time;
  }

  -- an event was refused, and the stream ends there
  pub injected-refused : (new : Notes) → false ≡ nat_le (length events) injected.count
      → new ≡ notes_after (injected_calls injected events) mid → (r : ReaderState)
      → Holds before after (stream_talk stream (job_of r old)) (Some (job_of r new))
  injected-refused new entered noted r = record {
    calls = s.calls ++ injected_calls injected events;
    talk_ends = noted_leads r false new entered noted;
    are_calls = more_calls;
  }

  pub injected-begun : (r : ReaderState) → Begins before after (stream_talk stream (job_of r old))
  injected-begun r = record {
    calls = s.calls ++ injected_calls injected events;
    rest =
        go_on (nat_le (length events) injected.count) later
        (job_of r (notes_after (injected_calls injected events) mid));
    leads = more_leads r;
    are_calls = more_calls;
  }

-- the calls so far are the first ones of the whole stream
pub injected-so_far : (before after : EvdevView) (stream rest : List Stamped) (old new : Notes)
    → IsInjected before after stream rest old new → (r : ReaderState)
    → Begins before after (stream_talk stream (job_of r old))
injected-so_far before after stream rest old new s r =
    record {
      calls = s.calls;
      rest = stream_talk rest (job_of r new);
      leads = s.leads r;
      are_calls = s.are_calls;
    }

-- nothing is left of the stream, so its calls are all made
pub injected-all : (before after : EvdevView) (stream rest : List Stamped) (old new : Notes) → rest ≡ []
    → IsInjected before after stream rest old new → (r : ReaderState)
    → Holds before after (stream_talk stream (job_of r old)) (Some (job_of r new))
unfolding stream_talk
injected-all before after stream rest old new none s r = record {
  calls = s.calls;
  talk_ends = rw none at (s.leads r);
  are_calls = s.are_calls;
}
