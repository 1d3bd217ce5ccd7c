-- The calls that a talk makes of the one-thread device: what they leave of its past, and at which places they
-- are entered.
use Rattle.std.proofs.Common.{◌≡◌, ℕ, ◌≤◌, Bool, true, false, if◌then◌else◌, List, [], ◌∷◌, ◌++◌, length}
use Rattle.std.proofs.Common.{reverse, refl, sym, ap, subst, ◌∙◌, arith, inl, None, ◌+◌, ◌&&◌, nat_eq}
use Rattle.std.proofs.Common.{zero-add}
use Rattle.inp_model.specs.Evdev.{BeginsWith, agains_after}
use Rattle.inp_runs.proofs.Common.{list_any, Step, Reply, Description, EvdevView, Answer, answer, refused}
use Rattle.inp_runs.proofs.Common.{past_after, is_accepted, Call, IsLegalRun, place_of, Talk, finish, ask}
use Rattle.inp_runs.proofs.Common.{EndsWith, IsHistory, call_lacks_memory, filter, nat_tests, Sight}
use Rattle.inp_runs.proofs.Common.{sight_of_calls, is_call_entry, cond_both}
use Rattle.inp_model.specs.DeviceView.{evdev_view}
use Rattle.inp_model.proofs.Told.{called_by, given_place}
use Rattle.inp_model.specs.Leaves.{AreCalls}
use Rattle.inp_reader.specs.Talk.{LeadsTo, talk_with, calls_with}
use Rattle.inp_reader.proofs.LessEffort.{place-below}
use Rattle.inp_script.proofs.Replies.{answer_has}
use Rattle.inp_script.proofs.Runs.{runs-on}
use Rattle.inp_model.proofs.Leaves.{seen-kept}
use Rattle.inp_runs.proofs.memory.ReaderTalks.{AreAnswered}
use Rattle.inp_runs.proofs.memory.Memory.{answered-memory}
use Rattle.inp_runs.proofs.Entries.{call_entries, entries, below, entries-append, entries-calls, entries-call}

-- the calls that a talk makes are its own
pub talk_with-ends : {A : Type 0} (d : Description) (past : List Step) (talk : Talk A)
    → EndsWith talk (calls_with d past talk) (talk_with d past talk).0
unfolding LeadsTo talk_with calls_with
talk_with-ends d past (finish a) = refl
talk_with-ends d past (ask x rest) =
    (refl, talk_with-ends d (past_after (answer d past x).reply x past) (rest (answer d past x)))

-- Calls that the one-thread device answered, from one past on to the other.
abbrev pub AreExact : Description → List Step → List Step → List Call → Type 0
AreExact d past after [] = after ≡ past
AreExact d past after (call ∷ calls) =
    (call.answer ≡ answer d past call.step)
    × AreExact d (past_after call.answer.reply call.step past) after calls

-- each answer of such a talk is the device's after the past so far
pub talk_with-exact : {A : Type 0} (d : Description) (past : List Step) (talk : Talk A)
    → AreExact d past (talk_with d past talk).1 (calls_with d past talk)
unfolding talk_with calls_with
talk_with-exact d past (finish a) = refl
talk_with-exact d past (ask x rest) =
    (refl, talk_with-exact d (past_after (answer d past x).reply x past) (rest (answer d past x)))

-- the calls that a device answered say what a talk with it leaves
pub exact-talk : {A : Type 0} (d : Description) (past after : List Step) (talk : Talk A) (calls : List Call)
    (result : A) → EndsWith talk calls result → AreExact d past after calls
    → talk_with d past talk ≡ (result, after)
unfolding LeadsTo talk_with
exact-talk d past after (finish a) [] result ends exact =
    let same : a ≡ result = cc in
    rw (same, ← exact)
exact-talk d past after (finish a) (call ∷ calls) result ends exact = absurd ends
exact-talk d past after (ask x rest) [] result ends exact = absurd (cc ends)
exact-talk {A} d past after (ask x rest) (call ∷ calls) result ends exact =
    let same : call.answer ≡ answer d past x = exact.0 ∙ ap (answer d past) ends.0 in
    let more =
    exact-talk d (past_after call.answer.reply call.step past) after
    (rest call.answer) calls result ends.1 exact.1 in
    rw same at
    (rw ends.0 at more)

-- What the caller of a device sees of them

abbrev device_after : Description → List Step → ℕ → EvdevView
device_after d past agains = evdev_view (record { description = d; past = past; agains = agains })

entered : (accepted : Bool) (x : Step) (past : List Step) (place one : ℕ)
    → one ≡ (if accepted && nat_eq (length past) place then 1 else 0)
    → one + below place (length past) ≡ below place (length (if accepted then x ∷ past else past))
entered true x past place one h = grind (arith, nat_tests, h)
entered false x past place one h = rw h (zero-add (below place (length past)))

regrouped : (new old gained from to : ℕ) → new ≡ old + gained → gained + from ≡ to → new + from ≡ old + to
regrouped new old gained from to h k = omega arith

module _ (d : Description) where
  -- the place of an answer
  pub answer-place : (past : List Step) (x : Step) → place_of (answer d past x).reply ≡ length past
  answer-place past x = given_place d past x (answer d past x) (inl refl)

  -- Each step was accepted after those before it

  history-one : (past : List Step) (x : Step) → IsHistory d past
      → IsHistory d (past_after (answer d past x).reply x past)
  history-one past x h =
      cond_both (is_accepted (answer d past x).reply) _ _ (IsHistory d)
      (λ is. (
        h,
        answer_has (λ given. is_accepted given.reply ≡ true → refused d past x ≡ None) d past x
            (λ refusal r e. absurd (let k : false ≡ true = sym r.accepted ∙ e in cc)) (λ none e. none) is,
      ))
      (λ _. h)

  -- a step enters the past only where nothing refused it
  pub exact-history : (past after : List Step) (calls : List Call) → AreExact d past after calls
      → IsHistory d past → IsHistory d after
  exact-history past after [] e h = subst (IsHistory d) (sym e) h
  exact-history past after (call ∷ calls) e h =
      exact-history (past_after call.answer.reply call.step past) after calls e.1
      (rw e.0 (history-one past call.step h))

  exact-calls : (past after : List Step) (agains : ℕ) (calls : List Call) → AreExact d past after calls
      → IsHistory d past → (n : ℕ) × AreCalls (device_after d past agains) (device_after d after n) calls
  unfolding AreCalls
  exact-calls past after agains [] e h = (agains, rw e)
  exact-calls past after agains (call ∷ calls) e h =
      let reply : Reply = call.answer.reply in
      let between : List Step = past_after reply call.step past in
      let history : IsHistory d between = rw e.0 (history-one past call.step h) in
      let more = exact-calls between after (agains_after reply agains) calls e.1 history in
      let placed : place_of reply ≡ length past = given_place d past call.step call.answer (inl e.0) in (
        more.0,
        (
          device_after d between (agains_after reply agains),
          called_by d past agains call.step call.answer (is_accepted reply) refl placed (inl e.0) h,
          more.1,
        ),
      )

  -- a past grows
  pub exact-grows : (past after : List Step) (calls : List Call) → AreExact d past after calls
      → IsHistory d past → BeginsWith (reverse past) (reverse after)
  exact-grows past after calls e h =
      let c = exact-calls past after 0 calls e h in
      seen-kept (device_after d past 0) (device_after d after c.0) calls c.1

  -- a legal run goes on with them
  pub exact-legal : (past after : List Step) (before calls : List Call) → AreExact d past after calls
      → IsHistory d past → IsLegalRun d (reverse past) before → IsLegalRun d (reverse after) (before ++ calls)
  exact-legal past after before calls e h l =
      let c = exact-calls past after 0 calls e h in
      runs-on d (device_after d past 0) (device_after d after c.0) before calls refl l c.1

  -- Memory does not run out

  -- each of these calls was answered after some past
  pub exact-answered : (past after : List Step) (calls : List Call) → AreExact d past after calls
      → AreAnswered d calls
  exact-answered past after [] e = tt
  exact-answered past after (call ∷ calls) e =
      (past, e.0, exact-answered (past_after call.answer.reply call.step past) after calls e.1)

  -- the one-thread device refuses nothing for want of memory
  pub exact-memory : (past after : List Step) (calls : List Call) → AreExact d past after calls
      → list_any call_lacks_memory calls ≡ false
  exact-memory past after calls e = answered-memory d calls (exact-answered past after calls e)

  -- The history stays within its limit

  within-one : (past : List Step) (x : Step) → length past ≤ d.log_limit
      → length (past_after (answer d past x).reply x past) ≤ d.log_limit
  within-one past x h =
      cond_both (is_accepted (answer d past x).reply) _ _ (λ (p : List Step). length p ≤ d.log_limit)
      (λ e. omega (arith, place-below d past x (answer d past x) (inl refl) e, answer-place past x)) (λ _. h)

  -- a step is accepted only below the limit, so the past does not grow beyond it
  pub exact-within : (past after : List Step) (calls : List Call) → AreExact d past after calls
      → length past ≤ d.log_limit → length after ≤ d.log_limit
  exact-within past after [] e h = omega (arith, ap length e)
  exact-within past after (call ∷ calls) e h =
      exact-within (past_after call.answer.reply call.step past) after calls e.1
      (rw e.0 (within-one past call.step h))

  entries-answered : (past : List Step) (place : ℕ) (x : Step) (a : Answer) → a ≡ answer d past x
      → entries place (call_entries x a.reply) + below place (length past)
      ≡ below place (length (past_after a.reply x past))
  entries-answered past place x a exact =
      let here : place_of a.reply ≡ length past = rw exact (answer-place past x) in
      entered (is_accepted a.reply) x past place (entries place (call_entries x a.reply))
      (rw (entries-call, here))

  -- what the calls entered
  pub entries-exact : (past after : List Step) (place : ℕ) (calls : List Call) → AreExact d past after calls
      → entries place (sight_of_calls calls) + below place (length past) ≡ below place (length after)
  entries-exact past after place [] e = rw (zero-add, ← e)
  entries-exact past after place (call ∷ calls) e =
      let reply : Reply = call.answer.reply in
      let between : List Step = past_after reply call.step past in
      rw entries-append
      (omega (
        arith,
        entries-answered past place call.step call.answer e.0,
        entries-exact between after place calls e.1,
      ))

  -- of a sight that gained what these calls tell
  pub entries-gained : (past after : List Step) (place : ℕ) (calls : List Call) (old new : List Sight)
      → AreExact d past after calls
      → filter is_call_entry new ≡ filter is_call_entry old ++ sight_of_calls calls
      → entries place new + below place (length past) ≡ entries place old + below place (length after)
  entries-gained past after place calls old new e told =
      let grown : entries place new ≡ entries place old + entries place (sight_of_calls calls) =
      rw (
        ← entries-calls place new,
        told,
        entries-append place (filter is_call_entry old) (sight_of_calls calls),
        entries-calls place old,
      ) in
      regrouped (entries place new) (entries place old) (entries place (sight_of_calls calls))
      (below place (length past)) (below place (length after)) grown (entries-exact past after place calls e)
