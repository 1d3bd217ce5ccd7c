-- Calls on a device of which each place is the caller's are those of the one-thread device, one after
-- another.
use Rattle.std.proofs.Common.{◌≡◌, ℕ, suc, ◌+◌, ◌≤◌, Bool, true, false, if◌then◌else◌, List, [], ◌∷◌, ◌++◌}
use Rattle.std.proofs.Common.{length, reverse, refl, sym, ap, ◌∙◌, arith, inl, inr, Option, Some, None}
use Rattle.std.proofs.Common.{length-append, IsTrue}
use Rattle.std.proofs.lemmas.List.{reverse-reverse, append-nil}
use Rattle.inp_model.specs.Evdev.{IsCall}
use Rattle.inp_runs.proofs.Common.{range_with_len, length-reverse, reverse-append, Step, Description}
use Rattle.inp_runs.proofs.Common.{EvdevView, past_at, IsAnswer, answer, is_accepted, past_after, Call}
use Rattle.inp_runs.proofs.Common.{place_of, Talk, finish, ask, EndsWith, Job}
use Rattle.std.specs.List.{slice_get}
use Rattle.std.proofs.Math.Seq.{take-append_seam}
use Rattle.std.proofs.lemmas.List.FromFn.{length-range_with_len}
use Rattle.inp_model.specs.DeviceView.{DeviceView, evdev_view}
use Rattle.inp_model.specs.Leaves.{AreCalls}
use Rattle.inp_reader.specs.Talk.{LeadsTo, talk_with}
use Rattle.inp_runs.proofs.memory.Memory.{GivesUp, never_both}

-- A call leaves no fewer places of others than there were

call-gap : (a m : EvdevView) (call : Call) → IsCall a m call
    → length a.seen + length m.own ≤ length m.seen + length a.own
call-gap a m call h = by_flag (is_accepted call.answer.reply) h.own h.long
  where
    at : ℕ
    at = place_of call.answer.reply

    by_flag : (b : Bool) → m.own ≡ (if b then a.own ++ at ∷ [] else a.own)
        → length m.seen ≡ (if b then suc at else at)
        → length a.seen + length m.own ≤ length m.seen + length a.own
    by_flag true own long = omega (arith, h.fresh, long, ap length own, length-append a.own (at ∷ []))
    by_flag false own long = omega (arith, h.fresh, long, ap length own)

calls-gap : (a b : EvdevView) (calls : List Call) → AreCalls a b calls
    → length a.seen + length b.own ≤ length b.seen + length a.own
unfolding AreCalls
calls-gap a b [] are = rw are (omega arith)
calls-gap a b (call ∷ calls) are = omega (arith, call-gap a are.0 call are.1, calls-gap are.0 b calls are.2)

slice_get-seam : (xs ys : List Step) → slice_get (xs ++ ys) (length xs) ≡ slice_get ys 0
slice_get-seam [] ys = refl
slice_get-seam (x ∷ xs) ys = slice_get-seam xs ys

last_step : (xs more : List Step) (x : Step) → length more ≡ 1 → slice_get (xs ++ more) (length xs) ≡ Some x
    → reverse (xs ++ more) ≡ x ∷ reverse xs
last_step xs [] x one h = absurd (omega (arith, one))
last_step xs (y ∷ []) x one h =
    let same : Some y ≡ Some x = sym (slice_get-seam xs (y ∷ [])) ∙ h in
    let is : y ≡ x = cc in
    rw (reverse-append, is)
last_step xs (y ∷ z ∷ more) x one h = absurd (omega (arith, one))

no_more : (xs more : List Step) → length more ≡ 0 → reverse (xs ++ more) ≡ reverse xs
no_more xs [] none = ap reverse (append-nil xs)
no_more xs (y ∷ more) none = absurd (omega (arith, none))

-- the call was answered after all that was seen before, and nobody made a step besides
record IsAloneAfterCall (d : Description) (past : List Step) (m : EvdevView) (call : Call) : Type 0 where
  exact : IsAnswer d past call.step call.answer
  now : reverse m.seen ≡ past_after call.answer.reply call.step past
  alone : length m.own ≡ length m.seen

next_call : (d : Description) (a m : EvdevView) (call : Call) → a.description ≡ d
    → length a.own ≡ length a.seen → length m.seen ≤ length m.own → IsCall a m call
    → IsAloneAfterCall d (reverse a.seen) m call
next_call d a m call same full few h =
    by_flag (is_accepted call.answer.reply) h.own h.long h.placed.entered refl
  where
    at : ℕ
    at = place_of call.answer.reply

    more : List Step
    more = h.seen.0

    whole : m.seen ≡ a.seen ++ more
    whole = h.seen.1

    exact_at : at ≡ length a.seen → IsAnswer d (reverse a.seen) call.step call.answer
    exact_at e =
        let before : past_at m.seen at ≡ reverse a.seen = rw (e, whole, take-append_seam) in
        rw before at
        (rw (h.description, same) at h.placed.exact)

    by_flag : (b : Bool) → m.own ≡ (if b then a.own ++ at ∷ [] else a.own)
        → length m.seen ≡ (if b then suc at else at) → (IsTrue b → slice_get m.seen at ≡ Some call.step)
        → is_accepted call.answer.reply ≡ b → IsAloneAfterCall d (reverse a.seen) m call
    by_flag true own long entered e =
        let place : at ≡ length a.seen =
        omega (arith, h.fresh, long, few, full, ap length own, length-append a.own (at ∷ [])) in
        let one : length more ≡ 1 = omega (arith, long, place, ap length whole, length-append a.seen more) in
        let there : slice_get (a.seen ++ more) (length a.seen) ≡ Some call.step =
        rw (← place, ← whole) (entered refl) in
        record {
          exact = exact_at place;
          now = rw (e, ← last_step a.seen more call.step one there, ← whole);
          alone = omega (arith, long, place, full, ap length own, length-append a.own (at ∷ []));
        }
    by_flag false own long entered e =
        let place : at ≡ length a.seen = omega (arith, h.fresh, long, few, full, ap length own) in
        let none : length more ≡ 0 = omega (arith, long, place, ap length whole, length-append a.seen more) in
        record {
          exact = exact_at place;
          now = rw (e, ← no_more a.seen more none, ← whole);
          alone = omega (arith, long, place, full, ap length own);
        }

calls-alone : (d : Description) (a b : EvdevView) (talk : Talk (Option Job)) (calls : List Call) (j : Job)
    → a.description ≡ d → length a.own ≡ length a.seen → length b.own ≡ length b.seen → GivesUp talk
    → EndsWith talk calls (Some j) → AreCalls a b calls
    → talk_with d (reverse a.seen) talk ≡ (Some j, reverse b.seen)
unfolding AreCalls LeadsTo talk_with
calls-alone d a b talk [] j same full all g h are = rw (h, ← are)
calls-alone d a b (finish o) (call ∷ calls) j same full all g h are = elim h [ ]
calls-alone d a b (ask x rest) (call ∷ calls) j same full all g h are =
    let m : EvdevView = are.0 in
    let few : length m.seen ≤ length m.own = omega (arith, all, calls-gap m b calls are.2) in
    let next : IsAloneAfterCall d (reverse a.seen) m call = next_call d a m call same full few are.1 in
    let more : talk_with d (reverse m.seen) (rest call.answer) ≡ (Some j, reverse b.seen) =
    calls-alone d m b (rest call.answer) calls j (are.1.description ∙ same) next.alone all
    (g.1 call.answer) h.1 are.2 in
    elim next.exact [
      | inl e ↦
          let is : call.answer ≡ answer d (reverse a.seen) x = e ∙ ap (answer d (reverse a.seen)) h.0 in
          rw (← is, ← h.0, ← next.now) more
      | inr lacks ↦
          let none : rest call.answer ≡ finish None =
          ap rest lacks.2 ∙ g.0 (sym h.0 ∙ lacks.0) (length (reverse a.seen)) in
          absurd (never_both calls j (rw none at h.1))
    ]

-- of a device
pub device-alone : (a b : DeviceView) (talk : Talk (Option Job)) (calls : List Call) (j : Job) → GivesUp talk
    → EndsWith talk calls (Some j) → AreCalls (evdev_view a) (evdev_view b) calls
    → talk_with a.description a.past talk ≡ (Some j, b.past)
device-alone a b talk calls j g h are =
    let full : (past : List Step) → length (range_with_len 0 (length past)) ≡ length (reverse past) =
    λ past. length-range_with_len 0 (length past) ∙ sym (length-reverse past) in
    rw (
      ← reverse-reverse a.past,
      calls-alone a.description (evdev_view a) (evdev_view b) talk calls j refl (full a.past)
          (full b.past) g h are,
      reverse-reverse b.past,
    )
