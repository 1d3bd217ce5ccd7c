-- Events that are each in time, as the device takes them.
use Rattle.std.proofs.Common.{◌≡◌, ◌≤◌, zero, suc, Bool, true, false, ◌&&◌, nat_le, List, [], ◌∷◌, refl, sym}
use Rattle.std.proofs.Common.{arith}
use Rattle.std.proofs.lemmas.Bool.{true≢false}
use Rattle.std.proofs.lemmas.Bool.Decides.{nat_tests}
use Rattle.inp_model.specs.declared.stamped.Stamped.{Stamped}
use Rattle.inp_model.specs.declared.stamped.TheConstants.{MOMENT_MAX}
use Rattle.inp_model.specs.Injection.{AreInTime}
use Rattle.inp_c.specs.Injection.{are_timely}

both : (a b : Bool) → (a && b) ≡ true → (a ≡ true) × (b ≡ true)
both true true h = (refl, refl)
both true false h = absurd (true≢false (sym h))
both false b h = absurd (true≢false (sym h))

-- the test goes through all events, and each one's moment is at most the greatest there is
pub in_time : (events : List Stamped) → are_timely events ≡ true → AreInTime events
in_time [] h i s there = grind arith
in_time (event ∷ events) h zero s there =
    let first = (both (nat_le event.now MOMENT_MAX) (are_timely events) h).0 in
    let small : event.now ≤ MOMENT_MAX = grind (arith, nat_tests, first) in
    grind (arith, small, there)
in_time (event ∷ events) h (suc i) s there =
    in_time events (both (nat_le event.now MOMENT_MAX) (are_timely events) h).1 i s there
