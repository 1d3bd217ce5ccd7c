-- Where so many turns are enough for a read, more of them change nothing, whatever is answered.
use Rattle.std.proofs.Common.{ℕ, zero, suc, ◌≤◌, true, false, if◌then◌else◌, List, Some, None, arith}
use Rattle.std.specs.Prelude.{Option}
use Rattle.inp_model.specs.Description.{Description}
use Rattle.inp_model.specs.Run.{Call}
use Rattle.inp_reader.specs.Talk.{Talk, finish, and_then, EndsWith}
use Rattle.inp_reader.proofs.Calls.{IsSplit, split-and_then, finished}
use Rattle.inp_reader.proofs.Talks.{LeadsTo-append, LeadsTo-and_then}
use Rattle.inp_joy.specs.declared.joy_read.JoyRead.TheVariants.{More}
use Rattle.inp_joy.specs.Joy.{JoystickState, JoyAnswer, JoyTurn, gives, goes_on, stop_with, is_long}
use Rattle.inp_joy.specs.Joy.{turn_talk}
use Rattle.inp_joy.specs.Joy.{with_count, after_turn, turns}

-- a read that ends within so many turns ends with the same calls where more are allowed
pub turns-longer : (d : Description) (n m k : ℕ) (j : JoystickState) (calls : List Call) (a : JoyAnswer)
    → n ≤ m → EndsWith (turns d n k j) calls (Some a) → EndsWith (turns d m k j) calls (Some a)
unfolding turns
turns-longer d zero m k j calls a le h = let f = finished None (Some a) calls h in absurd cc
turns-longer d (suc n) zero k j calls a le h = absurd (omega (arith, le))
turns-longer d (suc n) (suc m) k j calls a le h =
    let first : Talk (ℕ × JoyTurn) = with_count (turn_talk d j) k in
    let next : ℕ × JoyTurn → Talk (Option JoyAnswer) = λ o. after_turn d (turns d n) o.0 o.1 in
    let longer : ℕ × JoyTurn → Talk (Option JoyAnswer) = λ o. after_turn d (turns d m) o.0 o.1 in
    let s : IsSplit first next calls (Some a) = split-and_then first next calls (Some a) h in
    rw s.calls_are
    (LeadsTo-append (and_then first longer) (longer s.between) (finish (Some a)) s.first s.later
    (LeadsTo-and_then first (finish s.between) longer s.first s.first_ends)
    (by_turn s.between.0 s.between.1 s.later
    (λ (count : ℕ) (here : JoystickState) e.
    turns-longer d n m count here s.later a (omega (arith, le)) e) s.later_ends))
  where
    by_turn : (count : ℕ) (turn : JoyTurn) (later : List Call)
        → ((count : ℕ) (here : JoystickState) → EndsWith (turns d n count here) later (Some a)
        → EndsWith (turns d m count here) later (Some a))
        → EndsWith (after_turn d (turns d n) count turn) later (Some a)
        → EndsWith (after_turn d (turns d m) count turn) later (Some a)
    by_turn count (gives answer) later go_on e = e
    by_turn count (goes_on here) later go_on e =
        (elim (is_long d here count) as (λ b.
        EndsWith (if b then finish (Some (stop_with More here)) else turns d n count here) later (Some a)
        → EndsWith (if b then finish (Some (stop_with More here)) else turns d m count here) later (Some a))
        [ true ↦ λ k. k | false ↦ λ k. go_on count here k ]) e
