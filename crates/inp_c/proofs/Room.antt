-- A step for which C's arrays are long enough has room for its answer.
use Rattle.std.proofs.Common.{◌≡◌, ◌≤◌, ℤ, Bool, true, false, ◌&&◌, nat_le, List, length, refl, sym, arith}
use Rattle.std.proofs.lemmas.Bool.{true≢false}
use Rattle.std.proofs.lemmas.Bool.Decides.{nat_tests}
use Rattle.inp_model.specs.declared.taken.Taken.{Taken}
use Rattle.inp_model.specs.declared.step.Step.{Step}
use Rattle.inp_model.specs.declared.step.Step.TheVariants.{Read, GetSlots, SyncSlots}
use Rattle.inp_model.specs.Description.{Description}
use Rattle.inp_model.specs.Reply.{HasRoom}
use Rattle.inp_actors.specs.declared.command.TheConstants.{READ_MAX}
use Rattle.inp_c.specs.Status.{has_room}

-- a read needs as many places as it asks for, a query of slots as many as it answers, others none
pub device_room : (d : Description) (x : Step) (events : List Taken) (cells : List ℤ)
    → has_room d x (length events) (length cells) ≡ true → HasRoom d x events cells
device_room d (Read client count) events cells h =
    second (nat_le count READ_MAX) (nat_le count (length events)) refl h
  where
    second : (a b : Bool) → nat_le count (length events) ≡ b → a && b ≡ true → count ≤ length events
    second true true q h = grind (arith, nat_tests, q)
    second true false q h = absurd (true≢false (sym h))
    second false b q h = absurd (true≢false (sym h))
device_room d (GetSlots client code) events cells h = grind (arith, nat_tests, h)
device_room d (SyncSlots client) events cells h = grind (arith, nat_tests, h)
device_room d _ events cells h = tt
