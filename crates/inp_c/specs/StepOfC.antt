-- The step that a struct of C is.
use Rattle.std.specs.Prelude.{ℕ, Option, Some, None, nat_eq, nat_lt, if◌then◌else◌}
use Rattle.std.specs.Option.{option_map}
use Rattle.inp_model.specs.declared.clock.Clock.{Clock}
use Rattle.inp_model.specs.declared.clock.Clock.TheVariants.{Realtime, Monotonic, Boottime}
use Rattle.inp_model.specs.declared.event.Event.{Event}
use Rattle.inp_model.specs.declared.stamped.TheConstants.{MOMENT_MAX}
use Rattle.inp_model.specs.declared.step.Step.{Step}
use Rattle.inp_model.specs.declared.step.Step.TheVariants.{Inject, Tick, Open, Close, Read, Discard, GetKeys, GetSwitches, GetLeds, GetSounds, GetAxis, SetAxis, GetSlots, SyncSlots, Write, Grab, Ungrab, Mask, Clock as ToClock, Revoke, Inhibit, Uninhibit, End}
use Rattle.inp_c.specs.declared.c_step.CStep.{CStep}

abbrev pub event_of_c : CStep → Event
event_of_c c = record { kind = c.kind; code = c.code; value = c.value }

-- the clock of this number, which is the kernel's
abbrev pub clock_numbered : ℕ → Option Clock
clock_numbered number =
    if nat_eq number 0 then Some Realtime
    else if nat_eq number 1 then Some Monotonic
    else if nat_eq number 7 then Some Boottime
    else None

-- the step of this number, with what it takes; there are 23
abbrev pub step_numbered : CStep → Option Step
step_numbered c =
    if nat_eq c.step 0 then Some (Inject (event_of_c c) c.moment)
    else if nat_eq c.step 1 then Some (Tick c.moment)
    else if nat_eq c.step 2 then Some Open
    else if nat_eq c.step 3 then Some (Close c.client)
    else if nat_eq c.step 4 then Some (Read c.client c.count)
    else if nat_eq c.step 5 then Some (Discard c.client)
    else if nat_eq c.step 6 then Some (GetKeys c.client)
    else if nat_eq c.step 7 then Some (GetSwitches c.client)
    else if nat_eq c.step 8 then Some (GetLeds c.client)
    else if nat_eq c.step 9 then Some (GetSounds c.client)
    else if nat_eq c.step 10 then Some (GetAxis c.client c.code)
    else if nat_eq c.step 11 then Some (SetAxis c.client c.code c.info)
    else if nat_eq c.step 12 then Some (GetSlots c.client c.code)
    else if nat_eq c.step 13 then Some (SyncSlots c.client)
    else if nat_eq c.step 14 then Some (Write c.client (event_of_c c) c.moment)
    else if nat_eq c.step 15 then Some (Grab c.client)
    else if nat_eq c.step 16 then Some (Ungrab c.client)
    else if nat_eq c.step 17 then Some (Mask c.client c.kind c.code c.bits)
    else if nat_eq c.step 18 then option_map (λ clock. ToClock c.client clock c.moment) (clock_numbered c.clock)
    else if nat_eq c.step 19 then Some (Revoke c.client)
    else if nat_eq c.step 20 then Some (Inhibit c.moment)
    else if nat_eq c.step 21 then Some Uninhibit
    else if nat_eq c.step 22 then Some End
    else None

-- the step, unless its moment is too late, or a number is not one that a step has
abbrev pub step_of_c : CStep → Option Step
step_of_c c = if nat_lt MOMENT_MAX c.moment then None else step_numbered c
