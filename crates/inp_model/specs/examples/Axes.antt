-- Short histories worked out by hand: axes that are described anew (docs/RULES.md, "Axes described anew").
use Rattle.std.specs.Prelude.{pos, negsuc, List, [], ◌∷◌, ◌++◌, replicate}
use Rattle.inp_model.specs.declared.axis_info.AxisInfo.{AxisInfo}
use Rattle.inp_model.specs.declared.multi_touch.TheConstants.{ABS_MT_SLOT, ABS_MT_POSITION_X}
use Rattle.inp_model.specs.declared.step.Step.{Step}
use Rattle.inp_model.specs.declared.step.Step.TheVariants.{Open, Read, GetAxis, SetAxis, Revoke, Inhibit, Uninhibit}
use Rattle.inp_model.specs.declared.reply.Reply.TheVariants.{Done, Axis, Again, Refused}
use Rattle.inp_model.specs.declared.reply.Refusal.TheVariants.{BadClient, NoDevice, BadKind, BadCode, BadInfo}
use Rattle.inp_model.specs.Description.{Description, one_key, no_info}
use Rattle.inp_model.specs.Reply.{alone}
use Rattle.inp_model.specs.examples.Frames.{report, at, took}
use Rattle.inp_model.specs.examples.Queries.{desk, inject, GivesOn}
use Rattle.inp_model.specs.examples.Slots.{touchpad, touch}

-- the axis X, which begins at 0 and ranges to 100, without fuzz
abbrev pub slider : Description
slider = record desk { infos = record no_info { maximum = pos 100 } ∷ replicate 63 no_info }

-- X at 10, of a range to 200, with a fuzz of 8
abbrev pub wide : AxisInfo
wide = record no_info { value = pos 10; maximum = pos 200; fuzz = pos 8 }

-- X at 50 is a frame; then X is described anew
abbrev pub widened : List Step
widened = Open ∷ inject (touch 0 (pos 50)) ∷ inject report ∷ SetAxis 0 0 wide ∷ []

-- it is done and passes nothing, and a query tells the new description
abbrev pub DescribesAnAxis : Type 0
DescribesAnAxis =
    GivesOn slider (Open ∷ inject (touch 0 (pos 50)) ∷ inject report ∷ []) (SetAxis 0 0 wide) (alone (Done 3))
    × GivesOn slider widened (GetAxis 0 0) (alone (Axis 4 wide))
    × GivesOn slider (widened ++ Read 0 16 ∷ inject report ∷ []) (Read 0 16) (alone (Again 6 0))

-- moves go on from the new value by the new fuzz: 13 is too near to it, and 14 counts as 11
abbrev pub MovesByTheNewFuzz : Type 0
MovesByTheNewFuzz =
    GivesOn slider (widened ++ Read 0 16 ∷ inject (touch 0 (pos 13)) ∷ inject report ∷ []) (Read 0 16) (alone (Again 7 0))
    × GivesOn slider (widened ++ Read 0 16 ∷ inject (touch 0 (pos 13)) ∷ inject (touch 0 (pos 14)) ∷ inject report ∷ []) (Read 0 16)
    (took 8 2 (at 7 0 (touch 0 (pos 11)) ∷ at 7 0 report ∷ []))
    × GivesOn slider (widened ++ inject (touch 0 (pos 14)) ∷ []) (GetAxis 0 0) (alone (Axis 5 (record wide { value = pos 11 })))

-- it ends no frame: what waits in the batch stays there, at the value that it was passed with
abbrev pub LeavesTheBatch : Type 0
LeavesTheBatch =
    GivesOn slider (Open ∷ inject (touch 0 (pos 50)) ∷ SetAxis 0 0 wide ∷ []) (Read 0 16) (alone (Again 3 0))
    × GivesOn slider (Open ∷ inject (touch 0 (pos 50)) ∷ SetAxis 0 0 wide ∷ inject report ∷ []) (Read 0 16)
    (took 4 2 (at 3 0 (touch 0 (pos 50)) ∷ at 3 0 report ∷ []))

-- while a device is inhibited too, and the end of an inhibition does not take it back
abbrev pub DescribesWhileInhibited : Type 0
DescribesWhileInhibited =
    GivesOn slider (Open ∷ Inhibit 1 ∷ []) (SetAxis 0 0 wide) (alone (Done 2))
    × GivesOn slider (Open ∷ Inhibit 1 ∷ SetAxis 0 0 wide ∷ Uninhibit ∷ []) (GetAxis 0 0) (alone (Axis 4 wide))

-- a value is not held to the range, and the last of several descriptions stands
abbrev pub TakesAnyValue : Type 0
TakesAnyValue =
    let outside : AxisInfo = record wide { value = negsuc 699; fuzz = pos 1073741824 } in
    GivesOn slider (widened ++ SetAxis 0 0 outside ∷ []) (GetAxis 0 0) (alone (Axis 5 outside))

-- a fuzz that is negative or above 2 ^ 30
abbrev pub negative : AxisInfo
negative = record no_info { fuzz = negsuc 0 }

-- the axes of slots stay as they are, and those that the device lacks; a fuzz has to be in range
abbrev pub RefusesDescriptions : Type 0
RefusesDescriptions =
    GivesOn slider [] (SetAxis 0 0 negative) (alone (Refused 0 BadClient))
    × GivesOn slider (Open ∷ Revoke 0 ∷ []) (SetAxis 0 0 wide) (alone (Refused 2 NoDevice))
    × GivesOn one_key (Open ∷ []) (SetAxis 0 64 wide) (alone (Refused 1 BadKind))
    × GivesOn touchpad (Open ∷ []) (SetAxis 0 ABS_MT_POSITION_X no_info) (alone (Refused 1 BadCode))
    × GivesOn touchpad (Open ∷ []) (SetAxis 0 ABS_MT_SLOT no_info) (alone (Refused 1 BadCode))
    × GivesOn slider (Open ∷ []) (SetAxis 0 1 wide) (alone (Refused 1 BadCode))
    × GivesOn slider (Open ∷ []) (SetAxis 0 64 negative) (alone (Refused 1 BadCode))
    × GivesOn slider (Open ∷ []) (SetAxis 0 0 negative) (alone (Refused 1 BadInfo))
    × GivesOn slider (Open ∷ []) (SetAxis 0 0 (record no_info { fuzz = pos 1073741825 })) (alone (Refused 1 BadInfo))
