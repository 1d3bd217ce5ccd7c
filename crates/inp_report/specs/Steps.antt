-- How steps are written (docs/FORMATS.md, "Steps and replies").
use Rattle.std.specs.Prelude.{ℕ, List, ◌++◌, codes, decimal}
use Rattle.inp_model.specs.declared.event.TheConstants.{EV_ABS}
use Rattle.inp_model.specs.declared.step.Step.{Step}
use Rattle.inp_model.specs.declared.step.Step.TheVariants.{Inject, Tick, Open, Close, Read, Discard, GetKeys, GetSwitches, GetLeds, GetSounds, GetAxis, SetAxis, GetSlots, SyncSlots, Write, Grab, Ungrab, Mask, Clock as ToClock, Revoke, Inhibit, Uninhibit, End}
use Rattle.inp_texts.specs.Texts.{kind_text, code_text, bits_text, clock_text}
use Rattle.inp_report.specs.Words.{event_text, axis_numbers}

unfoldable pub step_text : Step → List ℕ
step_text (Inject e now) = codes "inject " ++ (decimal now ++ (codes " " ++ event_text e))
step_text (Tick now) = codes "tick " ++ decimal now
step_text Open = codes "open"
step_text (Close client) = codes "close " ++ decimal client
step_text (Read client count) = codes "read " ++ (decimal client ++ (codes " " ++ decimal count))
step_text (Discard client) = codes "discard " ++ decimal client
step_text (GetKeys client) = codes "getkeys " ++ decimal client
step_text (GetSwitches client) = codes "getswitches " ++ decimal client
step_text (GetLeds client) = codes "getleds " ++ decimal client
step_text (GetSounds client) = codes "getsounds " ++ decimal client
step_text (GetAxis client code) = codes "getaxis " ++ (decimal client ++ (codes " " ++ code_text EV_ABS code))
step_text (SetAxis client code info) =
    codes "setaxis " ++ (decimal client ++ (codes " " ++ (code_text EV_ABS code ++ axis_numbers info)))
step_text (GetSlots client code) = codes "getslots " ++ (decimal client ++ (codes " " ++ code_text EV_ABS code))
step_text (SyncSlots client) = codes "syncslots " ++ decimal client
step_text (Write client e now) = codes "write " ++ (decimal client ++ (codes " " ++ (decimal now ++ (codes " " ++ event_text e))))
step_text (Grab client) = codes "grab " ++ decimal client
step_text (Ungrab client) = codes "ungrab " ++ decimal client
step_text (Mask client kind word bits) =
    codes "mask " ++ (decimal client ++ (codes " " ++ (kind_text kind ++ (codes " " ++ (decimal word ++ (codes " " ++ bits_text bits))))))
step_text (ToClock client clock now) =
    codes "clock " ++ (decimal client ++ (codes " " ++ (clock_text clock ++ (codes " " ++ decimal now))))
step_text (Revoke client) = codes "revoke " ++ decimal client
step_text (Inhibit now) = codes "inhibit " ++ decimal now
step_text Uninhibit = codes "uninhibit"
step_text End = codes "end"
