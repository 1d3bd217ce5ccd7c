use Rattle.std.proofs.Common.{◌≡◌, ◌++◌, take, string_bytes}
use Rattle.std.specs.List.{flat_map, enumerate_from}
use Rattle.inp_record.specs.canon.Words.{lines_text}
use Rattle.inp_record.specs.canon.Text.{device_lines}
use Rattle.inp_record.proofs.canon.text.push_devices.Given as goal

-- the devices so far
abbrev pub invariant-loop-index : goal.invariant-loop-index
invariant-loop-index l =
    string_bytes l.text ≡ string_bytes l.initial.text
    ++ lines_text (flat_map (device_lines l.actors) (take l.index (enumerate_from 0 l.devices)))
