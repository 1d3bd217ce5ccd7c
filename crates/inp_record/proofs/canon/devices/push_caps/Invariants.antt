use Rattle.std.proofs.Common.{◌≡◌, ◌++◌, take, string_bytes}
use Rattle.std.specs.List.{flat_map}
use Rattle.inp_record.specs.canon.Words.{lines_text}
use Rattle.inp_record.specs.canon.Device.{codes_lines}
use Rattle.inp_record.proofs.canon.devices.push_caps.Given as goal

-- the types so far
abbrev pub invariant-loop-kind : goal.invariant-loop-kind
invariant-loop-kind l =
    string_bytes l.text ≡ string_bytes l.initial.text
    ++ lines_text (flat_map (codes_lines l.caps) (take l.kind-index l.kind-items))
