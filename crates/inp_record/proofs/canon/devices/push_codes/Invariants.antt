use Rattle.std.proofs.Common.{◌≡◌, ◌++◌, ◌-◌, string_bytes}
use Rattle.std.specs.List.{flat_map, range_with_len}
use Rattle.inp_record.specs.canon.Words.{lines_text}
use Rattle.inp_record.specs.canon.Device.{code_lines}
use Rattle.inp_record.proofs.canon.devices.push_codes.Given as goal

-- the lines so far
abbrev pub invariant-loop-code : goal.invariant-loop-code
invariant-loop-code l =
    string_bytes l.text ≡ string_bytes l.initial.text
    ++ lines_text (flat_map (code_lines l.caps l.kind) (range_with_len 0 (l.code - 0)))
