use Rattle.std.proofs.Common.{◌≡◌, ◌++◌}
use Rattle.std.specs.List.{range_with_len, flat_map}
use Rattle.inp_make.specs.Generated.{frame_lines}
use Rattle.inp_make.proofs.generated_record.push_frames.Given as goal

abbrev pub invariant-loop-frame : goal.invariant-loop-frame
invariant-loop-frame l = l.lines ≡ l.fn.lines ++ flat_map (frame_lines l.number) (range_with_len 0 l.frame)
