use Rattle.std.proofs.Common.{◌≡◌, drop}
use Rattle.inp_edge.specs.File.{bytes_of}
use Rattle.inp_edge.proofs.mem_input.index_of.Given as goal

abbrev pub invariant-loop-i : goal.invariant-loop-i
invariant-loop-i l = bytes_of (drop l.i l.files) l.name ≡ bytes_of l.files l.name
