use Rattle.std.proofs.Common.{◌≡◌, replicate, []}
use Rattle.inp_record.proofs.context.empty_streams.Given as goal

abbrev pub invariant-loop-i : goal.invariant-loop-i
invariant-loop-i l = l.streams ≡ replicate l._i []
