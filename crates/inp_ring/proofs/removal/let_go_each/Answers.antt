use Rattle.std.proofs.Common.{arith}
use Rattle.inp_ring.proofs.Releases.{let_go_more, spare_less}
use Rattle.inp_ring.proofs.removal.let_go_each.Goals as goal

pub loop-number-preserved : goal.loop-number-preserved
loop-number-preserved c =
    let_go_more c.loop-number.invariant c.loop-number-test.true c.let_go.new.self c.let_go.ensures.released
    (spare_less _ _ _ c.let_go.ensures.spare) (omega (arith, c.let_go.ensures.room))
