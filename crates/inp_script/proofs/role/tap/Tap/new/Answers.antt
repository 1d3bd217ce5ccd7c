use Rattle.std.proofs.Common.{arith}
use Rattle.inp_recon.proofs.Sizes.{IsSizedFor-first_view}
use Rattle.inp_script.proofs.role.tap.Tap.new.Goals as goal

pub returns-clause-sized : goal.returns-clause-sized
returns-clause-sized c = record {
  view = rw c.in_ok-new.ensures.view ((IsSizedFor-first_view c.args.caps.now).cells);
  buffer = c.in_ok-vec.ensures.len;
  cells = omega (arith, c.in_ok-vec-2.ensures.len, c.slots.ensures.slots);
}
