use Rattle.std.proofs.Common.{◌*◌}
use Rattle.inp_bits.proofs.Indices.{true_indices-within, length-true_indices-le}
use Rattle.inp_bits.proofs.ones.Ones.new.Goals as goal

pub returns-clause-within : goal.returns-clause-within
returns-clause-within g c = true_indices-within c.args.left (64 * g.row.W) c.requires

pub returns-clause-few : goal.returns-clause-few
returns-clause-few g c = length-true_indices-le c.args.left (64 * g.row.W) c.requires
