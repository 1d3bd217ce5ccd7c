use Rattle.std.proofs.Common.{◌∙◌}
use Rattle.inp_codes.specs.KindNames.{kind_of}
use Rattle.inp_codes.proofs.kinds.kind_named.Goals as goal

pub returns : goal.returns
unfolding kind_of
returns c = record { kind = c.number_at.ensures ∙ c.kind_rows.ensures.numbers.numbers c.args.name.now }
