use Rattle.std.proofs.Common.{◌≡◌, rules}
use Rattle.inp_record.specs.Verb.{verb_rows, verb_of}
use Rattle.inp_record.proofs.Rows.{count_found}
use Rattle.inp_record.proofs.verb.verb_of.Goals as goal

pub returns-clause-given : goal.returns-clause-given
unfolding verb_of verb_rows
returns-clause-given c =
    let is : c.with_arguments.result ≡ verb_of c.args.role c.args.word.now c.args.arguments = search rules in
    count_found c.args.role c.args.word.now c.args.arguments c.with_arguments.result is
