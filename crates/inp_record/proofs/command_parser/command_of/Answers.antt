use Rattle.std.proofs.Common.{rules, ◌≡◌, false}
use Rattle.inp_codes.specs.ByNumber.{texts}
use Rattle.inp_record.specs.Verb.{is_stream}
use Rattle.inp_record.proofs.Rows.{same_stream}
use Rattle.inp_record.proofs.command_parser.command_of.Goals as goal

pub returns-in_default : goal.returns-in_default
returns-in_default c =
    let plain : is_stream c.args.verb ≡ false = search rules in
    rw (same_stream c.args.index c.args.role c.args.verb (texts c.args.words.now) plain) (search rules)
