use Rattle.std.proofs.Common.{rules}
use Rattle.inp_record.specs.Verb.{command_of, command_row}
use Rattle.inp_record.proofs.command_parser.plain_command.Goals as goal

pub returns-in_err-moment-in-Inhibit : goal.returns-in_err-moment-in-Inhibit
unfolding command_of command_row
returns-in_err-moment-in-Inhibit c = rw c.in-Inhibit.is (search rules)

pub returns-in_ok-moment-in-Inhibit : goal.returns-in_ok-moment-in-Inhibit
unfolding command_of command_row
returns-in_ok-moment-in-Inhibit c = rw c.in-Inhibit.is (search rules)
