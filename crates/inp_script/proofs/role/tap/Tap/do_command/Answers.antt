use Rattle.inp_script.proofs.TalkCalls.{begins-none}
use Rattle.inp_script.proofs.role.tap.Tap.do_command.Goals as goal

-- of a command without a step no call is made
pub returns-in_default-clause-begun : goal.returns-in_default-clause-begun
returns-in_default-clause-begun g c = begins-none _ _
