use Rattle.std.proofs.Common.{Option}
use Rattle.inp_c.specs.declared.kept.Kept.{Kept}
use Rattle.inp_c.specs.Contents.{contents}
use Rattle.inp_c.specs.ClientTold.{IsToldClient}
use Rattle.inp_c.proofs.Along.{at_contents}
use Rattle.inp_c.proofs.client_told.inputplay_client.Goals as goal

-- the client's state is told of what the handle keeps
pub returns-clause-told : goal.returns-clause-told
returns-clause-told c = λ ok.
    at_contents Kept (λ (k : Option Kept). IsToldClient k c.args.client c.client_in-status.new.state)
    (contents c.args.handle.now) c.take-kept.result.value c.deref.result.now c.take-kept.ensures.kept
    c.deref.ensures (c.client_in-status.ensures.told ok)
