use Rattle.std.proofs.Common.{Option}
use Rattle.inp_c.specs.declared.kept.Kept.{Kept}
use Rattle.inp_c.specs.Contents.{contents}
use Rattle.inp_c.specs.ClientTold.{AreToldReadable}
use Rattle.inp_c.proofs.Along.{at_contents}
use Rattle.inp_c.proofs.client_told.inputplay_readable.Goals as goal

-- the clients that could read something are told of what the handle keeps
pub returns-clause-told : goal.returns-clause-told
returns-clause-told c = λ ok.
    at_contents Kept (λ (k : Option Kept).
    AreToldReadable k c.args.clients.now c.readable_in-status.new.clients c.readable_in-status.new.count)
    (contents c.args.handle.now) c.take-kept.result.value c.deref.result.now c.take-kept.ensures.kept
    c.deref.ensures (c.readable_in-status.ensures.told ok)
