use Rattle.std.proofs.Common.{Option}
use Rattle.inp_c.specs.declared.kept.Kept.{Kept}
use Rattle.inp_c.specs.Contents.{contents}
use Rattle.inp_c.specs.DeviceTold.{AreOnBits}
use Rattle.inp_c.proofs.Along.{at_contents}
use Rattle.inp_c.proofs.device_told.inputplay_device_state.Goals as goal

-- the bits that are on are told of what the handle keeps
pub returns-clause-told : goal.returns-clause-told
returns-clause-told c = λ ok.
    at_contents Kept (λ (k : Option Kept). AreOnBits k c.args.kind c.state_in-status.new.words)
    (contents c.args.handle.now) c.take-kept.result.value c.deref.result.now c.take-kept.ensures.kept
    c.deref.ensures (c.state_in-status.ensures.told ok)
