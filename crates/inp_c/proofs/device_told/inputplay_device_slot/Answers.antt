use Rattle.std.proofs.Common.{Option}
use Rattle.inp_c.specs.declared.kept.Kept.{Kept}
use Rattle.inp_c.specs.Contents.{contents}
use Rattle.inp_c.specs.DeviceTold.{IsToldCell}
use Rattle.inp_c.proofs.Along.{at_contents}
use Rattle.inp_c.proofs.device_told.inputplay_device_slot.Goals as goal

-- the value of the slot is told of what the handle keeps
pub returns-clause-told : goal.returns-clause-told
returns-clause-told c = λ ok.
    at_contents Kept (λ (k : Option Kept). IsToldCell k c.args.slot c.args.code c.cell_in-status.new.value)
    (contents c.args.handle.now) c.take-kept.result.value c.deref.result.now c.take-kept.ensures.kept
    c.deref.ensures (c.cell_in-status.ensures.told ok)
