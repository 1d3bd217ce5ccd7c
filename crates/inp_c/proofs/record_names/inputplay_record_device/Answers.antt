use Rattle.std.proofs.Common.{Option}
use Rattle.inp_c.specs.declared.kept.Kept.{Kept}
use Rattle.inp_c.specs.Contents.{contents}
use Rattle.inp_c.specs.RecordNames.{IsToldDevice}
use Rattle.inp_c.proofs.Along.{at_contents}
use Rattle.inp_c.proofs.record_names.inputplay_record_device.Goals as goal

-- the device is told of the record that the handle keeps
pub returns-clause-told : goal.returns-clause-told
returns-clause-told c = λ ok.
    at_contents Kept (λ (k : Option Kept).
    IsToldDevice k c.args.device c.args.out.now c.device_in-status.new.out c.device_in-status.new.len)
    (contents c.args.handle.now) c.take-kept.result.value c.deref.result.now c.take-kept.ensures.kept
    c.deref.ensures (c.device_in-status.ensures.told ok)
