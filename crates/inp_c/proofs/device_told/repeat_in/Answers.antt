use Rattle.std.proofs.Common.{ap, ◌∙◌, Some}
use Rattle.inp_uinput.specs.Queries.{repeat_after}
use Rattle.inp_c.specs.declared.kept_device.KeptDevice.{KeptDevice}
use Rattle.inp_c.specs.ClientTold.{kept_past}
use Rattle.inp_c.proofs.device_told.repeat_in.Goals as goal

-- the autorepeat is what the kept device answers, in C's numbers
pub returns-clause-told : goal.returns-clause-told
returns-clause-told c = λ _.
    let known =
    c.repeat.ensures.repeat
    ∙ ap (λ (k : KeptDevice). repeat_after k.udev.description (kept_past k)) c.device.view_is in
    record {
      device = c.in-Device.device;
      is = ap Some c.in-Device.is;
      repeat_is = rw known at c.c_repeat.ensures;
    }
