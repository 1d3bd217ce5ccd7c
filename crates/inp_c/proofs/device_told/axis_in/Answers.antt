use Rattle.std.proofs.Common.{ap, ◌∙◌, Some}
use Rattle.inp_model.specs.Reply.{axis_answer}
use Rattle.inp_c.specs.declared.kept_device.KeptDevice.{KeptDevice}
use Rattle.inp_c.specs.DeviceTold.{raw_of}
use Rattle.inp_c.proofs.device_told.axis_in.Goals as goal

-- the axis is what the kept device answers of its code
pub returns-clause-told : goal.returns-clause-told
returns-clause-told c = λ _. record {
  device = c.in-Device.device;
  is = ap Some c.in-Device.is;
  info_is =
      c.axis.ensures.axis
      ∙ ap (λ (k : KeptDevice). axis_answer k.udev.description (raw_of k) c.args.code) c.device.view_is;
}
