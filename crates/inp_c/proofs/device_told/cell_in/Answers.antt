use Rattle.std.proofs.Common.{pos, ap, ◌∙◌, w32, SFits, rules, Some}
use Rattle.std.proofs.Math.Facts.{to_z-of_z}
use Rattle.inp_model.specs.State.{cell}
use Rattle.inp_c.specs.declared.kept_device.KeptDevice.{KeptDevice}
use Rattle.inp_c.specs.DeviceTold.{raw_of}
use Rattle.inp_c.proofs.device_told.cell_in.Goals as goal

-- the value is what the kept device has in that slot, and it fits in 32 bits with a sign
pub returns-clause-told : goal.returns-clause-told
returns-clause-told c = λ _.
    let fits : SFits w32 c.slot_value.result = search rules in
    record {
      device = c.in-Device.device;
      is = ap Some c.in-Device.is;
      value_is =
          to_z-of_z fits
          ∙ c.slot_value.ensures.value
          ∙ ap (λ (k : KeptDevice). cell k.udev.description (raw_of k) (pos c.args.slot) c.args.code)
          c.device.view_is;
    }
