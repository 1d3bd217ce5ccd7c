use Rattle.std.proofs.Common.{List, ap, ◌∙◌, sym, Some}
use Rattle.std.specs.Prelude.{slice_get}
use Rattle.inp_actors.specs.declared.device_text.DeviceText.{DeviceText}
use Rattle.inp_c.proofs.from_text.keep_device.Goals as goal

-- the handle keeps a new device of the record's description with that number
pub returns-in-Ok-clause-made : goal.returns-in-Ok-clause-made
returns-in-Ok-clause-made c = λ _.
    let fresh = c.in-Ok.ensures in
    record {
      text = c.get.result.now;
      device = fresh.device;
      there =
          ap (λ (devices : List DeviceText). slice_get devices c.args.number)
          (sym c.devices-2.ensures.devices) ∙ c.get.ensures.item;
      is = c.of.ensures ∙ ap Some fresh.is;
      udev = fresh.udev;
      reader = fresh.reader;
      joy = fresh.joy;
    }
