use Rattle.std.proofs.Common.{◌∙◌, sym, ap}
use Rattle.inp_uinput.specs.UdevView.{UdevView}
use Rattle.inp_c.proofs.kept_device.KeptDevice.new.Goals as goal

-- the reader and the joystick client were made with a copy of the device's description
pub invariant_of-result : goal.invariant_of-result
invariant_of-result c =
    let fresh =
    sym c.copy.ensures.same ∙ sym (ap (λ (u : UdevView). u.description) c.in_ok-udev.ensures.fresh) in
    record {
      same = c.in_ok-reader.ensures.description ∙ fresh;
      same_joy = c.in_ok-joy.ensures.description ∙ fresh;
    }
