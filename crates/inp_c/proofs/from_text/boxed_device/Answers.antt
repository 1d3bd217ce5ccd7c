use Rattle.std.proofs.Common.{◌≡◌}
use Rattle.std.proofs.lemmas.Result.{IfOk-weaker}
use Rattle.inp_c.specs.declared.kept.Kept.TheVariants.{Device}
use Rattle.inp_c.specs.FromText.{IsFreshKept}
use Rattle.inp_c.proofs.from_text.boxed_device.Goals as goal

-- the box keeps the device as it was made, new with its reader and joystick client
pub returns : goal.returns
returns c =
    let device = c.in_ok-device.device in
    IfOk-weaker c.boxed.result (λ kept. kept.value ≡ Device device)
    (λ kept. IsFreshKept c.args.caps.now kept.value)
    (λ kept is. record {
      device = device;
      is = is;
      udev = c.in_ok-device.ensures.udev;
      reader = c.in_ok-device.ensures.reader;
      joy = c.in_ok-device.ensures.joy;
    })
    c.boxed.ensures
