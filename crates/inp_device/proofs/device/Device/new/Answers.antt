use Rattle.std.proofs.Common.{◌≡◌, false, rules}
use Rattle.inp_frames.specs.Core.{sends}
use Rattle.inp_client.specs.Numbers.{stored_of}
use Rattle.inp_device.proofs.StepParts.{first_value}
use Rattle.inp_device.proofs.device.Device.new.Goals as goal

-- a new device has made no step, keeps no event and has sent none
pub returns : goal.returns
returns c =
    let described : c.in_ok-present.present.value.caps ≡ c.args.caps = search rules in
    let stored : stored_of c.in_ok-present.present.value.handler.clients ≡ 0 = search rules in
    let sent : sends c.in_ok-present.present.value.core ≡ false = search rules in
    record {
      fresh =
          first_value c.in_ok-present.present.value c.args.caps c.in_ok-steps.steps.items described
          c.in_ok-steps.ensures.items stored sent;
    }
