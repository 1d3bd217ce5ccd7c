use Rattle.inp_record.specs.canon.Text.{device_lines, devices_lines}
use Rattle.inp_record.proofs.Written.{numbered_more, numbered_all}
use Rattle.inp_record.proofs.canon.text.push_devices.Goals as goal

-- the lines of the next device stand behind those before it
pub loop-index-preserved : goal.loop-index-preserved
loop-index-preserved c =
    numbered_more (device_lines c.args.actors.now) c.args.devices.now _ _ _ c.loop-index.index
    c.index-devices-index.result c.loop-index-test.true c.index-devices-index.is c.loop-index.invariant
    c.in_ok-push_device.ensures.pushed

-- all devices were gone through
pub returns : goal.returns
unfolding devices_lines
returns c =
    record {
      pushed =
          numbered_all (device_lines c.args.actors.now) c.args.devices.now _ _ c.loop-index.index
          c.loop-index-test.false c.loop-index.invariant;
    }
