use Rattle.inp_c.proofs.Timely.{in_time}
use Rattle.inp_c.proofs.kept_device.KeptDevice.inject_all.Goals as goal

-- the events are in time one by one, as the test of all says
pub inject_all-requires : goal.inject_all-requires
inject_all-requires c = record { moments = in_time c.args.events.now c.requires.timely }
