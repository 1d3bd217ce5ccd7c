use Rattle.inp_c.proofs.Injected.{one_in_time}
use Rattle.inp_c.proofs.kept_device.KeptDevice.inject.Goals as goal

-- the one event is in time, as the call asks
pub inject_all-requires : goal.inject_all-requires
inject_all-requires c = record { moments = one_in_time c.args.stamped c.requires.moment }
