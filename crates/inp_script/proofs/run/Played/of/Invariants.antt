use Rattle.std.proofs.Common.{◌≡◌, map}
use Rattle.std.specs.Prelude.{flat_map}
use Rattle.inp_script.specs.declared.run.DeviceEnds.{DeviceEnds}
use Rattle.inp_script.specs.Ended.{ended_run, joys_among, owners_among}
use Rattle.inp_script.proofs.run.Played.of.Given as goal

abbrev pub invariant-loop-device : goal.invariant-loop-device
invariant-loop-device l =
    (l.runs ≡ map ended_run l.yielded)
    × (l.joys ≡ flat_map (λ (device : DeviceEnds). joys_among device.ends) l.yielded)
    × (l.owners ≡ flat_map (λ (device : DeviceEnds). owners_among device.ends) l.yielded)
