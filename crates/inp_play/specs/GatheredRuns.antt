-- The results of devices, gathered actor by actor.
use Rattle.std.specs.Prelude.{◌≡◌, ℕ, List, [], ◌∷◌, ◌++◌, reverse, slice_get, slice_set, Some}
use Rattle.inp_feedback.specs.UEntry.{steps_in}
use Rattle.inp_script.specs.declared.end.ended.Ended.{Ended}
use Rattle.inp_script.specs.declared.run.DeviceEnds.{DeviceEnds}
use Rattle.inp_uinput.specs.UdevView.{UdevView}

-- a device's history, before anything of its actors is there
abbrev pub first_ends : UdevView → DeviceEnds
first_ends device = record { history = reverse (steps_in device.kept); ends = [] }

-- with the result of one actor more
abbrev pub with_end : DeviceEnds → Ended → DeviceEnds
with_end device end = record device { ends = device.ends ++ end ∷ [] }

-- The device of this number has one more.
abbrev pub HasEndMore : List DeviceEnds → List DeviceEnds → ℕ → Ended → Type 0
HasEndMore old new i end = (device : DeviceEnds) → slice_get old i ≡ Some device → new ≡ slice_set old i (with_end device end)
