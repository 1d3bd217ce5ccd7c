-- What is promised of one device of a record played on threads.
use Rattle.std.specs.Prelude.{◌≡◌, ◌≤◌, ◌<◌, ◌^◌, ℕ, List, Some, length, slice_get}
use Rattle.inp_actors.specs.declared.device_text.DeviceText.{DeviceText}
use Rattle.inp_actors.specs.Record.{RecordView}
use Rattle.inp_script.specs.declared.run.DeviceEnds.{DeviceEnds}
use Rattle.inp_runs.specs.Job.{IsRun}
use Rattle.inp_threads.specs.Lines.{AreLinesDealt}

-- all is promised of the result of the device of this number, where the lines of its actors waited so long
abbrev pub IsPromisedOf : ℕ → RecordView → ℕ → DeviceEnds → Type 0
IsPromisedOf idle r i done = (device : DeviceText) → slice_get r.devices i ≡ Some device → IsRun (Some idle) r i device.caps done

-- there is a device of this number, lines wait so long, and all of them are dealt
pub record IsToBeRun (idle : ℕ) (r : RecordView) (lists : List (List ℕ)) (i : ℕ) : Type 0 where
  pub bound : 1 ≤ idle
  pub dealt : AreLinesDealt r lists
  pub within : i < length r.devices
  pub few : length r.devices < 2 ^ 32
