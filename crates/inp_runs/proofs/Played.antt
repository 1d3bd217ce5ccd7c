-- What is promised of each device is promised of the record.
use Rattle.std.proofs.Common.{◌≡◌, ℕ, true, List, length, sym, ◌∙◌, refl, Option, Some}
use Rattle.inp_runs.specs.Job.{ArePromised, IsRun}
use Rattle.inp_runs.proofs.Common.{ActorText, RecordView, eqb-true}
use Rattle.std.specs.Prelude.{slice_get}
use Rattle.inp_actors.specs.declared.device_text.DeviceText.{DeviceText}
use Rattle.inp_script.specs.declared.run.DeviceEnds.{DeviceEnds}
use Rattle.inp_script.specs.Ended.{played_of}
use Rattle.inp_script.specs.Runs.{is_on_device}

-- an actor's device is the one that it is on
pub on_this : (device : ℕ) (o : Option ActorText) (text : ActorText) → is_on_device device o ≡ true
    → o ≡ Some text → text.device ≡ device
on_this device o text h is = eqb-true text.device device (sym (rw is) ∙ h)

-- what is promised of each device is promised of the record
pub all-promised : (idle : Option ℕ) (r : RecordView) (done : List DeviceEnds)
    → length done ≡ length r.devices
    → ((i : ℕ) (device : DeviceText) (run : DeviceEnds) → slice_get r.devices i ≡ Some device
    → slice_get done i ≡ Some run → IsRun idle r i device.caps run)
    → ArePromised idle r (played_of done)
all-promised idle r done long each =
    record { devices = done; is_played = refl; count = long; each = each }
