-- The runs of a record, told one after another, each with its device.
use Rattle.std.proofs.Common.{◌≡◌, ℕ, ◌+◌, ◌<◌, List, ◌++◌, length, take, get_or, Some}
use Rattle.std.specs.Prelude.{slice_get}
use Rattle.std.specs.List.{flat_map, zip}
use Rattle.inp_actors.specs.declared.actor_text.ActorText.{ActorText}
use Rattle.inp_actors.specs.declared.device_text.DeviceText.{DeviceText}
use Rattle.inp_actors.specs.Record.{RecordView}
use Rattle.inp_script.specs.declared.run.Run.{Run}
use Rattle.inp_script.specs.Runs.{IsRunOf, AreRunsOf}
use Rattle.inp_texts.proofs.Written.{item_at, zipped_more}

module _ (r : RecordView) (runs items : List Run) (actors : List ActorText) (devices : List DeviceText)
    (index : ℕ) (run : Run) (device : DeviceText) (actors_are : actors ≡ r.actors)
    (devices_are : devices ≡ r.devices)
    (items_are : items ≡ runs) (device_at : slice_get devices index ≡ Some device)
    (inside : index < length items)
    (run_at : run ≡ get_or items index run) where
  its_device : slice_get r.devices index ≡ Some device
  its_device = rw devices_are at device_at

  its_run : slice_get runs index ≡ Some run
  its_run = item_at items runs index run items_are inside run_at

  -- the run is one of its device
  pub run_of : AreRunsOf r runs → IsRunOf actors index device run
  run_of of =
      rw actors_are
      (of.each index device run its_device its_run)

  -- its text is one more
  pub run_more : (tells : List ActorText → DeviceText × Run → List ℕ) (before text new : List ℕ)
      → text ≡ before ++ flat_map (tells r.actors) (take index (zip r.devices runs))
      → new ≡ text ++ tells actors (device, run)
      → new ≡ before ++ flat_map (tells r.actors) (take (index + 1) (zip r.devices runs))
  run_more tells before text new so_far more =
      zipped_more (tells r.actors) r.devices runs before text new index device run its_device its_run so_far
      (rw actors_are at more)
