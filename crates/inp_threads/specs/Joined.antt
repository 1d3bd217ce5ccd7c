-- What stands when the passes of all workers were joined into one.
use Rattle.std.specs.Prelude.{◌≡◌, ℕ, ◌+◌, true, List, ◌++◌, length, map, flat_map, All}
use mathlib.Core.List.{IsPrefix}
use Rattle.inp_feedback.specs.declared.u_entry.UEntry.{UEntry}
use Rattle.inp_model.specs.Description.{Description}
use Rattle.inp_uinput.specs.UdevView.{UdevView}
use Rattle.inp_script.specs.declared.end.ended.Ended.{Ended}
use Rattle.inp_script.specs.Ended.{HasDeviceSlots, ended_of}
use Rattle.inp_turn.specs.declared.pass_view.PassView.{PassView}
use Rattle.inp_port.specs.declared.port.PortOf.{PortOf}
use Rattle.inp_threads.specs.declared.worker.Worker.{Worker}
use Rattle.inp_threads.specs.Worker.{view_in, HasPass}

-- the pass of a worker is back
abbrev pub IsBack : PortOf UdevView UEntry → Worker → Type 0
IsBack port w = HasPass port w.pass

-- the places that the workers own, one worker's after another's
abbrev pub own_of : List Worker → List ℕ
own_of workers = flat_map (λ (w : Worker). (view_in w.pass).own) workers

-- what each worker has seen is a beginning of these entries
abbrev pub SawAll : List Worker → List UEntry → Type 0
SawAll workers seen = All (λ (w : Worker). IsPrefix (view_in w.pass).seen seen) workers

-- The passes of the workers were joined into one: nothing of what they saw, own and share is lost.
pub record AreJoined (workers : List Worker) (before after : PassView Description UEntry) : Type 0 where
  pub share : after.share ≡ before.share + length workers
  pub own : after.own ≡ before.own ++ own_of workers
  pub more : IsPrefix before.seen after.seen
  pub seen : SawAll workers after.seen

-- the results of the workers' actors
abbrev pub ends_of_workers : List Worker → List Ended
ends_of_workers workers = map (λ (w : Worker). ended_of w.actor) workers

-- each worker is done
abbrev pub AreWorkersDone : List Worker → Type 0
AreWorkersDone workers = All (λ (w : Worker). w.is_done ≡ true) workers

-- the view in the result of a worker's actor, if it has one, has the slots of its device
abbrev pub IsSizedWorker : Worker → Type 0
IsSizedWorker w = HasDeviceSlots w.actor.description (ended_of w.actor)

-- and so has that of each
abbrev pub AreSized : List Worker → Type 0
AreSized workers = All IsSizedWorker workers
