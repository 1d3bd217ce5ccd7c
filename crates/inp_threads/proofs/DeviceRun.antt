-- What comes of a device whose workers are done, and whose passes were joined: all is promised of it, and so
-- of the record.
use Rattle.std.proofs.Common.{◌≡◌, ℕ, true, nat_eq, List, [], sym, ap, subst, ◌∙◌, arith, Option, Some, ◌<◌}
use Rattle.std.proofs.Common.{length, get_or, None}
use Rattle.std.specs.Prelude.{All, map, slice_get, IfSome}
use Rattle.std.specs.List.{count_by}
use Rattle.std.proofs.lemmas.Option.{get_or_from_slice_get, slice_get_within, slice_get-map}
use Rattle.std.proofs.lemmas.Simd.{map-map}
use mathlib.Core.List.{IsPrefix}
use Rattle.inp_script.proofs.Common.{UEntry, step_made, Description, IsDescription, DeviceText, RecordView}
use Rattle.inp_script.proofs.Common.{IsRecord, ActorView, ended_of, played_of}
use Rattle.inp_runs.specs.Job.{wait_of, ArePromised, IsRun}
use Rattle.inp_turn.specs.PassView.{IsEachAddedOnce}
use Rattle.inp_threads.specs.Worker.{view_in, IsWorked, HasPass}
use Rattle.inp_threads.specs.Joined.{IsSizedWorker, AreSized, own_of, ends_of_workers}
use Rattle.inp_threads.specs.Promise.{IsPromisedOf}
use Rattle.inp_threads.proofs.Common.{UdevView, PassView, Ghosts, Pass, PortOf, steps_among}
use Rattle.inp_threads.proofs.Common.{Worker, OwnsSeen, actor_number, HasDoneLines}
use Rattle.inp_threads.proofs.Common.{AreJoined, AreWorkersDone, Waiting}
use Rattle.inp_script.specs.Runs.{actors_of}
use Rattle.inp_threads.proofs.Assembly.{AreAllDone, HasDoneAllLines, done-promised}
use Rattle.std.proofs.lemmas.List.{length-map}
use Rattle.inp_runs.proofs.Played.{all-promised}
use Rattle.inp_port.specs.Port.{description_of}
use Rattle.inp_script.specs.declared.end.ended.Ended.{Ended}
use Rattle.inp_script.specs.declared.run.DeviceEnds.{DeviceEnds}

-- a fact on all stands where one is found
at_found : {A : Type 0} (P : A → Type 0) (xs : List A) (k : ℕ) (x : A) → All P xs
    → slice_get xs k ≡ Some x → P x
at_found P xs k x all at = subst P (get_or_from_slice_get xs k x x at) (all k x (slice_get_within xs k x at))

-- a pass that is back owns places of what it has seen
owned_by : {K : Ghosts UdevView Description UEntry} {port : PortOf UdevView UEntry}
    (place : Option (Pass UdevView Description UEntry K)) → HasPass port place → OwnsSeen (view_in place)
owned_by place h = rw h.is_pass h.pass.owns_seen

-- What the workers of a device and its port left, once all are done and the port is closed.
pub record IsLeftOf (idle i : ℕ) (r : RecordView) (d : Description) (port : PortOf UdevView UEntry)
    (left joined : PassView Description UEntry) (workers : List Worker) (entries : List UEntry) : Type 0 where
  -- the port's device has that description
  pub description : description_of port ≡ d
  -- the workers have the actors of the device, in the record's order
  pub numbers : map actor_number workers ≡ actors_of r.actors i
  -- each worker's thread has ended, and its pass is back
  pub worked : All (IsWorked port r (wait_of (Some idle) r i)) workers
  -- each worker's actor did all its lines
  pub done : AreWorkersDone workers
  -- each view has the slots of its device
  pub sized : AreSized workers
  -- the workers' passes were joined to the one that was left
  pub are_joined : AreJoined workers left joined
  -- the pass that was left owned no place
  pub none : left.own ≡ []
  -- the joined pass has seen all entries
  pub seen : joined.seen ≡ entries
  -- the joined pass owns each place of the entries once
  pub owned : IsEachAddedOnce [] entries joined.own

module _ (idle i : ℕ) (r : RecordView) (device : DeviceText) (port : PortOf UdevView UEntry)
    (left joined : PassView Description UEntry) (workers : List Worker) (entries : List UEntry)
    (is : IsLeftOf idle i r device.caps port left joined workers entries) where
  has_done : (k : ℕ) (w : Worker) → slice_get workers k ≡ Some w
      → HasDoneAllLines r device.caps (wait_of (Some idle) r i) entries (view_in w.pass) w.actor
  has_done k w at =
      let wait : Option Waiting = wait_of (Some idle) r i in
      let here : IsWorked port r wait w = at_found (IsWorked port r wait) workers k w is.worked at in
      let all : AreJoined workers left joined = is.are_joined in
      let worked : HasDoneLines w.actor.role r (description_of port) wait w.actor (view_in w.pass) =
      here.worked (at_found (λ (u : Worker). u.is_done ≡ true) workers k w is.done at) in
      record {
        worked = rw is.description at worked;
        has_actor = here.actor;
        seen =
            subst (IsPrefix (view_in w.pass).seen) is.seen
            (at_found (λ (u : Worker). IsPrefix (view_in u.pass).seen joined.seen) workers k w all.seen at);
        owns = owned_by w.pass here.pass;
        cells = rw (← is.description, ← here.description) (at_found IsSizedWorker workers k w is.sized at);
      }

  all_done : AreAllDone (λ (w : Worker). view_in w.pass) (λ (w : Worker). w.actor)
      (Some idle) r i device.caps entries workers
  all_done =
      let all : AreJoined workers left joined = is.are_joined in
      let owned : IsEachAddedOnce [] entries joined.own = is.owned in
      let own : joined.own ≡ own_of workers = rw (all.own, is.none) in
      record {
        numbers = map-map (λ (a : ActorView). a.actor) (λ (w : Worker). w.actor) workers ∙ is.numbers;
        each = has_done;
        once = λ place below. ap (count_by (nat_eq place)) (sym own) ∙ owned.once place (omega arith) below;
      }

  -- each actor did all its lines, and each place of the entries is own to one of them
  pub left-promised : IsRecord r → IsDescription device.caps → (ends : List Ended)
      → ends ≡ ends_of_workers workers
      → IsRun (Some idle) r i device.caps
      (record { history = steps_among step_made entries; ends = ends })
  left-promised is_record described ends ended =
      rw (map-map ended_of (λ (w : Worker). w.actor) workers, ← ended) at
      (done-promised (λ (w : Worker). view_in w.pass) (λ (w : Worker). w.actor)
      (Some idle) r i device entries workers is_record described all_done)

-- of the whole record, where it is so of each device
pub collected : (idle : ℕ) (r : RecordView) (outcomes : List (Option DeviceEnds)) (devices : List DeviceEnds)
    → length outcomes ≡ length r.devices
    → ((i : ℕ) (d : Option DeviceEnds) → i < length outcomes
    → IfSome (get_or outcomes i d) (IsPromisedOf idle r i))
    → map Some devices ≡ outcomes → ArePromised (Some idle) r (played_of devices)
collected idle r outcomes devices long each all =
    all-promised (Some idle) r devices (sym (length-map devices Some) ∙ ap length all ∙ long)
    (λ i device done is_device is_done.
    (let there : slice_get outcomes i ≡ Some (Some done) =
    rw (← all, slice_get-map Some devices i, is_done) in
    let promised : IfSome (Some done) (IsPromisedOf idle r i) =
    rw (get_or_from_slice_get outcomes i (Some done) None there) at (each i None
    (slice_get_within outcomes i (Some done) there)) in
    promised device is_device))
