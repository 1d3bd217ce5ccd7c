-- Which runs are those of a record.
use Rattle.std.specs.Prelude.{◌≡◌, ℕ, Bool, false, not, ◌||◌, nat_eq, List, length, map, filter, flat_map, slice_get, Option, Some, None}
use Rattle.std.specs.List.{range_with_len}
use Rattle.inp_actors.specs.declared.actor_text.ActorText.{ActorText}
use Rattle.inp_actors.specs.declared.device_text.DeviceText.{DeviceText}
use Rattle.inp_actors.specs.declared.role.Role.{Role}
use Rattle.inp_actors.specs.Command.{is_joy, is_owner}
use Rattle.inp_actors.specs.Record.{RecordView}
use Rattle.inp_recon.specs.View.{IsSizedFor}
use Rattle.inp_script.specs.declared.run.Run.{Run}
use Rattle.inp_script.specs.Job.{JobView, JoyJobView, OwnerView}

abbrev pub is_on_device : ℕ → Option ActorText → Bool
is_on_device device None = false
is_on_device device (Some actor) = nat_eq actor.device device

-- the numbers of a device's actors, ascending
abbrev pub actors_of : List ActorText → ℕ → List ℕ
actors_of actors device = filter (λ i. is_on_device device (slice_get actors i)) (range_with_len 0 (length actors))

-- an actor has such a role
abbrev pub has_role : (Role → Bool) → Option ActorText → Bool
has_role test None = false
has_role test (Some actor) = test actor.role

-- it is neither a joystick nor an owner
abbrev pub is_job : Role → Bool
is_job role = not (is_joy role || is_owner role)

-- those of them that have such a role
abbrev pub actors_with : (Role → Bool) → List ActorText → ℕ → List ℕ
actors_with test actors device = filter (λ i. has_role test (slice_get actors i)) (actors_of actors device)

-- The result of a device: one job for each of its actors but joysticks and owners, in order, whose view has
-- the device's slots.
pub record IsRunOf (actors : List ActorText) (number : ℕ) (device : DeviceText) (run : Run) : Type 0 where
  pub jobs : map (λ (job : JobView). job.actor) run.jobs ≡ actors_with is_job actors number
  pub views : (i : ℕ) (job : JobView) → slice_get run.jobs i ≡ Some job → IsSizedFor device.caps.slots job.view

-- The result of a record: one run for each device, in order.
pub record AreRunsOf (r : RecordView) (runs : List Run) : Type 0 where
  pub devices : length runs ≡ length r.devices
  pub each : (i : ℕ) (device : DeviceText) (run : Run) → slice_get r.devices i ≡ Some device → slice_get runs i ≡ Some run → IsRunOf r.actors i device run

-- the numbers of the actors of joysticks' jobs
abbrev pub joy_actors : List JoyJobView → List ℕ
joy_actors joys = map (λ (joy : JoyJobView). joy.actor) joys

-- The results of a record's joysticks: one job for each, device by device, and on a device in the order of
-- its actors. In a record's text the actors of a device stand after it, so this is the order of the text.
abbrev pub AreJoysOf : RecordView → List JoyJobView → Type 0
AreJoysOf r joys = joy_actors joys ≡ flat_map (actors_with is_joy r.actors) (range_with_len 0 (length r.devices))

-- the numbers of owners
abbrev pub owner_actors : List OwnerView → List ℕ
owner_actors owners = map (λ (owner : OwnerView). owner.actor) owners

-- The results of a record's owners: one for each, in the same order.
abbrev pub AreOwnersOf : RecordView → List OwnerView → Type 0
AreOwnersOf r owners = owner_actors owners ≡ flat_map (actors_with is_owner r.actors) (range_with_len 0 (length r.devices))
