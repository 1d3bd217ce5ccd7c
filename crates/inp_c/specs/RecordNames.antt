-- The devices and the actors of a record that a handle keeps, and what C is told of them.
use Rattle.std.specs.Prelude.{◌≡◌, ℕ, nat_lt, List, length, take, slice_get, Option, Some}
use Rattle.inp_model.specs.Reply.{written}
use Rattle.inp_actors.specs.declared.role.Role.{Role}
use Rattle.inp_actors.specs.declared.role.Role.TheVariants.{Source, Client, Tap, Joy, Owner}
use Rattle.inp_actors.specs.declared.actor_text.ActorText.{ActorText}
use Rattle.inp_actors.specs.declared.device_text.DeviceText.{DeviceText}
use Rattle.inp_c.specs.declared.kept.Kept.{Kept}
use Rattle.inp_c.specs.declared.kept.Kept.TheVariants.{Record}
use Rattle.inp_c.specs.declared.kept_record.KeptRecord.{KeptRecord}
use Rattle.inp_c.specs.declared.status.TheConstants.{BAD_HANDLE}
use Rattle.inp_c.specs.Status.{argument_status}

-- the number of a role
abbrev pub role_number : Role → ℕ
role_number Source = 0
role_number Client = 1
role_number Tap = 2
role_number Joy = 3
role_number Owner = 4

-- a call that wants a record, and the number of one of its devices
abbrev pub device_number_status : Option Kept → ℕ → ℕ
device_number_status (Some (Record kept)) device = argument_status (nat_lt device (length kept.recorded.devices))
device_number_status _ device = BAD_HANDLE

-- a call that wants a record, and the number of one of its actors
abbrev pub actor_status : Option Kept → ℕ → ℕ
actor_status (Some (Record kept)) actor = argument_status (nat_lt actor (length kept.recorded.actors))
actor_status _ actor = BAD_HANDLE

-- the name of the device of this number stands at the front of C's array, as many bytes as fit, and C is told how many
-- it has
pub record IsToldDevice (before : Option Kept) (number : ℕ) (out new_out : List ℕ) (len : ℕ) : Type 0 where
  pub kept : KeptRecord
  pub device : DeviceText
  pub is : before ≡ Some (Record kept)
  pub there : slice_get kept.recorded.devices number ≡ Some device
  pub len_is : len ≡ length device.name
  pub bytes : new_out ≡ written (take (length out) device.name) out

-- C is told the role of the actor of this number and the number of its device, and its name as that of a device
pub record IsToldActor (before : Option Kept) (number role device : ℕ) (out new_out : List ℕ) (len : ℕ) : Type 0 where
  pub kept : KeptRecord
  pub actor : ActorText
  pub is : before ≡ Some (Record kept)
  pub there : slice_get kept.recorded.actors number ≡ Some actor
  pub role_is : role ≡ role_number actor.role
  pub device_is : device ≡ actor.device
  pub len_is : len ≡ length actor.name
  pub bytes : new_out ≡ written (take (length out) actor.name) out
