-- What an actor keeps by its role.
use Rattle.std.specs.Prelude.{◌≡◌, ◌*◌, [], length}
use Rattle.inp_model.specs.declared.multi_touch.TheConstants.{SLOT_VALUES}
use Rattle.inp_model.specs.Description.{Description}
use Rattle.inp_actors.specs.declared.role.Role.{Role}
use Rattle.inp_actors.specs.declared.role.Role.TheVariants.{Source as SourceRole, Client as ClientRole, Tap as TapRole, Joy as JoyRole, Owner as OwnerRole}
use Rattle.inp_reader.specs.declared.phase.Phase.TheVariants.{Plain}
use Rattle.inp_reader.specs.declared.reader.TheConstants.{NO_CLIENT}
use Rattle.inp_reader.specs.Reader.{ReaderState}
use Rattle.inp_script.specs.declared.notes.Notes.{Notes}
use Rattle.inp_script.specs.declared.role.owner.Owner as owner
use Rattle.inp_script.specs.declared.role.state.RoleState.{RoleState}
use Rattle.inp_script.specs.declared.role.state.RoleState.TheVariants.{Source, Tap, Client, Joy, Owner}
use Rattle.inp_script.specs.Job.{Job, Stick, no_stick, first_reading}
use Rattle.inp_script.specs.Notes.{job_with}
use Rattle.inp_script.specs.Owner.{OwnerState, first_owning}
use Rattle.inp_script.specs.Tap.{tap_reading, IsSizedTap}

abbrev pub role_of : RoleState → Role
role_of (Source caps view) = SourceRole
role_of (Tap caps tap) = TapRole
role_of (Client reader) = ClientRole
role_of (Joy joy) = JoyRole
role_of (Owner caps owner) = OwnerRole

-- the description of its device
abbrev pub role_description : RoleState → Description
role_description (Source caps view) = caps
role_description (Tap caps tap) = caps
role_description (Client reader) = reader.description
role_description (Joy joy) = joy.description
role_description (Owner caps owner) = caps

-- the client that it reads as; an owner reads as none
abbrev pub role_reading : RoleState → ReaderState
role_reading (Source caps view) = record { client = NO_CLIENT; queue = []; view = view; phase = Plain; left = [] }
role_reading (Tap caps tap) = tap_reading tap
role_reading (Client reader) = reader.reading
role_reading (Joy joy) = joy.joying.reading
role_reading (Owner caps owner) = first_reading caps

-- what it keeps of a joystick
abbrev pub stick_of : RoleState → Stick
stick_of (Joy joy) = record { handed = joy.joying.handed; picture = joy.joying.picture }
stick_of _ = no_stick

abbrev pub owning_in : owner.Owner → OwnerState
owning_in owner = record { fed = owner.fed; stop = owner.stop }

-- what it keeps of an owner
abbrev pub owning_of : RoleState → OwnerState
owning_of (Owner caps owner) = owning_in owner
owning_of _ = first_owning

-- its job, with what is noted of it
abbrev pub job_in : RoleState → Notes → Job
job_in state notes = job_with (role_reading state) (stick_of state) notes

-- views and buffers have as many cells as the device; a reader's and a joystick's have by themselves
abbrev pub IsSized : RoleState → Type 0
IsSized (Source caps view) = length view.cells ≡ SLOT_VALUES * caps.slots
IsSized (Tap caps tap) = IsSizedTap caps tap
IsSized _ = Unit {0}
