-- The result of an actor when its lines are done.
use Rattle.std.specs.Prelude.{◌≡◌, ℕ, ◌*◌, List, [], ◌∷◌, length, map, flat_map}
use Rattle.inp_model.specs.declared.multi_touch.TheConstants.{SLOT_VALUES}
use Rattle.inp_model.specs.Description.{Description}
use Rattle.inp_actors.specs.declared.role.Role.{Role}
use Rattle.inp_actors.specs.declared.role.Role.TheVariants.{Joy as JoyRole, Owner as OwnerRole}
use Rattle.inp_script.specs.declared.end.ended.Ended.{Ended}
use Rattle.inp_script.specs.declared.end.ended.Ended.TheVariants.{Job as JobEnded, Joy as JoyEnded, Owner as OwnerEnded}
use Rattle.inp_script.specs.declared.role.state.RoleState.{RoleState}
use Rattle.inp_script.specs.declared.role.state.RoleState.TheVariants.{Joy, Owner}
use Rattle.inp_script.specs.declared.run.DeviceEnds.{DeviceEnds}
use Rattle.inp_script.specs.declared.run.Played.{Played}
use Rattle.inp_script.specs.declared.run.Run.{Run}
use Rattle.inp_script.specs.declared.sight.Sight.{Sight}
use Rattle.inp_script.specs.declared.stop.Stop.{Stop}
use Rattle.inp_script.specs.Job.{ActorView, JobView, JoyJobView, OwnerView, job_end, joy_end, owner_end, last_stop}
use Rattle.inp_script.specs.RoleState.{role_reading}

-- a joystick's job, an owner's, or another one
abbrev pub ended_as : Role → ActorView → Ended
ended_as JoyRole a = JoyEnded (joy_end a)
ended_as OwnerRole a = OwnerEnded (owner_end a)
ended_as _ a = JobEnded (job_end a)

abbrev pub ended_of : ActorView → Ended
ended_of a = ended_as a.role a

-- the jobs among them but joysticks' and owners', those of joysticks, and those of owners, in order
abbrev pub jobs_among : List Ended → List JobView
jobs_among [] = []
jobs_among (JobEnded job ∷ ends) = job ∷ jobs_among ends
jobs_among (_ ∷ ends) = jobs_among ends

abbrev pub joys_among : List Ended → List JoyJobView
joys_among [] = []
joys_among (JoyEnded joy ∷ ends) = joy ∷ joys_among ends
joys_among (_ ∷ ends) = joys_among ends

abbrev pub owners_among : List Ended → List OwnerView
owners_among [] = []
owners_among (OwnerEnded owner ∷ ends) = owner ∷ owners_among ends
owners_among (_ ∷ ends) = owners_among ends

-- the result of a device, and of its jobs but joysticks' and owners'
abbrev pub ended_run : DeviceEnds → Run
ended_run device = record { history = device.history; jobs = jobs_among device.ends }

-- the result of a record, by the results of its devices
abbrev pub played_of : List DeviceEnds → Played
played_of devices = record {
  runs = map ended_run devices;
  joys = flat_map (λ (device : DeviceEnds). joys_among device.ends) devices;
  owners = flat_map (λ (device : DeviceEnds). owners_among device.ends) devices;
}

-- of one that keeps this, saw this and ended so
abbrev pub ended_with : RoleState → ℕ → List Sight → Stop → Ended
ended_with (Joy joy) actor sight stop = JoyEnded (record { actor = actor; sight = sight; picture = joy.joying.picture; stop = stop })
ended_with (Owner caps owner) actor sight stop = OwnerEnded (record { actor = actor; fed = owner.fed; stop = last_stop owner.stop })
ended_with state actor sight stop = JobEnded (record { actor = actor; sight = sight; view = (role_reading state).view; stop = stop })

-- the view of a job has the device's slots
abbrev pub HasDeviceSlots : Description → Ended → Type 0
HasDeviceSlots d (JobEnded job) = length job.view.cells ≡ SLOT_VALUES * d.slots
HasDeviceSlots d (JoyEnded joy) = Unit {0}
HasDeviceSlots d (OwnerEnded owner) = Unit {0}
