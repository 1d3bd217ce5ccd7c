-- What an actor has done so far, and the result of a job.
use Rattle.std.specs.Prelude.{ℕ, List, [], Option, Some, None}
use Rattle.inp_model.specs.Description.{Description}
use Rattle.inp_actors.specs.declared.role.Role.{Role}
use Rattle.inp_actors.specs.declared.role.Role.TheVariants.{Joy}
use Rattle.inp_joy.specs.Codes.{startup_len}
use Rattle.inp_joy.specs.Joy.{JoystickState}
use Rattle.inp_joy.specs.Picture.{PictureView, blank_picture}
use Rattle.inp_recon.specs.declared.view.View.{View}
use Rattle.inp_recon.specs.View.{first_view}
use Rattle.inp_reader.specs.declared.phase.Phase.TheVariants.{Plain}
use Rattle.inp_reader.specs.declared.reader.TheConstants.{NO_CLIENT}
use Rattle.inp_reader.specs.Reader.{ReaderState}
use Rattle.inp_script.specs.declared.fed_sight.FedSight.{FedSight}
use Rattle.inp_script.specs.declared.sight.Sight.{Sight}
use Rattle.inp_script.specs.declared.stop.Stop.{Stop}
use Rattle.inp_script.specs.declared.stop.Stop.TheVariants.{Finished}
use Rattle.inp_script.specs.Owner.{OwnerState}

-- what a joystick client keeps besides its reader
pub record Stick : Type 0 where
  -- how many records of the startup were handed out
  pub handed : ℕ
  -- what the records since that startup began make of a blank picture
  pub picture : PictureView

-- that of a job of another role
abbrev pub no_stick : Stick
no_stick = record { handed = 0; picture = blank_picture }

-- before its first line no record of a startup is left
abbrev pub first_stick : Role → Description → Stick
first_stick Joy d = record { handed = startup_len d; picture = blank_picture }
first_stick _ d = no_stick

pub record Job : Type 0 where
  -- The client that it reads as, and what the device is, as far as it saw. What a reader keeps besides is there for the
  -- role Client alone.
  pub reading : ReaderState
  -- what it saw, in order
  pub sight : List Sight
  -- why it stopped, if it did
  pub stop : Option Stop
  -- what a joystick client keeps besides, there for the role Joy alone
  pub stick : Stick

abbrev pub first_reading : Description → ReaderState
first_reading d = record { client = NO_CLIENT; queue = []; view = first_view d; phase = Plain; left = [] }

-- before its first line
abbrev pub first_job : Role → Description → Job
first_job role d = record { reading = first_reading d; sight = []; stop = None; stick = first_stick role d }

-- a job as a joystick client, and with another one
abbrev pub joying_of : Job → JoystickState
joying_of j = record { reading = j.reading; handed = j.stick.handed; picture = j.stick.picture }

abbrev pub with_joying : Job → JoystickState → Job
with_joying j k = record j { reading = k.reading; stick = record { handed = k.handed; picture = k.picture } }

-- what an actor is seen as
pub record ActorView : Type 0 where
  -- its number, from 0 over the whole record
  pub actor : ℕ
  pub role : Role
  -- the description of its device
  pub description : Description
  pub job : Job
  -- what an owner keeps, there for the role Owner alone
  pub owning : OwnerState

-- the result of a job
pub record JobView : Type 0 where
  -- the number of its actor, from 0 over the whole record
  pub actor : ℕ
  -- what it saw, in order
  pub sight : List Sight
  -- what the device is, as far as it saw
  pub view : View
  -- why it ended
  pub stop : Stop

-- the result of a joystick's job
pub record JoyJobView : Type 0 where
  -- the number of its actor, from 0 over the whole record
  pub actor : ℕ
  -- what it saw, in order
  pub sight : List Sight
  -- how the buttons and axes stand, as its records tell
  pub picture : PictureView
  -- why it ended
  pub stop : Stop

-- the result of an owner
pub record OwnerView : Type 0 where
  -- the number of its actor, from 0 over the whole record
  pub actor : ℕ
  -- what it was told: each answer, and after it the events that it took
  pub fed : List FedSight
  -- why it ended
  pub stop : Stop

-- a job that did not stop before is finished
abbrev pub last_stop : Option Stop → Stop
last_stop None = Finished
last_stop (Some stop) = stop

-- the result of an actor when its lines are done
abbrev pub job_end : ActorView → JobView
job_end a = record { actor = a.actor; sight = a.job.sight; view = a.job.reading.view; stop = last_stop a.job.stop }

abbrev pub joy_end : ActorView → JoyJobView
joy_end a = record { actor = a.actor; sight = a.job.sight; picture = a.job.stick.picture; stop = last_stop a.job.stop }

abbrev pub owner_end : ActorView → OwnerView
owner_end a = record { actor = a.actor; fed = a.owning.fed; stop = last_stop a.owning.stop }
