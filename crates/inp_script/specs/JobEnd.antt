-- How the parts of the result of a job are kept.
use Rattle.inp_script.specs.declared.end.job.JobEnd.TheInside.{Inside}
use Rattle.inp_script.specs.declared.end.joystick.JoyEnd.TheInside as joystick
use Rattle.inp_script.specs.declared.end.owner.OwnerEnd.TheInside as owner
use Rattle.inp_joy.specs.Picture.{seen_as}
use Rattle.inp_script.specs.Job.{JobView, JoyJobView, OwnerView}

abbrev pub job_view : Inside → JobView
job_view job = record { actor = job.actor; sight = job.sight; view = job.view; stop = job.stop }

abbrev pub joy_job_view : joystick.Inside → JoyJobView
joy_job_view job = record { actor = job.actor; sight = job.sight; picture = seen_as job.picture; stop = job.stop }

abbrev pub owner_view : owner.Inside → OwnerView
owner_view end = record { actor = end.actor; fed = end.fed; stop = end.stop }
