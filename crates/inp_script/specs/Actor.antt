-- How the parts of an actor are kept.
use Rattle.inp_script.specs.declared.actor.Actor.TheInside.{Inside}
use Rattle.inp_script.specs.Job.{ActorView}
use Rattle.inp_script.specs.RoleState.{role_of, role_description, job_in, owning_of, IsSized}

abbrev pub actor_view : Inside → ActorView
actor_view a = record {
  actor = a.actor;
  role = role_of a.state;
  description = role_description a.state;
  job = job_in a.state a.notes;
  owning = owning_of a.state;
}

abbrev pub IsActor : Inside → Type 0
IsActor a = IsSized a.state
