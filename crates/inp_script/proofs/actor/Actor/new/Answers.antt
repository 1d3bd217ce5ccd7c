use Rattle.std.proofs.Common.{◌≡◌}
use Rattle.std.specs.Prelude.{None}
use Rattle.inp_script.specs.RoleState.{role_description}
use Rattle.inp_script.proofs.Common.{RoleState, Job, first_job, job_in, role_of}
use Rattle.inp_script.proofs.LineFolds.{is_folded-first}
use Rattle.inp_script.proofs.actor.Actor.new.Goals as goal

pub returns-clause-view : goal.returns-clause-view
returns-clause-view c h =
    let state : RoleState = c.in_ok-state.state in
    let j : Job = job_in state (record { sight = c.new-2.result; stop = None }) in
    let same : j ≡ first_job (role_of state) (role_description state) =
    rw (
      c.new-2.ensures.empty,
      c.in_ok-state.ensures.reading,
      c.in_ok-state.ensures.stick,
      ← c.in_ok-state.ensures.role,
      ← c.in_ok-state.ensures.description,
    ) in
    is_folded-first (role_of state) (role_description state) h j same
