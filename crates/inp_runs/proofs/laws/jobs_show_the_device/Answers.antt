-- A job's view at a report is its client's there, and so the device's.
use Rattle.std.proofs.Common.{◌≡◌, ℕ, suc, true, List, take, reverse, ap, subst, ◌∙◌, Option, Some}
use Rattle.std.specs.Prelude.{slice_get}
use Rattle.inp_script.specs.declared.run.DeviceEnds.{DeviceEnds}
use Rattle.inp_script.specs.Job.{job_end}
use Rattle.inp_model.specs.Event.{is_report}
use Rattle.inp_model.specs.RawItem.{RawItem}
use Rattle.inp_recon.specs.Faithful.{IsFaithful, IsDeviceState}
use Rattle.inp_runs.specs.Job.{FollowsLines, IsRun, JobsShowTheDevice, wait_of}
use Rattle.inp_runs.specs.JobViews.{IsEventTaken, ShowsTheState, sight_view}
use Rattle.inp_runs.proofs.Common.{Taken, Step, Description, View, AgreesIn, Role, Sight, ActorView, reads_as}
use Rattle.inp_runs.proofs.Common.{index_in_history, ActorText, RecordView, JobView, Took}
use Rattle.inp_runs.proofs.JobEnds.{IsEndOf, is_other, job-end_of}
use Rattle.inp_runs.proofs.laws.jobs_show_the_device.Goals as goal

state-agrees : (d : Description) (r : List RawItem) (v w : View) → AgreesIn d v w → IsDeviceState d r w
    → IsDeviceState d r v
state-agrees d r v w a s = record {
  keys = λ code. rw a.keys (s.keys code);
  switches = λ code. rw a.switches (s.switches code);
  leds = λ code. rw a.leds (s.leds code);
  axes = λ code has. a.axes code has ∙ s.axes code has;
  cells = a.cells ∙ s.cells;
  slot = λ some. a.slot some ∙ s.slot some;
}

-- an event that a job took shows the state of the device, where the history is faithful to its client
shown : (d : Description) (history : List Step) (role : Role) (sight : List Sight) (taken : Taken)
    → IsFaithful d (reverse history) (reads_as sight) → is_report taken.event ≡ true
    → IsEventTaken d history role sight taken
    → ShowsTheState d (reverse history) (reads_as sight) (index_in_history d history sight) taken
    (sight_view role d history sight)
shown d history role sight taken faithful report s = record {
  index = s.index;
  is_own = s.is_own;
  at = s.at;
  is_at = s.is_at;
  is_taken = s.is_taken;
  shows = λ f is_report_of followed.
      state-agrees d f.cut.until (sight_view role d history sight) _ (s.agrees report followed.synchronised)
      (faithful s.index s.at f s.is_at is_report_of followed);
}

-- a job came of an actor of the device, whose role is the one in the record
at_report : JobsShowTheDevice
at_report = λ idle r number d done i k job text taken is_run is_job is_text at report.
    came idle r number d done k job text taken is_run is_text at report
    (job-end_of is_run.actors i job (rw (← is_run.ended) is_job))
  where
    came : (idle : Option ℕ) (r : RecordView) (number : ℕ) (d : Description) (done : DeviceEnds) (k : ℕ)
        (job : JobView) (text : ActorText) (taken : Taken) → (is_run : IsRun idle r number d done)
        → slice_get r.actors job.actor ≡ Some text → slice_get job.sight k ≡ Some (Took taken)
        → is_report taken.event ≡ true → IsEndOf job_end is_other is_run.actors job
        → ShowsTheState d (reverse done.history) (reads_as (take (suc k) job.sight))
        (index_in_history d done.history (take (suc k) job.sight)) taken
        (sight_view text.role d done.history (take (suc k) job.sight))
    came idle r number d done k job text taken is_run is_text at report e =
        let a : ActorView = e.actor in
        let sight : a.job.sight ≡ job.sight = ap (λ (j : JobView). j.sight) e.same in
        let actor : a.actor ≡ job.actor = ap (λ (j : JobView). j.actor) e.same in
        let there : slice_get r.actors a.actor ≡ Some text = ap (slice_get r.actors) actor ∙ is_text in
        let f : FollowsLines r d (wait_of idle r number) done.history text.role a =
        is_run.each e.index a text e.is there in
        shown d done.history text.role (take (suc k) job.sight) taken (is_run.faithful _) report
        (subst (λ (s : List Sight). IsEventTaken d done.history text.role (take (suc k) s) taken) sight
        (f.took k taken (ap (λ (s : List Sight). slice_get s k) sight ∙ at)))

-- at a report a job's view agrees with its client's, which is the state of the device there
pub returns : goal.returns
returns c = record { shown = at_report }
