-- What is shown of each event that a job took, a part at a time: that it is its client's own, what the job's
-- view is at a report, and the cause of a loss.
use Rattle.std.specs.Prelude.{ℕ, suc, ◌≡◌, true, List, take, reverse, slice_get, Option, Some}
use Rattle.inp_model.specs.declared.taken.Taken.{Taken}
use Rattle.inp_model.specs.declared.step.Step.{Step}
use Rattle.inp_model.specs.Description.{Description}
use Rattle.inp_model.specs.Event.{is_report}
use Rattle.inp_model.specs.Reply.{taken_of}
use Rattle.inp_actors.specs.declared.role.Role.{Role}
use Rattle.inp_recon.specs.declared.view.View.{View}
use Rattle.inp_recon.specs.ClientView.{ReadEntry, read_entries, view_at}
use Rattle.inp_recon.specs.Synchronised.{is_dropped, is_synchronised}
use Rattle.inp_script.specs.declared.sight.Sight.{Sight}
use Rattle.inp_script.specs.declared.sight.Sight.TheVariants.{Took}
use Rattle.inp_runs.specs.JobViews.{AgreesIn, index_in_history, reads_as, sight_view}
use Rattle.inp_runs.specs.LossCauses.{IsCausedAt}

-- The last event of a sight is the one of its own index among those that the job's client took.
pub record IsOwnEvent (d : Description) (history : List Step) (sight : List Sight) (taken : Taken)
    : Type 0 where
  pub index : ℕ
  pub is_own : index_in_history d history sight ≡ Some index
  pub at : ReadEntry
  pub is_at : slice_get (read_entries d (reverse history) (reads_as sight)) index ≡ Some at
  pub is_taken : taken_of at.entry ≡ taken

-- each event that a job took is such
abbrev pub AreEventsOwn : Description → List Step → List Sight → Type 0
AreEventsOwn d history sight =
    (k : ℕ) (taken : Taken) → slice_get sight k ≡ Some (Took taken)
    → IsOwnEvent d history (take (suc k) sight) taken

-- An event is the one of its own index among those that a client took. Where the client is synchronised then,
-- this view agrees with the client's view in the history. A history is written newest first, and is called a
-- past.
pub record ShowsAt (d : Description) (past : List Step) (client : ℕ) (own : Option ℕ) (taken : Taken)
    (view : View) : Type 0 where
  -- which of the events that the client took
  pub index : ℕ
  pub is_own : own ≡ Some index
  pub at : ReadEntry
  pub is_at : slice_get (read_entries d past client) index ≡ Some at
  pub is_taken : taken_of at.entry ≡ taken
  pub agrees : is_synchronised d at.before client at.taken ≡ true → AgreesIn d view (view_at d client at)

-- the same of the last event of a sight, and of the client that the job reads as then
abbrev pub IsSeenAt : Description → List Step → Role → List Sight → Taken → Type 0
IsSeenAt d history role sight taken =
    ShowsAt d (reverse history) (reads_as sight) (index_in_history d history sight) taken
    (sight_view role d history sight)

-- At each report that a job took, its view up to then is the one that its client has in the history.
abbrev pub AreReportsSeen : Description → List Step → Role → List Sight → Type 0
AreReportsSeen d history role sight =
    (k : ℕ) (taken : Taken) → slice_get sight k ≡ Some (Took taken) → is_report taken.event ≡ true
    → IsSeenAt d history role (take (suc k) sight) taken

-- The loss at the end of a sight came to the client that the job reads as then. The step at its place met a
-- full ring of this client, or changed its clock while events were queued.
abbrev pub HasLossCause : Description → List Step → List Sight → Taken → Type 0
HasLossCause d history sight taken = IsCausedAt d (reverse history) (reads_as sight) taken.place

-- each loss that a job took has its cause
abbrev pub AreLossesCaused : Description → List Step → List Sight → Type 0
AreLossesCaused d history sight =
    (k : ℕ) (taken : Taken) → slice_get sight k ≡ Some (Took taken) → is_dropped taken.event ≡ true
    → HasLossCause d history (take (suc k) sight) taken
