-- What a job's view is at each report that it took (docs/RUNS.md, "What a sight tells of the device").
use Rattle.std.specs.Prelude.{ℕ, suc, ◌+◌, ◌-◌, ◌≡◌, ◌<◌, pos, Bool, true, false, ◌&&◌, if◌then◌else◌, nat_eq, List, [], ◌∷◌, length, reverse, slice_get, slice_index_or, Option, Some, None, option_map}
use Rattle.inp_model.specs.declared.taken.Taken.{Taken}
use Rattle.inp_model.specs.declared.step.Step.{Step}
use Rattle.inp_model.specs.declared.step.Step.TheVariants.{Read}
use Rattle.inp_model.specs.Description.{Description}
use Rattle.inp_model.specs.Event.{is_report}
use Rattle.inp_model.specs.RawItem.{Frame}
use Rattle.inp_model.specs.Past.{past_at}
use Rattle.inp_model.specs.Queue.{took}
use Rattle.inp_model.specs.Reply.{is_accepted, taken_of}
use Rattle.inp_model.specs.Run.{place_of}
use Rattle.inp_actors.specs.declared.role.Role.{Role}
use Rattle.inp_actors.specs.declared.role.Role.TheVariants.{Client, Tap}
use Rattle.inp_recon.specs.declared.view.View.{View}
use Rattle.inp_recon.specs.View.{first_view}
use Rattle.inp_recon.specs.ClientView.{ReadEntry, read_entries, view_at}
use Rattle.inp_recon.specs.Faithful.{IsReportOf, IsFollowed, IsDeviceState}
use Rattle.inp_recon.specs.Synchronised.{has_axis, is_dropped, is_synchronised}
use Rattle.inp_reader.specs.declared.reader.TheConstants.{NO_CLIENT}
use Rattle.inp_script.specs.declared.sight.Sight.{Sight}
use Rattle.inp_script.specs.declared.sight.Sight.TheVariants.{Call, Took}
use Rattle.inp_script.specs.Folding.{Folding, settled, asking}
use Rattle.inp_script.specs.Fold.{tap_fold, client_fold}
use Rattle.inp_script.specs.Line.{tap_client_after}
use Rattle.inp_runs.specs.LossCauses.{IsCausedAt}

-- a sight goes on from this client
abbrev pub client_after_entry : ℕ → Sight → ℕ
client_after_entry client (Call x reply) = tap_client_after x reply client
client_after_entry client _ = client

unfoldable pub client_after_sight : ℕ → List Sight → ℕ
client_after_sight client [] = client
client_after_sight client (entry ∷ sight) = client_after_sight (client_after_entry client entry) sight

-- the client that a job reads as after this sight: the one that it opened last
abbrev pub reads_as : List Sight → ℕ
reads_as sight = client_after_sight NO_CLIENT sight

-- a read as this client
abbrev pub is_read_as : ℕ → Step → Bool
is_read_as client (Read named count) = nat_eq named client
is_read_as client _ = false

-- an accepted read of a job, and how much of it the job was handed so far
pub record LastRead : Type 0 where
  -- the place of the read
  pub place : ℕ
  -- how many events the sight took after it
  pub events : ℕ

-- an accepted read as this client is the last one so far, and an event more was taken after it at each Took
abbrev pub read_after_entry : ℕ → Option LastRead → Sight → Option LastRead
read_after_entry client last (Call x reply) =
    if is_read_as client x && is_accepted reply then Some (record { place = place_of reply; events = 0 }) else last
read_after_entry client last (Took taken) = option_map (λ (read : LastRead). record read { events = suc read.events }) last
read_after_entry client last _ = last

unfoldable pub read_after_sight : ℕ → Option LastRead → List Sight → Option LastRead
read_after_sight client last [] = last
read_after_sight client last (entry ∷ sight) = read_after_sight client (read_after_entry client last entry) sight

-- the last accepted read of a sight as the client that the job reads as then
abbrev pub last_read : List Sight → Option LastRead
last_read sight = read_after_sight (reads_as sight) None sight

-- Which event of a client a job took last. So many events had the client taken before this read, and of those
-- after it all but the last one were handed to the job before.
abbrev pub index_behind : Description → List Step → ℕ → LastRead → ℕ
index_behind d history client read = length (took d (past_at history read.place) client) + (read.events - 1)

-- which event of its client the last one of a sight is
abbrev pub index_in_history : Description → List Step → List Sight → Option ℕ
index_in_history d history sight = option_map (index_behind d history (reads_as sight)) (last_read sight)

-- while not all queries are answered the view is the one before them
abbrev pub folded_view : Folding View → View
folded_view (settled view) = view
folded_view (asking old new xs) = old

-- what a sight of this role says that the device is
abbrev pub sight_view : Role → Description → List Step → List Sight → View
sight_view Tap d history sight = tap_fold d history (first_view d) sight
sight_view Client d history sight = folded_view (client_fold d history (settled (first_view d)) sight)
sight_view _ d history sight = first_view d

-- Two views agree in each key, switch and LED, in each supported axis outside 0x2f to 0x3d, and in all values of all
-- slots and in the current slot.
pub record AgreesIn (d : Description) (v w : View) : Type 0 where
  pub keys : v.keys ≡ w.keys
  pub switches : v.switches ≡ w.switches
  pub leds : v.leds ≡ w.leds
  pub axes : (code : ℕ) → has_axis d code ≡ true → slice_index_or v.axes code (pos 0) ≡ slice_index_or w.axes code (pos 0)
  pub cells : v.cells ≡ w.cells
  pub slot : 0 < d.slots → v.slot ≡ w.slot

-- What holds of an event that a job took, the last one of this sight. It is the one of its own index among those that
-- the client took that the job reads as then. A history is written newest first there, and is called a past.
pub record IsEventTaken (d : Description) (history : List Step) (role : Role) (sight : List Sight) (taken : Taken) : Type 0 where
  -- which of the events that the client took
  pub index : ℕ
  pub is_own : index_in_history d history sight ≡ Some index
  pub at : ReadEntry
  pub is_at : slice_get (read_entries d (reverse history) (reads_as sight)) index ≡ Some at
  pub is_taken : taken_of at.entry ≡ taken
  -- at a report where the client is synchronised, the job's view agrees with the client's view in the history
  pub agrees : is_report taken.event ≡ true → is_synchronised d at.before (reads_as sight) at.taken ≡ true
      → AgreesIn d (sight_view role d history sight) (view_at d (reads_as sight) at)
  -- the step at the place of a loss met a full ring of this client, or changed its clock while events were queued
  pub caused : is_dropped taken.event ≡ true → IsCausedAt d (reverse history) (reads_as sight) taken.place

-- An event is the one of its own index among those that a client took. Where it is the report of a frame up
-- to which the client could follow the device, this view is the device's state at the frame's end.
pub record ShowsTheState (d : Description) (past : List Step) (client : ℕ) (own : Option ℕ) (taken : Taken) (view : View) : Type 0 where
  pub index : ℕ
  pub is_own : own ≡ Some index
  pub at : ReadEntry
  pub is_at : slice_get (read_entries d past client) index ≡ Some at
  pub is_taken : taken_of at.entry ≡ taken
  pub shows : (f : Frame) → IsReportOf at.entry f → IsFollowed d client at f → IsDeviceState d f.cut.until view
