-- When a client's view is the device's state (docs/READER.md, "Faithful views").
use Rattle.std.specs.Prelude.{ℕ, ◌≡◌, ◌<◌, pos, true, false, List, [], ◌∷◌, slice_get, slice_index_or, Some}
use Rattle.inp_model.specs.declared.step.Step.{Step}
use Rattle.inp_model.specs.declared.step.Step.TheVariants.{Read}
use Rattle.inp_model.specs.RawItem.{RawItem, Frame}
use Rattle.inp_model.specs.Description.{Description, IsDescription}
use Rattle.inp_model.specs.Event.{is_report}
use Rattle.inp_model.specs.State.{key_down, switch_on, led_on, axis_value}
use Rattle.inp_model.specs.Passed.{announced}
use Rattle.inp_model.specs.Frame.{place}
use Rattle.inp_model.specs.Left.{Eats, eaten}
use Rattle.inp_model.specs.Queue.{Entry, event_of, taken_by_with}
use Rattle.inp_model.specs.History.{IsHistoryWith}
use Rattle.inp_model.specs.Reply.{rows}
use Rattle.inp_recon.specs.declared.view.View.{View}
use Rattle.inp_recon.specs.ClientView.{ReadEntry, entries_of_read, read_entries_with, view_at_with}
use Rattle.inp_recon.specs.Synchronised.{has_axis, sync_place, is_synchronised_with}
use Rattle.inp_recon.specs.Undisturbed.{is_undisturbed}

-- the view shows the device's state after the items r
pub record IsDeviceState (d : Description) (r : List RawItem) (v : View) : Type 0 where
  pub keys : (code : ℕ) → slice_index_or v.keys code false ≡ key_down d r code
  pub switches : (code : ℕ) → slice_index_or v.switches code false ≡ switch_on d r code
  pub leds : (code : ℕ) → slice_index_or v.leds code false ≡ led_on d r code
  -- of each supported axis outside 0x2f to 0x3d
  pub axes : (code : ℕ) → has_axis d code ≡ true → slice_index_or v.axes code (pos 0) ≡ axis_value d r code
  -- all values of all slots, none on a device without slots
  pub cells : v.cells ≡ rows d r
  -- the slot that was announced last
  pub slot : 0 < d.slots → v.slot ≡ announced d r

-- the entry is a report of this frame
pub record IsReportOf (entry : Entry) (f : Frame) : Type 0 where
  pub report : is_report (event_of entry) ≡ true
  pub frame : entry.frame ≡ Some f

-- When a client took this entry it was synchronised, the frame was passed behind its last query, nothing was kept from
-- the client up to the frame, and no axis was described anew.
pub record IsFollowedWith (eats : Eats) (d : Description) (client : ℕ) (at : ReadEntry) (f : Frame) : Type 0 where
  pub synchronised : is_synchronised_with eats d at.before client at.taken ≡ true
  pub behind : sync_place at.before client < place f
  pub undisturbed : is_undisturbed eats d at.before client f ≡ true

-- The view at each report that a client took is the device's state at the end of its frame, where it is followed.
abbrev pub IsFaithfulWith : Eats → Description → List Step → ℕ → Type 0
IsFaithfulWith eats d past client =
    (i : ℕ) (at : ReadEntry) (f : Frame) → slice_get (read_entries_with eats d past client) i ≡ Some at → IsReportOf at.entry f
    → IsFollowedWith eats d client at f
    → IsDeviceState d f.cut.until (view_at_with eats d client at)

-- the same of what a read takes after this past
abbrev pub IsFaithfulRead : Eats → Description → List Step → ℕ → ℕ → Type 0
IsFaithfulRead eats d past client count =
    let taken : List Entry = taken_by_with eats d past client (Read client count) in
    (j : ℕ) (at : ReadEntry) (f : Frame) → slice_get (entries_of_read past [] taken) j ≡ Some at → IsReportOf at.entry f
    → IsFollowedWith eats d client at f
    → IsDeviceState d f.cut.until (view_at_with eats d client at)

-- every history is faithful to every client, whatever is left of its frames
abbrev pub AreFaithful : Type 0
AreFaithful =
    (eats : Eats) (d : Description) (past : List Step) (client : ℕ) → IsDescription d → IsHistoryWith eats d past → IsFaithfulWith eats d past client

-- every accepted read is faithful
abbrev pub AreReadsFaithful : Type 0
AreReadsFaithful =
    (eats : Eats) (d : Description) (past : List Step) (client count : ℕ) → IsDescription d → IsHistoryWith eats d (Read client count ∷ past)
    → IsFaithfulRead eats d past client count

-- of the device's own choice of what is left

abbrev pub IsFollowed : Description → ℕ → ReadEntry → Frame → Type 0
IsFollowed d client at f = IsFollowedWith (eaten d) d client at f

abbrev pub IsFaithful : Description → List Step → ℕ → Type 0
IsFaithful d past client = IsFaithfulWith (eaten d) d past client
