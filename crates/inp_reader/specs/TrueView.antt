-- When the view of a reader is the device's state (docs/READER.md, "Where a reader stands").
use Rattle.std.specs.Prelude.{◌≡◌, ℕ, ◌+◌, ◌-◌, List, length, reverse, Some}
use Rattle.std.specs.List.{slice_get}
use Rattle.inp_model.specs.declared.taken.Taken.{Taken}
use Rattle.inp_model.specs.declared.step.Step.{Step}
use Rattle.inp_model.specs.Description.{Description}
use Rattle.inp_model.specs.Evdev.{EvdevView}
use Rattle.inp_model.specs.RawItem.{Frame}
use Rattle.inp_model.specs.Queue.{took}
use Rattle.inp_model.specs.Reply.{taken_of}
use Rattle.inp_recon.specs.ClientView.{ReadEntry, read_entries}
use Rattle.inp_recon.specs.Faithful.{IsReportOf, IsFollowed, IsDeviceState}
use Rattle.inp_reader.specs.declared.next.Next.{Next}
use Rattle.inp_reader.specs.declared.next.Next.TheVariants.{Success}
use Rattle.inp_reader.specs.Reader.{ReaderState, ReaderView}

-- which of the events that its client took a reader handed out last: the one before its queue
abbrev pub index_handed_out : Description → List Step → ReaderState → ℕ
index_handed_out d past r = length (took d past r.client) - (length r.queue + 1)

-- The event is one that the client took. Where it is the report of a frame up to which the client could
-- follow the device, the view is the device's state at the frame's end.
pub record ShowsTheDevice (d : Description) (past : List Step) (r : ReaderState) (taken : Taken) : Type 0 where
  pub at : ReadEntry
  pub is_at : slice_get (read_entries d past r.client) (index_handed_out d past r) ≡ Some at
  pub is_taken : taken_of at.entry ≡ taken
  pub shows : (f : Frame) → IsReportOf at.entry f → IsFollowed d r.client at f → IsDeviceState d f.cut.until r.view

-- what `next` answered, where it handed out an event of the device
abbrev pub AnswerShows : EvdevView → ReaderView → Next → Type 0
AnswerShows told reader (Success taken) = ShowsTheDevice reader.description (reverse told.seen) reader.reading taken
AnswerShows told reader _ = Unit {0}
