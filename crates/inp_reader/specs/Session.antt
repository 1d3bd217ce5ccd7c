-- How a reader's parts are kept.
use Rattle.std.specs.Prelude.{◌≡◌, ◌≤◌, ◌*◌, length}
use Rattle.inp_model.specs.declared.limits.TheConstants.{SLOTS_MAX}
use Rattle.inp_model.specs.declared.multi_touch.TheConstants.{SLOT_VALUES}
use Rattle.inp_model.specs.Description.{Description, IsDescription}
use Rattle.inp_model.specs.Evdev.{EvdevView}
use Rattle.inp_reader.specs.declared.asker.Asker.{Asker}
use Rattle.inp_reader.specs.declared.session.Session.{Session}
use Rattle.inp_reader.specs.declared.reader.Reader.TheInside.{Inside}
use Rattle.inp_reader.specs.Reader.{ReaderState, ReaderView}
use Rattle.inp_reader.specs.RoomyEvents.{synthesised_most}
use Rattle.inp_reader.specs.Spare.{HasSpare}

-- the view and the buffer have as many cells as the device that is asked
pub record IsReady (d : Description) (told : EvdevView) (a : Asker) : Type 0 where
  pub description : told.description ≡ d
  pub view : length a.view.cells ≡ SLOT_VALUES * d.slots
  pub cells : length a.cells ≡ SLOT_VALUES * d.slots

abbrev pub reading_of : Session → ReaderState
reading_of s = record { client = s.client; queue = s.queue; view = s.view; phase = s.phase; left = s.left.events }

-- the same of both views of a session, and there is room for all events that it may synthesise
pub record IsSession (d : Description) (told : EvdevView) (s : Session) : Type 0 where
  pub description : told.description ≡ d
  pub view : length s.view.cells ≡ SLOT_VALUES * d.slots
  pub asked : length s.asker.view.cells ≡ SLOT_VALUES * d.slots
  pub cells : length s.asker.cells ≡ SLOT_VALUES * d.slots
  pub slots : d.slots ≤ SLOTS_MAX
  pub room : synthesised_most d ≤ s.left.room

abbrev pub reader_view : Inside → ReaderView
reader_view r = record { description = r.caps; reading = reading_of r.session; made = r.session.asker.made }

-- A reader's views and its buffer have as many cells as its devices, and it has room for all events that it
-- may synthesise. It keeps few calls, its view keeps what its devices cannot have as in a new view, and its
-- description keeps its ranges.
pub record IsReader (r : Inside) : Type 0 where
  pub view : length r.session.view.cells ≡ SLOT_VALUES * r.caps.slots
  pub asked : length r.session.asker.view.cells ≡ SLOT_VALUES * r.caps.slots
  pub cells : length r.session.asker.cells ≡ SLOT_VALUES * r.caps.slots
  pub few : length r.session.asker.made ≤ 64
  pub slots : r.caps.slots ≤ SLOTS_MAX
  pub room : synthesised_most r.caps ≤ r.session.left.room
  pub spare : HasSpare r.caps (reading_of r.session)
  pub described : IsDescription r.caps
