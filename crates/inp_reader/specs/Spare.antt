-- What a reader's view keeps of a new view: all that its device cannot have, and so never tells
-- (docs/READER.md, "Where a reader stands").
use Rattle.std.specs.Prelude.{◌≡◌, ℕ, pos, Bool, true, false, ◌&&◌, if◌then◌else◌, nat_eq, nat_lt, replicate, slice_index_or}
use Rattle.std.specs.List.{All}
use Rattle.inp_model.specs.declared.event.TheConstants.{EV_SYN, EV_KEY, EV_ABS, EV_SW, EV_LED}
use Rattle.inp_model.specs.declared.multi_touch.TheConstants.{ABS_MT_SLOT}
use Rattle.inp_model.specs.declared.event.Event.{Event}
use Rattle.inp_model.specs.declared.taken.Taken.{Taken}
use Rattle.inp_model.specs.Description.{Description, has_kind, supports}
use Rattle.inp_recon.specs.declared.view.View.{View}
use Rattle.inp_recon.specs.Synchronised.{has_axis}
use Rattle.inp_recon.specs.View.{key_count, code_count, IsSizedFor}
use Rattle.inp_reader.specs.Reader.{ReaderState}

-- a view in which all that the device cannot have is as in a new one
pub record IsSpare (d : Description) (v : View) : Type 0 where
  pub sized : IsSizedFor d.slots v
  pub keys : has_kind d EV_KEY ≡ false → v.keys ≡ replicate key_count false
  pub switches : has_kind d EV_SW ≡ false → v.switches ≡ replicate code_count false
  pub leds : has_kind d EV_LED ≡ false → v.leds ≡ replicate code_count false
  -- a code that it has not is off
  pub key_codes : (code : ℕ) → supports d EV_KEY code ≡ false → slice_index_or v.keys code false ≡ false
  pub switch_codes : (code : ℕ) → supports d EV_SW code ≡ false → slice_index_or v.switches code false ≡ false
  pub led_codes : (code : ℕ) → supports d EV_LED code ≡ false → slice_index_or v.leds code false ≡ false
  pub axes : (code : ℕ) → has_axis d code ≡ false → slice_index_or v.axes code (pos 0) ≡ pos 0
  pub slot : d.slots ≡ 0 → v.slot ≡ pos 0

-- an event that a client of the device can take: one that the device supports, and a slot's number only where
-- it has any
abbrev pub is_event_of : Description → Event → Bool
is_event_of d e =
    if nat_eq e.kind EV_SYN then true
    else if nat_eq e.kind EV_ABS && nat_eq e.code ABS_MT_SLOT then nat_lt 0 d.slots
    else supports d e.kind e.code

-- the view of a reader is so, and stays so when its queue is handed out
pub record HasSpare (d : Description) (r : ReaderState) : Type 0 where
  pub view : IsSpare d r.view
  pub queue : All (λ (t : Taken). is_event_of d t.event ≡ true) r.queue
