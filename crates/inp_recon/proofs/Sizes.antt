-- No event and no answer changes how long the lists of a view are.
use Rattle.std.proofs.Common.{◌≡◌, ℕ, Bool, true, false, ℤ, pos, List, [], ◌∷◌, length, cond, refl, ◌∙◌}
use Rattle.std.proofs.lemmas.List.{length-set, length-replicate, length-take-le}
use Rattle.std.proofs.lemmas.List.FromFn.{length-map-range_with_len}
use Rattle.inp_model.specs.declared.event.TheConstants.{EV_SW, EV_LED}
use Rattle.inp_model.specs.declared.event.Event.{Event}
use Rattle.inp_model.specs.declared.step.Step.{Step}
use Rattle.inp_model.specs.declared.step.Step.TheVariants.{GetKeys, GetSwitches, GetLeds, GetAxis, SyncSlots}
use Rattle.inp_model.specs.declared.reply.Reply.{Reply}
use Rattle.inp_model.specs.declared.reply.Reply.TheVariants.{Bits, Axis, Cells}
use Rattle.inp_model.specs.Description.{Description, is_multi_touch_code}
use Rattle.inp_model.specs.Event.{is_set}
use Rattle.inp_recon.specs.declared.view.View.{View}
use Rattle.inp_recon.specs.Cells.{with_cell, cell_index}
use Rattle.inp_recon.specs.View.{IsSizedFor, AreCells, HasCells, with_value_at, keys_after_event}
use Rattle.inp_recon.specs.View.{bits_after_event, axes_after_event, cells_after_event, flags_after_reply}
use Rattle.inp_recon.specs.View.{axes_after_reply, cells_after_reply, bit_in, bits_in, first_view}
use Rattle.inp_recon.specs.View.{view_after_event, view_after_events, view_after_answer}
use Rattle.inp_recon.proofs.Answered.{keys_after_answer, switches_after_answer, leds_after_answer}
use Rattle.inp_recon.proofs.Answered.{axes_after_answer, cells_after_answer, view_after_answer-parts}
use Rattle.inp_recon.proofs.NoContact.{length-first_cells}

-- a new view
pub IsSizedFor-first_view : (d : Description) → IsSizedFor d.slots (first_view d)
unfolding first_view
IsSizedFor-first_view d = record {
  keys = length-replicate 768 false;
  switches = length-replicate 64 false;
  leds = length-replicate 64 false;
  axes = length-replicate 64 (pos 0);
  cells = length-first_cells d.slots;
}

-- ---- an event

-- one of two lists of one length
length-choice : {X : Type 0} (b : Bool) (xs ys : List X) → length xs ≡ length ys
    → length (cond b xs ys) ≡ length ys
length-choice true xs ys h = h
length-choice false xs ys h = refl

length-with_value_at : {X : Type 0} (count : ℕ) (values : List X) (index : ℕ) (value : X)
    → length (with_value_at count values index value) ≡ length values
length-with_value_at count values index value = length-choice _ _ _ (length-set values index value)

pub length-keys_after_event : (keys : List Bool) (e : Event) → length (keys_after_event keys e) ≡ length keys
length-keys_after_event keys e = length-choice _ _ _ (length-with_value_at 768 keys e.code (is_set e))

pub length-bits_after_event : (kind : ℕ) (bits : List Bool) (e : Event)
    → length (bits_after_event kind bits e) ≡ length bits
length-bits_after_event kind bits e = length-choice _ _ _ (length-with_value_at 64 bits e.code (is_set e))

pub length-axes_after_event : (axes : List ℤ) (e : Event) → length (axes_after_event axes e) ≡ length axes
length-axes_after_event axes e = length-choice _ _ _ (length-with_value_at 64 axes e.code e.value)

length-with_cell : (cells : List ℤ) (slot : ℤ) (code : ℕ) (value : ℤ)
    → length (with_cell cells slot code value) ≡ length cells
length-with_cell cells slot code value = length-choice _ _ _ (length-set cells (cell_index slot code) value)

pub length-cells_after_event : (cells : List ℤ) (slot : ℤ) (e : Event)
    → length (cells_after_event cells slot e) ≡ length cells
length-cells_after_event cells slot e = length-choice _ _ _ (length-with_cell cells slot e.code e.value)

pub IsSizedFor-after_event : (slots : ℕ) (v : View) (e : Event) → IsSizedFor slots v
    → IsSizedFor slots (view_after_event v e)
unfolding view_after_event
IsSizedFor-after_event slots v e h = record {
  keys = length-keys_after_event v.keys e ∙ h.keys;
  switches = length-bits_after_event EV_SW v.switches e ∙ h.switches;
  leds = length-bits_after_event EV_LED v.leds e ∙ h.leds;
  axes = length-axes_after_event v.axes e ∙ h.axes;
  cells = length-cells_after_event v.cells v.slot e ∙ h.cells;
}

pub IsSizedFor-after_events : (slots : ℕ) (v : View) (es : List Event) → IsSizedFor slots v
    → IsSizedFor slots (view_after_events v es)
unfolding view_after_events
IsSizedFor-after_events slots v [] h = h
IsSizedFor-after_events slots v (e ∷ es) h =
    IsSizedFor-after_events slots (view_after_event v e) es (IsSizedFor-after_event slots v e h)

-- ---- an answer

length-flags_after_reply : (count : ℕ) (reply : Reply) (flags : List Bool) → length flags ≡ count
    → length (flags_after_reply count reply flags) ≡ count
unfolding bits_in
length-flags_after_reply count (Bits at words) flags h = length-map-range_with_len (bit_in words) 0 count
length-flags_after_reply count _ flags h = h

length-axes_after_reply : (code : ℕ) (reply : Reply) (axes : List ℤ)
    → length (axes_after_reply code reply axes) ≡ length axes
length-axes_after_reply code (Axis at info) axes =
    let told : length (with_value_at 64 axes code info.value) ≡ length axes =
    length-with_value_at 64 axes code info.value in
    elim (is_multi_touch_code code) as (λ b. length (cond b axes (with_value_at 64 axes code info.value))
    ≡ length axes) [ true ↦ refl | false ↦ told ]
length-axes_after_reply code _ axes = refl

length-cells_after_reply : (reply : Reply) (buffer cells : List ℤ) → AreCells reply cells buffer
    → length (cells_after_reply reply buffer cells) ≡ length cells
length-cells_after_reply (Cells at count slot) buffer cells room = length-take-le (length cells) buffer room
length-cells_after_reply _ buffer cells room = refl

pub length-keys_after_answer : (step : Step) (reply : Reply) (keys : List Bool) → length keys ≡ 768
    → length (keys_after_answer step reply keys) ≡ 768
length-keys_after_answer (GetKeys client) reply keys h = length-flags_after_reply 768 reply keys h
length-keys_after_answer _ reply keys h = h

pub length-switches_after_answer : (step : Step) (reply : Reply) (switches : List Bool) → length switches ≡ 64
    → length (switches_after_answer step reply switches) ≡ 64
length-switches_after_answer (GetSwitches client) reply switches h =
    length-flags_after_reply 64 reply switches h
length-switches_after_answer _ reply switches h = h

pub length-leds_after_answer : (step : Step) (reply : Reply) (leds : List Bool) → length leds ≡ 64
    → length (leds_after_answer step reply leds) ≡ 64
length-leds_after_answer (GetLeds client) reply leds h = length-flags_after_reply 64 reply leds h
length-leds_after_answer _ reply leds h = h

pub length-axes_after_answer : (step : Step) (reply : Reply) (axes : List ℤ)
    → length (axes_after_answer step reply axes) ≡ length axes
length-axes_after_answer (GetAxis client code) reply axes = length-axes_after_reply code reply axes
length-axes_after_answer _ reply axes = refl

pub length-cells_after_answer : (step : Step) (reply : Reply) (buffer cells : List ℤ)
    → HasCells step reply cells buffer → length (cells_after_answer step reply buffer cells) ≡ length cells
length-cells_after_answer (SyncSlots client) reply buffer cells room =
    length-cells_after_reply reply buffer cells room
length-cells_after_answer _ reply buffer cells room = refl

pub IsSizedFor-after_answer : (slots : ℕ) (v : View) (step : Step) (reply : Reply) (buffer : List ℤ)
    → HasCells step reply v.cells buffer → IsSizedFor slots v
    → IsSizedFor slots (view_after_answer v step reply buffer)
IsSizedFor-after_answer slots v step reply buffer room h =
    rw (view_after_answer-parts v step reply buffer)
    (record {
      keys = length-keys_after_answer step reply v.keys h.keys;
      switches = length-switches_after_answer step reply v.switches h.switches;
      leds = length-leds_after_answer step reply v.leds h.leds;
      axes = length-axes_after_answer step reply v.axes ∙ h.axes;
      cells = length-cells_after_answer step reply buffer v.cells room ∙ h.cells;
    })
