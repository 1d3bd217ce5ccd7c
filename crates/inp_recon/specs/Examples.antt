-- Views after a few events and answers, worked out by hand.
use Rattle.std.specs.Prelude.{◌≡◌, ℕ, ◌+◌, ◌*◌, ℤ, pos, negsuc, Bool, true, false, List, [], ◌∷◌, replicate, slice_index_or}
use Rattle.inp_model.specs.declared.event.TheConstants.{EV_KEY, EV_SW, EV_LED, KEY_A}
use Rattle.inp_model.specs.declared.event.Event.{Event}
use Rattle.inp_model.specs.declared.step.Step.TheVariants.{GetKeys, GetSounds, GetAxis, GetSlots, SyncSlots}
use Rattle.inp_model.specs.declared.reply.Reply.TheVariants.{Bits, Axis, Cells, Refused}
use Rattle.inp_model.specs.declared.reply.Refusal.TheVariants.{LogFull}
use Rattle.inp_model.specs.Description.{no_info}
use Rattle.inp_model.specs.examples.Frames.{report}
use Rattle.inp_model.specs.examples.Slots.{touchpad, touch, slot, x, y, id}
use Rattle.inp_recon.specs.declared.view.View.{View}
use Rattle.inp_recon.specs.View.{first_view, view_after_events, view_after_answer}

-- the view of a client that saw nothing of a device with two slots
abbrev pub unseen : View
unseen = first_view touchpad

-- what a view says of one code, or of one value of a slot
abbrev pub has_key : View → ℕ → Bool
has_key v code = slice_index_or v.keys code false

abbrev pub has_switch : View → ℕ → Bool
has_switch v code = slice_index_or v.switches code false

abbrev pub has_led : View → ℕ → Bool
has_led v code = slice_index_or v.leds code false

abbrev pub axis : View → ℕ → ℤ
axis v code = slice_index_or v.axes code (pos 0)

-- of a slot its X, its Y and its tracking id
abbrev pub x_of : View → ℕ → ℤ
x_of v number = slice_index_or v.cells (14 * number + 5) (pos 0)

abbrev pub y_of : View → ℕ → ℤ
y_of v number = slice_index_or v.cells (14 * number + 6) (pos 0)

abbrev pub id_of : View → ℕ → ℤ
id_of v number = slice_index_or v.cells (14 * number + 9) (pos 0)

-- an event of this type and code
abbrev pub event : ℕ → ℕ → ℤ → Event
event kind code value = record { kind = kind; code = code; value = value }

abbrev pub key : ℤ → Event
key = event EV_KEY KEY_A

-- no slot has a contact at first
abbrev pub BeginsWithoutContacts : Type 0
BeginsWithoutContacts = (id_of unseen 0 ≡ negsuc 0) × (id_of unseen 1 ≡ negsuc 0) × (x_of unseen 1 ≡ pos 0)

-- a press, a release, and an autorepeat of a key that is up
abbrev pub TakesNoRepeat : Type 0
TakesNoRepeat =
    (has_key (view_after_events unseen (key (pos 1) ∷ [])) KEY_A ≡ true)
    × (has_key (view_after_events unseen (key (pos 1) ∷ key (pos 0) ∷ [])) KEY_A ≡ false)
    × (has_key (view_after_events unseen (key (pos 2) ∷ [])) KEY_A ≡ false)
    × (has_key (view_after_events unseen (key (pos 1) ∷ key (pos 2) ∷ [])) KEY_A ≡ true)

-- a switch that turns on, by any value but 0, and an LED that turns on and off
abbrev pub TakesSwitchesAndLeds : Type 0
TakesSwitchesAndLeds =
    (has_switch (view_after_events unseen (event EV_SW 5 (pos 2) ∷ [])) 5 ≡ true)
    × (has_led (view_after_events unseen (event EV_LED 1 (pos 1) ∷ [])) 1 ≡ true)
    × (has_led (view_after_events unseen (event EV_LED 1 (pos 1) ∷ event EV_LED 1 (pos 0) ∷ [])) 1 ≡ false)

-- an axis that moves twice
abbrev pub TakesAnAxis : Type 0
TakesAnAxis = axis (view_after_events unseen (touch 1 (pos 70) ∷ touch 1 (pos 69) ∷ [])) 1 ≡ pos 69

-- codes past the lists, and a type that a view does not keep
abbrev pub TakesNoOther : Type 0
TakesNoOther =
    view_after_events unseen (event EV_KEY 768 (pos 1) ∷ event EV_SW 64 (pos 1) ∷ event EV_LED 64 (pos 1) ∷ touch 64 (pos 1) ∷ report ∷ [])
    ≡ unseen

-- a value for a slot that there is not
abbrev pub TakesNoOtherSlot : Type 0
TakesNoOtherSlot =
    (view_after_events unseen (slot (pos 2) ∷ x (pos 5) ∷ []) ≡ record unseen { slot = pos 2 })
    × (view_after_events unseen (slot (negsuc 0) ∷ x (pos 5) ∷ slot (pos 0) ∷ []) ≡ unseen)

-- slot 1 has a contact, by the events taken
abbrev pub touched : View
touched = view_after_events unseen (slot (pos 1) ∷ id (pos 11) ∷ [])

-- The synchronisation tells all values, those of the open batch included, and the slot of the last frame.
abbrev pub synchronised : View
synchronised =
    view_after_answer touched (SyncSlots 0) (Cells 8 28 (pos 1))
    (pos 0 ∷ pos 0 ∷ pos 0 ∷ pos 0 ∷ pos 0 ∷ pos 0 ∷ pos 7 ∷ pos 0 ∷ pos 0 ∷ negsuc 0 ∷ pos 0 ∷ pos 0 ∷ pos 0 ∷ pos 0
    ∷ pos 0 ∷ pos 0 ∷ pos 0 ∷ pos 0 ∷ pos 0 ∷ pos 5 ∷ pos 0 ∷ pos 0 ∷ pos 0 ∷ pos 11 ∷ pos 0 ∷ pos 0 ∷ pos 0 ∷ pos 0
    ∷ [])

-- so the events of that batch, which come again, belong to the slot that was told
abbrev pub GoesOnInTheSlotTold : Type 0
GoesOnInTheSlotTold =
    let v = view_after_events synchronised (x (pos 5) ∷ slot (pos 0) ∷ y (pos 7) ∷ report ∷ []) in
    (x_of v 0 ≡ pos 0) × (y_of v 0 ≡ pos 7) × (x_of v 1 ≡ pos 5) × (y_of v 1 ≡ pos 0) × (id_of v 1 ≡ pos 11) × (v.slot ≡ pos 0)

-- the bits of an answer to keys are keys, and no LEDs
abbrev pub words : List ℕ
words = 1073741824 ∷ 2 ∷ replicate 10 0

abbrev pub TellsKeys : Type 0
TellsKeys =
    let v = view_after_answer unseen (GetKeys 0) (Bits 0 words) [] in
    (has_key v 30 ≡ true) × (has_key v 65 ≡ true) × (has_key v 29 ≡ false) × (v.leds ≡ unseen.leds)

-- an axis that is told, and one whose values belong to slots
abbrev pub TellsAnAxis : Type 0
TellsAnAxis =
    (axis (view_after_answer unseen (GetAxis 0 1) (Axis 0 (record no_info { value = pos 70 })) []) 1 ≡ pos 70)
    × (view_after_answer unseen (GetAxis 0 53) (Axis 0 (record no_info { value = pos 70 })) [] ≡ unseen)

-- answers that a view does not keep, and a refusal
abbrev pub TellsNoOther : Type 0
TellsNoOther =
    (view_after_answer unseen (GetSounds 0) (Bits 0 words) [] ≡ unseen)
    × (view_after_answer unseen (GetSlots 0 53) (Cells 0 2 (pos 1)) (pos 9 ∷ pos 9 ∷ []) ≡ unseen)
    × (view_after_answer unseen (GetKeys 0) (Refused 0 LogFull) [] ≡ unseen)
