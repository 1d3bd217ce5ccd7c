-- Short histories of devices with slots, worked out by hand.
use Rattle.std.specs.Prelude.{ℕ, ℤ, pos, negsuc, true, false, List, [], ◌∷◌, ◌++◌, replicate}
use Rattle.inp_model.specs.declared.event.TheConstants.{EV_ABS}
use Rattle.inp_model.specs.declared.multi_touch.TheConstants.{ABS_MT_SLOT, ABS_MT_POSITION_X, ABS_MT_POSITION_Y, ABS_MT_TRACKING_ID}
use Rattle.inp_model.specs.declared.event.Event.{Event}
use Rattle.inp_model.specs.declared.step.Step.{Step}
use Rattle.inp_model.specs.declared.step.Step.TheVariants.{Open, Read, GetAxis, GetSlots, SyncSlots}
use Rattle.inp_model.specs.declared.reply.Reply.TheVariants.{Axis, Cells, Again, Refused}
use Rattle.inp_model.specs.declared.reply.Refusal.TheVariants.{BadClient, BadKind, BadCode}
use Rattle.inp_model.specs.Description.{Description, one_key, no_info}
use Rattle.inp_model.specs.Event.{core_report}
use Rattle.inp_model.specs.Reply.{alone}
use Rattle.inp_model.specs.examples.Frames.{key, report, at, took}
use Rattle.inp_model.specs.examples.Queries.{desk, key_b, inject, GivesOn}

-- two slots, with the place of a contact and its id
abbrev pub touchpad : Description
touchpad = record one_key {
  kinds = true ∷ true ∷ false ∷ true ∷ replicate 60 false;
  axes = replicate 47 false ++ true ∷ replicate 5 false ++ true ∷ true ∷ false ∷ false ∷ true ∷ replicate 6 false;
  slots = 2;
}

-- the same without slots
abbrev pub pointer : Description
pointer = record touchpad { slots = 0 }

abbrev pub touch : ℕ → ℤ → Event
touch code value = record { kind = EV_ABS; code = code; value = value }

abbrev pub slot : ℤ → Event
slot = touch ABS_MT_SLOT

abbrev pub x : ℤ → Event
x = touch ABS_MT_POSITION_X

abbrev pub y : ℤ → Event
y = touch ABS_MT_POSITION_Y

abbrev pub id : ℤ → Event
id = touch ABS_MT_TRACKING_ID

-- a contact comes in slot 1 and is read; then X of slot 1 and Y of slot 0, in a batch that is still open
abbrev pub touched : List Step
touched =
    Open ∷ inject (slot (pos 1)) ∷ inject (id (pos 11)) ∷ inject report ∷ Read 0 16 ∷ []
    ++ inject (x (pos 5)) ∷ inject (slot (pos 0)) ∷ inject (y (pos 7)) ∷ []

-- the first frame names the slot before its value
abbrev pub NamesTheSlot : Type 0
NamesTheSlot =
    GivesOn touchpad (Open ∷ inject (slot (pos 1)) ∷ inject (id (pos 11)) ∷ inject report ∷ []) (Read 0 16)
    (took 4 3 (at 3 0 (slot (pos 1)) ∷ at 3 0 (id (pos 11)) ∷ at 3 0 report ∷ []))

-- All values now, with the slot of the last frame: in the open batch slot 0 was named already, but no client was told.
abbrev pub TellsAllSlots : Type 0
TellsAllSlots =
    GivesOn touchpad touched (SyncSlots 0) (record {
      reply = Cells 8 28 (pos 1);
      events = [];
      cells = (replicate 6 (pos 0) ++ pos 7 ∷ pos 0 ∷ pos 0 ∷ negsuc 0 ∷ replicate 4 (pos 0))
          ++ replicate 5 (pos 0) ++ pos 5 ∷ pos 0 ∷ pos 0 ∷ pos 0 ∷ pos 11 ∷ replicate 4 (pos 0);
    })

-- one value of each slot
abbrev pub TellsOneValue : Type 0
TellsOneValue =
    GivesOn touchpad touched (GetSlots 0 ABS_MT_TRACKING_ID) (record { reply = Cells 8 2 (pos 1); events = []; cells = negsuc 0 ∷ pos 11 ∷ [] })

-- the frame that ends then is read whole, from the slot of the last frame on
abbrev pub GoesOnInTheSlot : Type 0
GoesOnInTheSlot =
    GivesOn touchpad (touched ++ SyncSlots 0 ∷ inject report ∷ []) (Read 0 16)
    (took 10 4 (at 9 0 (x (pos 5)) ∷ at 9 0 (slot (pos 0)) ∷ at 9 0 (y (pos 7)) ∷ at 9 0 report ∷ []))

-- queued multi-touch events go, with the report of a frame that had no other event; the first report stays
abbrev pub RemovesQueuedTouches : Type 0
RemovesQueuedTouches =
    GivesOn touchpad (Open ∷ inject (id (pos 3)) ∷ inject (key (pos 1)) ∷ inject report ∷ inject (x (pos 5)) ∷ inject report ∷ SyncSlots 0 ∷ []) (Read 0 16)
    (took 7 2 (at 3 0 (key (pos 1)) ∷ at 3 0 report ∷ []))

-- an axis query tells the slot that was named last, and 0 for the values of slots
abbrev pub TellsTheNamedSlot : Type 0
TellsTheNamedSlot =
    GivesOn touchpad touched (GetAxis 0 ABS_MT_SLOT) (alone (Axis 8 (record no_info { value = pos 0 })))
    × GivesOn touchpad (touched ++ inject (slot (pos 1)) ∷ inject (x (pos 6)) ∷ []) (GetAxis 0 ABS_MT_SLOT) (alone (Axis 10 (record no_info { value = pos 1 })))
    × GivesOn touchpad touched (GetAxis 0 ABS_MT_POSITION_X) (alone (Axis 8 no_info))

-- a slot that there is not is not staged
abbrev pub StagesSlotsThatThereAre : Type 0
StagesSlotsThatThereAre =
    GivesOn touchpad (Open ∷ inject (slot (pos 1)) ∷ inject (x (pos 5)) ∷ inject (slot (pos 7)) ∷ inject (x (pos 6)) ∷ inject report ∷ []) (Read 0 16)
    (took 6 4 (at 5 0 (slot (pos 1)) ∷ at 5 0 (x (pos 5)) ∷ at 5 0 (x (pos 6)) ∷ at 5 0 report ∷ []))

-- a slot that was named without a value is not announced, and an unchanged value is not passed
abbrev pub PassesNoNameAlone : Type 0
PassesNoNameAlone =
    GivesOn touchpad (Open ∷ inject (slot (pos 1)) ∷ inject (x (pos 0)) ∷ inject report ∷ []) (Read 0 16) (alone (Again 4 0))

-- without slots the values are passed as they come, and slots are not named
abbrev pub PassesWithoutSlots : Type 0
PassesWithoutSlots =
    GivesOn pointer (Open ∷ inject (slot (pos 1)) ∷ inject (x (pos 5)) ∷ inject (x (pos 5)) ∷ inject report ∷ []) (Read 0 16)
    (took 5 3 (at 4 0 (x (pos 5)) ∷ at 4 0 (x (pos 5)) ∷ at 4 0 report ∷ []))

-- a batch of two events is full, and the naming of a slot counts
abbrev pub CountsTheName : Type 0
CountsTheName =
    GivesOn (record touchpad { hint = 2 }) (Open ∷ inject (slot (pos 1)) ∷ inject (x (pos 5)) ∷ []) (Read 0 16)
    (took 3 3 (at 2 0 (slot (pos 1)) ∷ at 2 0 (x (pos 5)) ∷ at 2 0 core_report ∷ []))

-- a report after a full batch is alone, and no frame
abbrev pub CutsAtTheHint : Type 0
CutsAtTheHint =
    GivesOn (record desk { hint = 2 }) (Open ∷ inject (key (pos 1)) ∷ inject key_b ∷ inject report ∷ []) (Read 0 16)
    (took 4 3 (at 2 0 (key (pos 1)) ∷ at 2 0 key_b ∷ at 2 0 core_report ∷ []))

-- who asks first has to be open, then the device needs slots, then the code has to be a slot's value
abbrev pub RefusesSlotQueries : Type 0
RefusesSlotQueries =
    GivesOn one_key [] (SyncSlots 0) (alone (Refused 0 BadClient))
    × GivesOn pointer (Open ∷ []) (SyncSlots 0) (alone (Refused 1 BadKind))
    × GivesOn pointer (Open ∷ []) (GetSlots 0 ABS_MT_SLOT) (alone (Refused 1 BadKind))
    × GivesOn touchpad (Open ∷ []) (GetSlots 0 ABS_MT_SLOT) (alone (Refused 1 BadCode))
    × GivesOn touchpad (Open ∷ []) (GetSlots 0 62) (alone (Refused 1 BadCode))
