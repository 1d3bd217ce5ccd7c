-- The laws of startups and pictures (docs/RULES.md, "Joystick clients").
use Rattle.std.specs.Prelude.{◌≡◌, ◌≤◌, ◌<◌, ◌+◌, ◌^◌, List, length}
use Rattle.std.specs.Int.{w16}
use Rattle.std.specs.Int.RustNames.{FitsSigned}
use Rattle.inp_model.specs.RawItem.{RawItem}
use Rattle.inp_model.specs.declared.taken.Taken.{Taken}
use Rattle.inp_model.specs.Description.{Description}
use Rattle.inp_recon.specs.declared.view.View.{View}
use Rattle.inp_recon.specs.Faithful.{IsDeviceState}
use Rattle.inp_recon.specs.View.{IsSizedFor, view_after_event}
use Rattle.inp_joy.specs.declared.joy_record.JoyRecord.{JoyRecord}
use Rattle.inp_joy.specs.JoyRecord.{bytes_of_record, record_in}
use Rattle.inp_joy.specs.Codes.{startup_len}
use Rattle.inp_joy.specs.Joy.{startup, joy_record_of}
use Rattle.inp_joy.specs.Picture.{blank_picture, picture_after_all, picture_after_if, picture_of_view, picture_of_device}

-- a startup has a record of each button and axis
abbrev pub StartupIsWhole : Type 0
StartupIsWhole = (d : Description) (v : View) → length (startup d v) ≡ startup_len d

-- there are at most 64 buttons and 49 axes
abbrev pub StartupIsShort : Type 0
StartupIsShort = (d : Description) → startup_len d ≤ 64 + 49

-- a startup leads a blank picture to the view that it is made from
abbrev pub StartupLeadsToItsView : Type 0
StartupLeadsToItsView = (d : Description) (v : View) → picture_after_all blank_picture (startup d v) ≡ picture_of_view d v

-- the record of an event, where there is one, leads the picture of a view to that of the view after the event
abbrev pub EventLeadsToItsView : Type 0
EventLeadsToItsView =
    (d : Description) (v : View) (taken : Taken) → IsSizedFor d.slots v
    → picture_after_if (picture_of_view d v) (joy_record_of d (picture_of_view d v) taken)
    ≡ picture_of_view d (view_after_event v taken.event)

-- the picture of a view that is the device's state is the device's
abbrev pub ViewHasTheDevicesPicture : Type 0
ViewHasTheDevicesPicture =
    (d : Description) (r : List RawItem) (v : View) → IsDeviceState d r v → picture_of_view d v ≡ picture_of_device d r

-- the bytes of a record tell it, where its time has 32 bits and its value 16 with a sign
abbrev pub BytesTellTheRecord : Type 0
BytesTellTheRecord = (r : JoyRecord) → r.time < 2 ^ 32 → FitsSigned w16 r.value → record_in (bytes_of_record r) ≡ r
