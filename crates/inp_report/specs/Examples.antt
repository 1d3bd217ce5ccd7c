-- The texts of a few records and of their results, worked out by hand.
use Rattle.std.specs.Prelude.{◌≡◌, ℕ, pos, negsuc, true, false, List, [], ◌∷◌, ◌++◌, codes, flat_map, replicate}
use Rattle.inp_model.specs.declared.event.Event.{Event}
use Rattle.inp_model.specs.declared.axis_info.AxisInfo.{AxisInfo}
use Rattle.inp_model.specs.declared.step.Step.{Step}
use Rattle.inp_model.specs.declared.step.Step.TheVariants.{Inject, Open, Read, Write, Discard, GetKeys, GetAxis, End}
use Rattle.inp_model.specs.declared.reply.Reply.TheVariants.{Done, Opened, Took as Taking, Discarded, Bits, Axis, Refused}
use Rattle.inp_model.specs.declared.reply.Refusal.TheVariants.{LogFull}
use Rattle.inp_model.specs.Description.{Description, one_key}
use Rattle.inp_model.specs.Event.{syn_dropped}
use Rattle.inp_model.specs.examples.Frames.{at, key, report as syn_report}
use Rattle.inp_model.specs.examples.Queries.{desk}
use Rattle.inp_model.specs.examples.Slots.{touchpad, touch}
use Rattle.inp_feedback.specs.declared.fed.Fed.TheVariants.{Took as FeedTook, Full as FeedFull}
use Rattle.inp_feedback.specs.Examples.{caps_lock}
use Rattle.inp_joy.specs.Examples.{stick, trigger}
use Rattle.inp_joy.specs.Picture.{PictureView, blank_picture, up_to_64}
use Rattle.inp_reader.specs.Examples.{axis}
use Rattle.inp_recon.specs.declared.view.View.{View}
use Rattle.inp_recon.specs.View.{first_view}
use Rattle.inp_actors.specs.declared.role.Role.{Role}
use Rattle.inp_actors.specs.declared.role.Role.TheVariants.{Source, Client, Tap, Joy, Owner}
use Rattle.inp_actors.specs.declared.actor_text.ActorText.{ActorText}
use Rattle.inp_actors.specs.Record.{RecordView}
use Rattle.inp_script.specs.declared.fed_sight.FedSight.{FedSight}
use Rattle.inp_script.specs.declared.fed_sight.FedSight.TheVariants.{Answer, Event as Given}
use Rattle.inp_script.specs.declared.sight.Sight.{Sight}
use Rattle.inp_script.specs.declared.sight.Sight.TheVariants.{Call, Took, Made, Again, Record}
use Rattle.inp_script.specs.declared.stop.Stop.{Stop}
use Rattle.inp_script.specs.declared.stop.Stop.TheVariants.{Finished, Idle, Full}
use Rattle.inp_script.specs.declared.run.Run.{Run}
use Rattle.inp_script.specs.Job.{JobView, JoyJobView, OwnerView}
use Rattle.inp_texts.specs.Texts.{text_of_lines}
use Rattle.inp_report.specs.Sights.{sight_line}
use Rattle.inp_report.specs.Views.{view_text}
use Rattle.inp_report.specs.Report.{role_part, part_text, report}
use Rattle.inp_report.specs.JoyReport.{joy_report}
use Rattle.inp_report.specs.OwnerReport.{owner_report}
use Rattle.inp_report.specs.Summary.{summary}

-- an actor of the only device
abbrev pub actor : Role → List ℕ → ActorText
actor role name = record { name = name; role = role; device = 0 }

-- a record with this device and these actors; a report says nothing of its lines
abbrev pub record_of : List ℕ → Description → List ActorText → RecordView
record_of name d actors = record { version = 1; devices = record { name = name; caps = d; requested = false } ∷ []; actors = actors; lines = []; streams = [] }

abbrev pub job : ℕ → List Sight → View → Stop → JobView
job number sight view stop = record { actor = number; sight = sight; view = view; stop = stop }

abbrev pub done : Event → ℕ → ℕ → Sight
done e now place = Call (Inject e now) (Done place)

-- a key is pressed, and a tap reads it
abbrev pub keyboard : RecordView
keyboard = record_of (codes "kbd") one_key (actor Source (codes "s") ∷ actor Tap (codes "t") ∷ [])

abbrev pub press : List Step
press = Open ∷ Inject (key (pos 1)) 1000 ∷ Inject syn_report 1000 ∷ Read 0 16 ∷ []

abbrev pub injected : List Sight
injected = done (key (pos 1)) 1000 1 ∷ done syn_report 1000 2 ∷ []

abbrev pub press_read : List Sight
press_read =
    Call Open (Opened 0 0 128) ∷ Call (Read 0 16) (Taking 3 2) ∷ Took (at 2 1000 (key (pos 1))) ∷ Took (at 2 1000 syn_report) ∷ []

-- the view of a client that knows that the key A is down
abbrev pub pressed : View
pressed = record (first_view one_key) { keys = one_key.keys }

abbrev pub runs_with : List Sight → Stop → List Run
runs_with sight stop = record {
  history = press;
  jobs = job 0 sight (first_view one_key) stop ∷ job 1 press_read pressed Finished ∷ [];
} ∷ []

abbrev pub tap_lines : List (List ℕ)
tap_lines =
    codes "tap t"
    ∷ codes "call open reply opened 0 0 128"
    ∷ codes "call read 0 16 reply took 3 2"
    ∷ codes "took 2 1000 EV_KEY KEY_A 1"
    ∷ codes "took 2 1000 EV_SYN SYN_REPORT 0"
    ∷ codes "keys KEY_A"
    ∷ codes "stop finished"
    ∷ []

abbrev pub ShowsAPress : Type 0
ShowsAPress =
    report keyboard (runs_with injected Finished) false
    ≡ text_of_lines (codes "device kbd steps 4" ∷ codes "source s calls 2 stop finished" ∷ tap_lines)

abbrev pub ShowsItsHistory : Type 0
ShowsItsHistory =
    report keyboard (runs_with injected Finished) true
    ≡ text_of_lines (codes "device kbd steps 4"
    ∷ codes "step 0 open"
    ∷ codes "step 1 inject 1000 EV_KEY KEY_A 1"
    ∷ codes "step 2 inject 1000 EV_SYN SYN_REPORT 0"
    ∷ codes "step 3 read 0 16"
    ∷ codes "source s calls 2 stop finished"
    ∷ tap_lines)

-- a refused call and an End are no calls of a source
abbrev pub ShowsAFullHistory : Type 0
ShowsAFullHistory =
    report keyboard (runs_with (injected ++ Call (Inject (key (pos 0)) 2000) (Refused 4 LogFull) ∷ []) (Full 4)) false
    ≡ text_of_lines (codes "device kbd steps 4" ∷ codes "source s calls 2 stop full 4" ∷ tap_lines)

abbrev pub CountsNoEnd : Type 0
CountsNoEnd =
    report keyboard (runs_with (injected ++ Call End (Done 4) ∷ []) Finished) false
    ≡ report keyboard (runs_with injected Finished) false

-- a client follows a press and a release
abbrev pub ShowsAClient : Type 0
ShowsAClient =
    part_text one_key Client (codes "c") (job 1 (
    Call Open (Opened 0 0 128)
    ∷ Call (GetKeys 0) (Bits 1 (replicate 12 0))
    ∷ Call (Read 0 64) (Taking 6 4)
    ∷ Took (at 3 1000 (key (pos 1)))
    ∷ Took (at 3 1000 syn_report)
    ∷ Took (at 5 2000 (key (pos 0)))
    ∷ Took (at 5 2000 syn_report)
    ∷ Again 7 0
    ∷ []) (first_view one_key) Finished)
    ≡ text_of_lines (codes "client c"
    ∷ codes "call open reply opened 0 0 128"
    ∷ codes "call getkeys 0 reply bits 1"
    ∷ codes "call read 0 64 reply took 6 4"
    ∷ codes "took 3 1000 EV_KEY KEY_A 1"
    ∷ codes "took 3 1000 EV_SYN SYN_REPORT 0"
    ∷ codes "took 5 2000 EV_KEY KEY_A 0"
    ∷ codes "took 5 2000 EV_SYN SYN_REPORT 0"
    ∷ codes "again 7"
    ∷ codes "keys"
    ∷ codes "stop finished"
    ∷ [])

-- a client lost events and synchronised
abbrev pub axis_told : AxisInfo
axis_told = record { value = pos 6; minimum = pos 0; maximum = pos 100; fuzz = pos 0; flat = pos 0; resolution = pos 0 }

abbrev pub ShowsALoss : Type 0
ShowsALoss =
    flat_map sight_line (
    Call (Read 0 64) (Taking 68 4)
    ∷ Took (at 65 0 syn_dropped)
    ∷ Call (Discard 0) (Discarded 69 0)
    ∷ Call (GetAxis 0 0) (Axis 70 axis_told)
    ∷ Made (touch 0 (pos 6))
    ∷ Made syn_report
    ∷ Again 71 0
    ∷ [])
    ≡ text_of_lines (codes "call read 0 64 reply took 68 4"
    ∷ codes "took 65 0 EV_SYN SYN_DROPPED 0"
    ∷ codes "call discard 0 reply discarded 69 0"
    ∷ codes "call getaxis 0 ABS_X reply axis 70 6 0 100 0 0 0"
    ∷ codes "made EV_ABS ABS_X 6"
    ∷ codes "made EV_SYN SYN_REPORT 0"
    ∷ codes "again 71"
    ∷ [])

-- keys in the order of their codes; lines that stand alone where nothing is on
abbrev pub ShowsEachClass : Type 0
ShowsEachClass =
    view_text desk (record (first_view desk) { keys = desk.keys; axes = pos 6 ∷ replicate 63 (pos 0) })
    ≡ text_of_lines (codes "keys KEY_A KEY_B" ∷ codes "switches" ∷ codes "leds" ∷ codes "axes ABS_X=6" ∷ [])

-- a job that found nothing three times, the last at the place 12
abbrev pub ShowsIdle : Type 0
ShowsIdle = role_part Tap (codes "t") [] (Idle 3 12) ≡ text_of_lines (codes "tap t" ∷ codes "stop idle 3 12" ∷ [])

-- A touchpad with two slots and no axis of its own: of each slot the place and the id, those of an empty slot too.
abbrev pub ShowsContacts : Type 0
ShowsContacts =
    view_text touchpad (record (first_view touchpad) {
      slot = pos 1;
      cells = (replicate 6 (pos 0) ++ pos 7 ∷ pos 0 ∷ pos 0 ∷ negsuc 0 ∷ replicate 4 (pos 0))
          ++ replicate 5 (pos 0) ++ pos 5 ∷ pos 0 ∷ pos 0 ∷ pos 0 ∷ pos 11 ∷ replicate 4 (pos 0);
    })
    ≡ text_of_lines (codes "keys"
    ∷ codes "axes"
    ∷ codes "current 1"
    ∷ codes "slot 0 ABS_MT_POSITION_X=0 ABS_MT_POSITION_Y=7 ABS_MT_TRACKING_ID=-1"
    ∷ codes "slot 1 ABS_MT_POSITION_X=5 ABS_MT_POSITION_Y=0 ABS_MT_TRACKING_ID=11"
    ∷ [])

-- A stick with a trigger and the axis X. A joystick opens it, is handed out how they stand, and then that the
-- trigger is pressed and that the axis moves past its range.
abbrev pub joystick : RecordView
joystick = record_of (codes "stick") stick (actor Source (codes "s") ∷ actor Joy (codes "j") ∷ [])

abbrev pub joy_job : List Sight → PictureView → Stop → JoyJobView
joy_job sight picture stop = record { actor = 1; sight = sight; picture = picture; stop = stop }

abbrev pub pull : List Step
pull =
    Open ∷ GetKeys 0 ∷ GetAxis 0 0 ∷ Inject trigger 0 ∷ Inject (axis 0 (pos 40000)) 0 ∷ Inject syn_report 2500000 ∷ Read 0 64 ∷ []

abbrev pub pulled : List Sight
pulled = done trigger 0 3 ∷ done (axis 0 (pos 40000)) 0 4 ∷ done syn_report 2500000 5 ∷ []

abbrev pub pull_read : List Sight
pull_read =
    Call Open (Opened 0 0 64)
    ∷ Call (GetKeys 0) (Bits 1 (replicate 12 0))
    ∷ Call (GetAxis 0 0) (Axis 2 (record axis_told { value = pos 5 }))
    ∷ Record (0 ∷ 0 ∷ 0 ∷ 0 ∷ 0 ∷ 0 ∷ 129 ∷ 0 ∷ [])
    ∷ Record (0 ∷ 0 ∷ 0 ∷ 0 ∷ 5 ∷ 0 ∷ 130 ∷ 0 ∷ [])
    ∷ Call (Read 0 64) (Taking 6 3)
    ∷ Record (196 ∷ 9 ∷ 0 ∷ 0 ∷ 1 ∷ 0 ∷ 1 ∷ 0 ∷ [])
    ∷ Record (196 ∷ 9 ∷ 0 ∷ 0 ∷ 255 ∷ 127 ∷ 2 ∷ 0 ∷ [])
    ∷ Again 7 0
    ∷ []

abbrev pub ShowsAJoystick : Type 0
ShowsAJoystick =
    report joystick (record { history = pull; jobs = job 0 pulled (first_view stick) Finished ∷ [] } ∷ []) false
    ++ joy_report joystick (joy_job pull_read (record { buttons = up_to_64 false (true ∷ []); axes = up_to_64 (pos 0) (pos 32767 ∷ []) }) Finished ∷ [])
    ≡ text_of_lines (codes "device stick steps 7"
    ∷ codes "source s calls 3 stop finished"
    ∷ codes "joy j"
    ∷ codes "call open reply opened 0 0 64"
    ∷ codes "call getkeys 0 reply bits 1"
    ∷ codes "call getaxis 0 ABS_X reply axis 2 5 0 100 0 0 0"
    ∷ codes "js 0 0 129 0"
    ∷ codes "js 0 5 130 0"
    ∷ codes "call read 0 64 reply took 6 3"
    ∷ codes "js 2500 1 1 0"
    ∷ codes "js 2500 32767 2 0"
    ∷ codes "again 7"
    ∷ codes "buttons 0"
    ∷ codes "axes 32767"
    ∷ codes "stop finished"
    ∷ [])

-- no button is down, and the axis moved the other way as far as it goes, at the latest time that a record can tell
abbrev pub ShowsAnAxisBelowNought : Type 0
ShowsAnAxisBelowNought =
    joy_report joystick (joy_job (
    Record (255 ∷ 255 ∷ 255 ∷ 255 ∷ 1 ∷ 128 ∷ 2 ∷ 0 ∷ []) ∷ []) (record blank_picture { axes = up_to_64 (pos 0) (negsuc 32766 ∷ []) }) (Full 9) ∷ [])
    ≡ text_of_lines (codes "joy j" ∷ codes "js 4294967295 -32767 2 0" ∷ codes "buttons" ∷ codes "axes -32767" ∷ codes "stop full 9" ∷ [])

-- A device with an LED, which is made by requests. A tap lights the LED two times, of which the second
-- changes nothing. The owner takes the one event that was sent, and then none.
abbrev pub lamp : Description
lamp = record one_key {
  kinds = true ∷ replicate 16 false ++ true ∷ replicate 46 false;
  keys = replicate 768 false;
  leds = false ∷ true ∷ replicate 62 false;
}

abbrev pub lamp_record : RecordView
lamp_record = record (record_of (codes "u") lamp (actor Tap (codes "t") ∷ actor Owner (codes "o") ∷ [])) {
  devices = record { name = codes "u"; caps = lamp; requested = true } ∷ [];
}

abbrev pub lit_twice : List Step
lit_twice = Open ∷ Write 0 (caps_lock (pos 1)) 1 ∷ Write 0 (caps_lock (pos 1)) 2 ∷ []

abbrev pub lighting : List Sight
lighting =
    Call Open (Opened 0 0 128)
    ∷ Call (Write 0 (caps_lock (pos 1)) 1) (Done 1)
    ∷ Call (Write 0 (caps_lock (pos 1)) 2) (Done 2)
    ∷ []

abbrev pub owner_of_lamp : List FedSight → Stop → OwnerView
owner_of_lamp told stop = record { actor = 1; fed = told; stop = stop }

abbrev pub ShowsAnOwner : Type 0
ShowsAnOwner =
    report lamp_record (record { history = lit_twice; jobs = job 0 lighting (first_view lamp) Finished ∷ [] } ∷ []) false
    ++ owner_report lamp_record (owner_of_lamp (Answer (FeedTook 3 1) ∷ Given (caps_lock (pos 1)) ∷ Answer (FeedTook 3 0) ∷ []) Finished ∷ [])
    ≡ text_of_lines (codes "device u steps 3"
    ∷ codes "tap t"
    ∷ codes "call open reply opened 0 0 128"
    ∷ codes "call write 0 1 EV_LED LED_CAPSL 1 reply done 1"
    ∷ codes "call write 0 2 EV_LED LED_CAPSL 1 reply done 2"
    ∷ codes "leds"
    ∷ codes "stop finished"
    ∷ codes "owner o"
    ∷ codes "feedback 3 1"
    ∷ codes "fed EV_LED LED_CAPSL 1"
    ∷ codes "feedback 3 0"
    ∷ codes "stop finished"
    ∷ [])

-- where two calls are kept at most, the third one is refused after two steps: it has no line
abbrev pub ShowsNoRefusedFeedback : Type 0
ShowsNoRefusedFeedback =
    owner_report lamp_record (owner_of_lamp (
    Answer (FeedTook 2 1)
    ∷ Given (caps_lock (pos 1))
    ∷ Answer (FeedTook 2 0)
    ∷ Answer (FeedFull 2)
    ∷ []) (Full 2) ∷ [])
    ≡ text_of_lines (codes "owner o"
    ∷ codes "feedback 2 1"
    ∷ codes "fed EV_LED LED_CAPSL 1"
    ∷ codes "feedback 2 0"
    ∷ codes "stop full 2"
    ∷ [])

-- ten fingers, of which the last is told
abbrev pub generated : RecordView
generated = record_of (codes "pad") (record touchpad { slots = 10 }) (
    actor Source (codes "finger") ∷ actor Client (codes "fast") ∷ actor Client (codes "slow") ∷ [])

abbrev pub told : View
told = record (first_view touchpad) {
  cells = replicate 131 (pos 0) ++ pos 258 ∷ pos 370 ∷ pos 0 ∷ pos 0 ∷ pos 9 ∷ replicate 4 (pos 0);
}

abbrev pub SumsUp : Type 0
SumsUp =
    summary 7 20 generated (record {
      history = replicate 674 Open;
      jobs =
          job 0 (replicate 631 (done syn_report 10000 1)) (first_view touchpad) Finished
          ∷ job 1 (replicate 630 (Took (at 2 10000 syn_report)) ++ replicate 20 (Again 5 0)) told Finished
          ∷ job 2 (Took (at 2 10000 syn_dropped) ∷ replicate 41 (Made syn_report) ++ Again 674 0 ∷ []) told Finished
          ∷ [];
    } ∷ [])
    ≡ text_of_lines (codes "make 7 20"
    ∷ codes "device pad steps 674"
    ∷ codes "source finger calls 631"
    ∷ codes "client fast took 630 made 0 again 20 x 258 y 370"
    ∷ codes "client slow took 1 made 41 again 1 x 258 y 370"
    ∷ [])
