-- Short records, worked out by hand: what two actors of one device see on a one-thread device, and how they stop.
use Rattle.std.specs.Prelude.{ℕ, ◌≡◌, ◌+◌, pos, true, false, List, [], ◌∷◌, ◌++◌, replicate, reverse, Option, Some, None}
use Rattle.inp_model.specs.declared.event.TheConstants.{EV_SYN, EV_KEY, EV_ABS, SYN_REPORT, KEY_A}
use Rattle.inp_model.specs.declared.step.Step.{Step}
use Rattle.inp_model.specs.declared.step.Step.TheVariants.{Inject, Open as ToOpen, Read as ToRead, Discard as ToDiscard, Write as ToWrite, GetKeys, GetAxis, Revoke}
use Rattle.inp_model.specs.declared.reply.Reply.TheVariants.{Done, Opened, Took as Taken, Discarded, Bits, Axis, Refused}
use Rattle.inp_model.specs.declared.reply.Refusal.TheVariants.{LogFull, BadClient, NoDevice}
use Rattle.inp_model.specs.Description.{Description, one_key, no_info}
use Rattle.inp_model.specs.Event.{syn_dropped}
use Rattle.inp_model.specs.examples.Frames.{key, report, at}
use Rattle.inp_actors.specs.declared.command.Command.{Command}
use Rattle.inp_actors.specs.declared.command.Command.TheVariants.{Event, Open, Read, Next as ToNext, Skip, Follow, Force}
use Rattle.inp_actors.specs.declared.role.Role.{Role}
use Rattle.inp_actors.specs.declared.role.Role.TheVariants.{Source, Client, Tap, Joy}
use Rattle.inp_feedback.specs.declared.fed.Fed.TheVariants.{Took as FeedTook, Full as FeedFull}
use Rattle.inp_feedback.specs.declared.u_entry.UEntry.{UEntry}
use Rattle.inp_feedback.specs.declared.u_entry.UEntry.TheVariants.{Made as StepMade, Feedback as CallMade}
use Rattle.inp_feedback.specs.Examples.{keyboard, caps_lock}
use Rattle.inp_feedback.specs.Feedback.{fed, taken_by_feedback, kept_after_feedback}
use Rattle.inp_joy.specs.Examples.{stick}
use Rattle.inp_joy.specs.Picture.{PictureView, up_to_64}
use Rattle.inp_reader.specs.Examples.{played, slider, slides, axis}
use Rattle.inp_script.specs.declared.fed_sight.FedSight.TheVariants.{Answer, Event as Given}
use Rattle.inp_script.specs.declared.sight.Sight.{Sight}
use Rattle.inp_script.specs.declared.sight.Sight.TheVariants.{Call, Took, Made, Again, Record}
use Rattle.inp_script.specs.declared.stop.Stop.TheVariants.{Idle, Full}
use Rattle.inp_script.specs.declared.waiting.Waiting.{Waiting}
use Rattle.inp_script.specs.DoneLine.{line_talk}
use Rattle.inp_script.specs.Job.{Job, first_job}
use Rattle.inp_feedback.specs.Feeds.{Feeding}
use Rattle.inp_script.specs.Owner.{OwnerState, FeedsLine, first_owning}

-- a device, and the jobs of a source and of another actor
pub record TwoJobs : Type 0 where
  pub past : List Step
  pub source : Job
  pub other : Job

-- what one of the two actors does
pub data Act : Type 0 where
  by_source : Command → Act
  by_other : Command → Act

abbrev pub job_or : Job → Option Job → Job
job_or before None = before
job_or before (Some j) = j

-- a command is done in at most so many rounds
abbrev pub after_act : Description → Role → Option Waiting → ℕ → TwoJobs → Act → TwoJobs
after_act d role wait n s (by_source command) =
    let p = played d s.past (line_talk Source d [] wait n command s.source) in
    record s { past = p.past; source = job_or s.source p.result }
after_act d role wait n s (by_other command) =
    let p = played d s.past (line_talk role d [] wait n command s.other) in
    record s { past = p.past; other = job_or s.other p.result }

abbrev pub after_acts : Description → Role → Option Waiting → ℕ → TwoJobs → List Act → TwoJobs
after_acts d role wait n s [] = s
after_acts d role wait n s (act ∷ acts) = after_acts d role wait n (after_act d role wait n s act) acts

abbrev pub first_jobs : Role → Description → TwoJobs
first_jobs role d = record { past = []; source = first_job Source d; other = first_job role d }

-- after these acts, on one thread
abbrev pub after_all : Description → Role → List Act → TwoJobs
after_all d role acts = after_acts d role None 16 (first_jobs role d) acts

abbrev pub press : ℕ → ℕ → Act
press now value = by_source (Event now EV_KEY KEY_A (pos value))

abbrev pub end_frame : ℕ → Act
end_frame now = by_source (Event now EV_SYN SYN_REPORT (pos 0))

-- what a source sees of the steps of a frame, each accepted
abbrev pub stroke_sight : ℕ → ℕ → ℕ → List Sight
stroke_sight place now value = Call (Inject (key (pos value)) now) (Done place) ∷ Call (Inject report now) (Done (place + 1)) ∷ []

-- a tap reads a frame
abbrev pub frame_read : List Act
frame_read = by_other Open ∷ press 1000 1 ∷ end_frame 1000 ∷ by_other (Read 16) ∷ []

abbrev pub tap_sight : List Sight
tap_sight =
    Call ToOpen (Opened 0 0 128) ∷ Call (ToRead 0 16) (Taken 3 2) ∷ Took (at 2 1000 (key (pos 1))) ∷ Took (at 2 1000 report) ∷ []

abbrev pub ReadsByHand : Type 0
ReadsByHand =
    let s = after_all one_key Tap frame_read in
    (s.source.sight ≡ stroke_sight 1 1000 1) × (s.other.sight ≡ tap_sight) × (s.source.stop ≡ None) × (s.other.stop ≡ None)

-- a client opens and follows what comes
abbrev pub FollowsToTheEnd : Type 0
FollowsToTheEnd =
    let s = after_all one_key Client (by_other Open ∷ press 1000 1 ∷ end_frame 1000 ∷ press 2000 0 ∷ end_frame 2000 ∷ by_other Follow ∷ []) in
    (s.other.sight
    ≡ Call ToOpen (Opened 0 0 128) ∷ Call (GetKeys 0) (Bits 1 (replicate 12 0)) ∷ Call (ToRead 0 64) (Taken 6 4)
    ∷ Took (at 3 1000 (key (pos 1))) ∷ Took (at 3 1000 report) ∷ Took (at 5 2000 (key (pos 0))) ∷ Took (at 5 2000 report)
    ∷ Again 7 0 ∷ [])
    × (s.source.sight ≡ stroke_sight 2 1000 1 ++ stroke_sight 4 2000 0) × (s.other.stop ≡ None)

-- an actor that opened and then lost all events but the last report
abbrev pub losing_as : Role → TwoJobs
losing_as role = let s = after_all slider role (by_other Open ∷ []) in record s { past = reverse (slides 33 true) ++ s.past }

abbrev pub losing : TwoJobs
losing = losing_as Client

-- what an actor sees that opens the slider
abbrev pub open_sight : List Sight
open_sight = Call ToOpen (Opened 0 0 64) ∷ Call (GetAxis 0 0) (Axis 1 (record no_info { value = pos 5; maximum = pos 100 })) ∷ []

-- what it sees of the calls until it has synchronised
abbrev pub loss_sight : List Sight
loss_sight =
    open_sight
    ++ Call (ToRead 0 64) (Taken 68 4) ∷ Took (at 65 0 syn_dropped) ∷ Call (ToDiscard 0) (Discarded 69 0)
    ∷ Call (GetAxis 0 0) (Axis 70 (record no_info { value = pos 6; maximum = pos 100 })) ∷ []

-- it is handed the events that its reader makes, and goes on after them in the same line
abbrev pub HandsOutWhatIsMade : Type 0
HandsOutWhatIsMade =
    (after_acts slider Client None 16 losing (by_other (ToNext 10) ∷ [])).other.sight
    ≡ loss_sight ++ Made (axis 0 (pos 6)) ∷ Made report ∷ Again 71 0 ∷ []

-- or it skips them
abbrev pub SkipsWhatIsMade : Type 0
SkipsWhatIsMade = (after_acts slider Client None 16 losing (by_other (Skip 10) ∷ [])).other.sight ≡ loss_sight ++ Again 71 0 ∷ []

-- a history of four steps is full at the fifth; its source stops there and does nothing more
abbrev pub StopsAtTheLimit : Type 0
StopsAtTheLimit =
    let s = after_all (record one_key { log_limit = 4 }) Tap (frame_read ++ press 2000 0 ∷ end_frame 2000 ∷ []) in
    (s.source.sight ≡ stroke_sight 1 1000 1 ++ Call (Inject (key (pos 0)) 2000) (Refused 4 LogFull) ∷ [])
    × (s.source.stop ≡ Some (Full 4)) × (s.other.sight ≡ tap_sight) × (s.other.stop ≡ None)

-- any other refusal ends its line alone, and is seen; for no event there is no call
abbrev pub GoesOnAfterRefusals : Type 0
GoesOnAfterRefusals =
    let s = after_all one_key Client (by_other (ToNext 0) ∷ by_other (Skip 0) ∷ by_other (ToNext 1) ∷ by_other Force ∷ by_other (ToNext 1) ∷ by_other Open ∷ []) in
    (s.other.sight
    ≡ Call (ToRead 4294967295 64) (Refused 0 BadClient) ∷ Call (ToDiscard 4294967295) (Refused 0 BadClient)
    ∷ Call ToOpen (Opened 0 0 128) ∷ Call (GetKeys 0) (Bits 1 (replicate 12 0)) ∷ [])
    × (s.other.stop ≡ None)

-- A client waits for a source that is not done, as often as it may. It sees the last answer alone.
abbrev pub StopsWhereNothingComes : Type 0
StopsWhereNothingComes =
    let s = after_acts one_key Client (Some (record { idle = 5; sources = 1 })) 16 (first_jobs Client one_key) (by_other Open ∷ by_other Follow ∷ by_other Follow ∷ []) in
    (s.other.sight ≡ Call ToOpen (Opened 0 0 128) ∷ Call (GetKeys 0) (Bits 1 (replicate 12 0)) ∷ Again 2 0 ∷ [])
    × (s.other.stop ≡ Some (Idle 5 2))

-- Joysticks

-- a joystick with the axis X alone shows it at this value
abbrev pub axis_at : ℕ → PictureView
axis_at value = record { buttons = up_to_64 false []; axes = up_to_64 (pos 0) (pos value ∷ []) }

-- the record of a startup that tells of it
abbrev pub axis_begins : ℕ → Sight
axis_begins value = Record (0 ∷ 0 ∷ 0 ∷ 0 ∷ value ∷ 0 ∷ 0x82 ∷ 0 ∷ [])

-- A stick with a trigger and an axis is opened. The trigger is pressed, and the axis is moved past its range.
-- Then a line reads more records than there are: the two of the startup, and those of the press and the move,
-- two seconds and a half in.
abbrev pub JoystickTells : Type 0
JoystickTells =
    let move = by_source (Event 2500000 EV_KEY 288 (pos 1)) ∷ by_source (Event 2500000 EV_ABS 0 (pos 40000)) ∷ end_frame 2500000 ∷ [] in
    let s = after_all stick Joy (by_other Open ∷ move ++ by_other (Read 16) ∷ []) in
    (s.other.sight
    ≡ Call ToOpen (Opened 0 0 64) ∷ Call (GetKeys 0) (Bits 1 (replicate 12 0))
    ∷ Call (GetAxis 0 0) (Axis 2 (record no_info { value = pos 5; maximum = pos 100 }))
    ∷ Record (0 ∷ 0 ∷ 0 ∷ 0 ∷ 0 ∷ 0 ∷ 0x81 ∷ 0 ∷ []) ∷ axis_begins 5
    ∷ Call (ToRead 0 64) (Taken 6 3)
    ∷ Record (0xc4 ∷ 9 ∷ 0 ∷ 0 ∷ 1 ∷ 0 ∷ 1 ∷ 0 ∷ []) ∷ Record (0xc4 ∷ 9 ∷ 0 ∷ 0 ∷ 0xff ∷ 0x7f ∷ 2 ∷ 0 ∷ [])
    ∷ Again 7 0 ∷ [])
    × (s.other.stick.picture ≡ record { buttons = up_to_64 false (true ∷ []); axes = up_to_64 (pos 0) (pos 32767 ∷ []) })
    × (s.other.stop ≡ None)

-- A joystick that lost events hands out the rest of its startup first. Then it synchronises, and another
-- startup begins.
abbrev pub JoystickBeginsAnew : Type 0
JoystickBeginsAnew =
    let s = after_acts slider Joy None 16 (losing_as Joy) (by_other (Read 16) ∷ []) in
    (s.other.sight
    ≡ open_sight ++ axis_begins 5 ∷ Call (ToRead 0 64) (Taken 68 4) ∷ Call (ToDiscard 0) (Discarded 69 0)
    ∷ Call (GetAxis 0 0) (Axis 70 (record no_info { value = pos 6; maximum = pos 100 })) ∷ axis_begins 6 ∷ Again 71 0 ∷ [])
    × (s.other.stick.picture ≡ axis_at 6)

-- a joystick that is opened, and hands out its startup
abbrev pub startup_read : List Act
startup_read = by_other Open ∷ by_other (Read 1) ∷ []

abbrev pub startup_sight : List Sight
startup_sight = open_sight ++ axis_begins 5 ∷ []

-- one that is opened again, and refused at a query: its picture stays
abbrev pub RefusedQueryKeepsThePicture : Type 0
RefusedQueryKeepsThePicture =
    let s = after_all (record slider { log_limit = 3 }) Joy (startup_read ++ by_other Open ∷ []) in
    (s.other.sight ≡ startup_sight ++ Call ToOpen (Opened 2 1 64) ∷ Call (GetAxis 1 0) (Refused 3 LogFull) ∷ [])
    × (s.other.stick.picture ≡ axis_at 5) × (s.other.stop ≡ Some (Full 3))

-- One that was revoked: its read ends the line, and its picture stays.
abbrev pub RevokedKeepsThePicture : Type 0
RevokedKeepsThePicture =
    let opened = after_all slider Joy startup_read in
    let s = after_acts slider Joy None 16 (record opened { past = Revoke 0 ∷ opened.past }) (by_other (Read 1) ∷ []) in
    (s.other.sight ≡ startup_sight ++ Call (ToRead 0 64) (Refused 3 NoDevice) ∷ [])
    × (s.other.stick.picture ≡ axis_at 5) × (s.other.stop ≡ None)

-- Owners

-- a device that keeps two feedback calls at most
abbrev pub keyboard_of_two_calls : Description
keyboard_of_two_calls = record keyboard { log_limit = 2 }

-- it answers a feedback call by the entries that it keeps, newest first, and keeps the call
abbrev pub feeds_kept : Feeding (List UEntry)
feeds_kept before after room answer es =
    let d = keyboard_of_two_calls in
    (after ≡ kept_after_feedback d before room) × (answer ≡ fed d before room) × (es ≡ taken_by_feedback d before room)

-- a client lit its LED
abbrev pub lit : List UEntry
lit = StepMade (ToWrite 0 (caps_lock (pos 1)) 0) ∷ StepMade ToOpen ∷ []

-- an owner that took the event, and then none
abbrev pub told_twice : OwnerState
told_twice = record { fed = Answer (FeedTook 2 1) ∷ Given (caps_lock (pos 1)) ∷ Answer (FeedTook 2 0) ∷ []; stop = None }

-- The first line of an owner takes the event, and its second one none.
abbrev pub OwnerTakesWhatWasSent : Type 0
OwnerTakesWhatWasSent =
    let told_once : OwnerState = record { fed = Answer (FeedTook 2 1) ∷ Given (caps_lock (pos 1)) ∷ []; stop = None } in
    FeedsLine feeds_kept lit (CallMade 1 ∷ lit) 15 first_owning told_once
    × FeedsLine feeds_kept (CallMade 1 ∷ lit) (CallMade 0 ∷ CallMade 1 ∷ lit) 15 told_once told_twice

-- Its third call is refused, and stops it: its fourth line makes no call.
abbrev pub OwnerStopsAtTheLimit : Type 0
OwnerStopsAtTheLimit =
    let kept : List UEntry = CallMade 0 ∷ CallMade 1 ∷ lit in
    let stopped : OwnerState = record { fed = told_twice.fed ++ Answer (FeedFull 2) ∷ []; stop = Some (Full 2) } in
    FeedsLine feeds_kept kept kept 15 told_twice stopped × FeedsLine feeds_kept kept kept 15 stopped stopped
