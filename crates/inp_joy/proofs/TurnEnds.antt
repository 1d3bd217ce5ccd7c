-- What a turn leaves, by its talk.
use Rattle.std.proofs.Common.{◌≡◌, ℕ, ◌≤◌, Bool, true, false, if◌then◌else◌, List, [], length, Some, None}
use Rattle.std.proofs.Common.{refl, sym, ap, subst, ◌∙◌, arith, inl, inr, ◌⊎◌, get_or, pos, ◌+◌}
use Rattle.std.specs.Prelude.{Option, slice_get}
use Rattle.std.proofs.lemmas.Bool.{true≢false, cases_lt}
use Rattle.std.proofs.lemmas.Bool.Decides.{nat_tests}
use Rattle.std.proofs.lemmas.Option.{slice_get-get_or}
use Rattle.inp_model.specs.declared.taken.Taken.{Taken}
use Rattle.inp_model.specs.Description.{Description}
use Rattle.inp_model.specs.Event.{is_report}
use Rattle.inp_model.specs.Run.{Call}
use Rattle.inp_recon.specs.declared.view.View.{View}
use Rattle.inp_recon.specs.View.{IsSizedFor, view_after_event, first_view}
use Rattle.inp_model.specs.Reply.{is_accepted}
use Rattle.inp_recon.proofs.Each.{Each-append}
use Rattle.inp_reader.specs.declared.mode.Mode.TheVariants.{Normal, Sync as Synchronising}
use Rattle.inp_reader.specs.declared.next.Next.{Next}
use Rattle.inp_reader.specs.declared.next.Next.TheVariants.{Success, Dropped, Sync, Synced}
use Rattle.inp_reader.specs.declared.started.Started.{Started}
use Rattle.inp_reader.specs.declared.started.Started.TheVariants.{Opened, Refused}
use Rattle.inp_reader.specs.Reader.{ReaderState}
use Rattle.inp_reader.specs.ReaderPlace.{is_needed}
use Rattle.inp_reader.specs.Talk.{EndsWith}
use Rattle.inp_reader.proofs.Calls.{AreAccepted}
use Rattle.inp_joy.specs.declared.joy_read.JoyRead.{JoyRead}
use Rattle.inp_joy.specs.declared.joy_read.JoyRead.TheVariants.{Frame}
use Rattle.inp_joy.specs.declared.joy_record.JoyRecord.{JoyRecord}
use Rattle.inp_joy.specs.declared.turn_end.TurnEnd.{TurnEnd}
use Rattle.inp_joy.specs.declared.turn_end.TurnEnd.TheVariants.{Hands, Stops, GoesOn}
use Rattle.inp_joy.specs.Codes.{startup_len, buttons, axes}
use Rattle.inp_joy.specs.JoyRecord.{startup_axis}
use Rattle.inp_joy.specs.Joy.{JoystickState, JoyAnswer, JoyTurn, gives, goes_on, hand_out_record, stop_with}
use Rattle.inp_joy.specs.Joy.{with_reading, with_startup, without_startup, next_in_startup, is_startup_over}
use Rattle.inp_joy.specs.Joy.{joying_after_start, startup, joy_read_of, joy_record_of, record_or_on}
use Rattle.inp_joy.specs.Joy.{joying_after_event, stop_or_on, joying_after_next, joying_after_sync}
use Rattle.inp_joy.specs.Joy.{record_or_turn, turn_talk}
use Rattle.inp_joy.specs.JoyState.{turn_of_end, IsJoyState, IsJoy, kept_joying}
use Rattle.inp_joy.specs.Picture.{picture_after_if, picture_of_view, seen_as, blank_picture}
use Rattle.inp_joy.specs.Reads.{IsPictured}
use Rattle.inp_joy.proofs.Events.{event-pictured, report-none}
use Rattle.inp_joy.proofs.Nexts.{IsLeftByStart, IsTaken, IsSynced, next-taken, next-synced, next-accepted}
use Rattle.inp_joy.proofs.Nexts.{lost-needed}
use Rattle.inp_joy.proofs.Pictures.{startup-pictured, startup-more, startup-over, startup-gone, first-blank}
use Rattle.inp_joy.proofs.Pictures.{length-startup}
use Rattle.inp_joy.proofs.TurnCases.{Synchronises, TurnCase, of_startup, of_sync, of_loss, of_next, case-of}
use Rattle.inp_joy.proofs.TurnCases.{turn-case}
use Rattle.inp_reader.proofs.UnsetSlotAxes.{IsKeptView-first_view}
use Rattle.inp_joy.specs.declared.joy_state.JoyState.{JoyState}

-- The end of a startup

-- a startup has a record at each place below its length, so where none is found it is over
pub over-none : (d : Description) (v : View) (handed : ℕ) → None ≡ slice_get (startup d v) handed
    → startup_len d ≤ handed
over-none d v handed none = elim (cases_lt handed (startup_len d)) [
  | inl left ↦
      (let item = slice_get-get_or (startup d v) handed no_record (omega (arith, left, length-startup d v)) in
      absurd (let no : None ≡ Some (get_or (startup d v) handed no_record) = none ∙ item in cc))
  | inr over ↦ over
]
  where
    no_record : JoyRecord
    no_record = startup_axis 0 (pos 0)

-- the test says what the comparison of the two numbers says
pub startup_over : (d : Description) (j : JoystickState) → startup_len d ≤ j.handed
    → is_startup_over d j ≡ true
startup_over d j h = grind (arith, nat_tests, h)

-- The picture after a turn

-- at the end of a frame it shows the view
abbrev pub FramePictured : Description → JoyRead → JoystickState → Type 0
FramePictured d (Frame place) j = j.picture ≡ picture_of_view d j.reading.view
FramePictured d _ j = Unit {0}

abbrev pub IsTurnPictured : Description → JoyTurn → Type 0
IsTurnPictured d (gives answer) = IsPictured d answer.joying × FramePictured d answer.read answer.joying
IsTurnPictured d (goes_on j) = IsPictured d j

turn-same : (d : Description) (t u : JoyTurn) → t ≡ u → IsTurnPictured d t → IsTurnPictured d u
turn-same d t u e h = rw e at h

-- a picture that shows the view, with no record of a startup left
pub shown-pictured : (d : Description) (j : JoystickState) → startup_len d ≤ j.handed
    → j.picture ≡ picture_of_view d j.reading.view → IsPictured d j
shown-pictured d j over shown =
    λ plain. startup-gone j.picture (picture_of_view d j.reading.view) d j.reading.view j.handed over shown

pub needed-pictured : (d : Description) (j : JoystickState) → is_needed j.reading.phase ≡ true
    → IsPictured d j
needed-pictured d j needed = λ plain. absurd (true≢false (sym needed ∙ plain))

pub begun-pictured : (d : Description) (r : ReaderState) → IsPictured d (with_startup r)
begun-pictured d r = λ plain. startup-pictured d r.view

-- a record of the startup
pub record-pictured : (d : Description) (j : JoystickState) (r : JoyRecord)
    → slice_get (startup d j.reading.view) j.handed ≡ Some r → IsPictured d j
    → IsPictured d (hand_out_record (next_in_startup j) r).joying
record-pictured d j r at h =
    λ plain. startup-more j.picture (picture_of_view d j.reading.view)
    (startup d j.reading.view) j.handed r at (h plain)

-- a synchronisation
sync-pictured : (d : Description) (j : JoystickState) (next : Next) (r : ReaderState) → IsSynced next r
    → IsTurnPictured d (joying_after_sync j (next, r))
sync-pictured d j (Success taken) r h = absurd h
sync-pictured d j (Dropped taken) r h = absurd h
sync-pictured d j (Sync event) r h = begun-pictured d r
sync-pictured d j Synced r h = begun-pictured d r
sync-pictured d j _ r h = (needed-pictured d (with_reading j r) h, tt)

sync_turn-pictured : (d : Description) (j : JoystickState) (calls : List Call) (t : JoyTurn)
    → is_needed j.reading.phase ≡ true → Synchronises d j calls t → IsTurnPictured d t
sync_turn-pictured d j calls t needed s =
    turn-same d (joying_after_sync j (s.next, s.reading)) t s.comes_to
    (sync-pictured d j s.next s.reading
    (next-synced d j.reading calls (s.next, s.reading) needed s.talk_ends))

-- an event
event-gives : (d : Description) (j : JoystickState) (o : Option JoyRecord) → startup_len d ≤ j.handed
    → picture_after_if j.picture o ≡ picture_of_view d j.reading.view → IsTurnPictured d (record_or_on j o)
event-gives d j None over shown = shown-pictured d j over shown
event-gives d j (Some r) over shown = (shown-pictured d (hand_out_record j r).joying over shown, tt)

taken-pictured : (d : Description) (j : JoystickState) (view : View) (taken : Taken) → IsSizedFor d.slots view
    → startup_len d ≤ j.handed → j.picture ≡ picture_of_view d view
    → j.reading.view ≡ view_after_event view taken.event → IsTurnPictured d (joying_after_event d j taken)
taken-pictured d j view taken sized over shown moved = by_flag (is_report taken.event) refl
  where
    all : picture_after_if j.picture (joy_record_of d j.picture taken) ≡ picture_of_view d j.reading.view
    all = rw (shown, event-pictured d view taken sized.keys sized.axes, ← moved)

    by_flag : (b : Bool) → is_report taken.event ≡ b
        → IsTurnPictured d (if b then gives (stop_with (Frame taken.place) j)
        else record_or_on j (joy_record_of d j.picture taken))
    by_flag true is =
        let still : j.picture ≡ picture_of_view d j.reading.view = rw report-none at all in
        (shown-pictured d j over still, still)
    by_flag false is = event-gives d j (joy_record_of d j.picture taken) over all

stopped-pictured : (d : Description) (j : JoystickState) (r : ReaderState) → startup_len d ≤ j.handed
    → j.picture ≡ picture_of_view d j.reading.view → r.view ≡ j.reading.view → IsPictured d (with_reading j r)
stopped-pictured d j r over shown same = shown-pictured d (with_reading j r) over (rw (shown, ← same))

next-pictured : (d : Description) (j : JoystickState) (next : Next) (r : ReaderState)
    → IsSizedFor d.slots j.reading.view
    → startup_len d ≤ j.handed → j.picture ≡ picture_of_view d j.reading.view → IsTaken j.reading.view next r
    → IsTurnPictured d (joying_after_next d (with_reading j r) next)
next-pictured d j (Success taken) r sized over shown h =
    taken-pictured d (with_reading j r) j.reading.view taken sized over shown h.0
next-pictured d j (Dropped taken) r sized over shown h = needed-pictured d (with_reading j r) h
next-pictured d j (Sync event) r sized over shown h = absurd h
next-pictured d j Synced r sized over shown h = absurd h
next-pictured d j _ r sized over shown h = (stopped-pictured d j r over shown h.0, tt)

-- any turn
pub turn-pictured : (d : Description) (j : JoystickState) (calls : List Call) (t : JoyTurn)
    → IsSizedFor d.slots j.reading.view → IsPictured d j
    → None ≡ slice_get (startup d j.reading.view) j.handed → EndsWith (record_or_turn d j None) calls t
    → IsTurnPictured d t
turn-pictured d j calls t sized pictured none h = by (case-of d j None calls t (sym none) h)
  where
    over : startup_len d ≤ j.handed
    over = over-none d j.reading.view j.handed none

    by : TurnCase d j calls t → IsTurnPictured d t
    by (of_startup r at no_call is) = absurd (let both : None ≡ Some r = none ∙ at in cc)
    by (of_sync needed s) = sync_turn-pictured d j calls t needed s
    by (of_loss first second taken r plain whole ends s) =
        sync_turn-pictured d (with_reading j r) second t (lost-needed d j.reading r first taken plain ends) s
    by (of_next next r plain ends is) =
        turn-same d (joying_after_next d (with_reading j r) next) t is
        (next-pictured d j next r sized over
        (startup-over j.picture (picture_of_view d j.reading.view) d j.reading.view j.handed over
        (pictured plain)) (next-taken d j.reading calls (next, r) plain ends))

-- as an outcome
pub outcome-pictured : (d : Description) (k : JoystickState) (outcome : TurnEnd)
    → IsTurnPictured d (turn_of_end outcome k) → IsPictured d k
outcome-pictured d k (Hands r) h = h.0
outcome-pictured d k (Stops read) h = h.0
outcome-pictured d k GoesOn h = h

-- what is known of a turn that ends a frame says so
pub frame-pictured : (d : Description) (k : JoystickState) (place : ℕ)
    → IsTurnPictured d (turn_of_end (Stops (Frame place)) k) → k.picture ≡ picture_of_view d k.reading.view
frame-pictured d k place h = h.1

-- A start

-- an open begins a startup; a refusal changes nothing or leaves a synchronisation needed
pub start-pictured : (d : Description) (j l : JoystickState) (r : ReaderState) (started : Started)
    → IsLeftByStart j.reading started r → l ≡ joying_after_start d (with_reading j r) started → IsPictured d j
    → IsPictured d l
start-pictured d j l r (Opened client ring) left is h = rw is (begun-pictured d r)
start-pictured d j l r (Refused at why) left is h = rw is (by_flag (is_needed r.phase) refl left)
  where
    by_flag : (b : Bool) → is_needed r.phase ≡ b → (r ≡ j.reading) ⊎ (is_needed r.phase ≡ true)
        → IsPictured d (if b then without_startup d (with_reading j r) else with_reading j r)
    by_flag true needed k = needed-pictured d (without_startup d (with_reading j r)) needed
    by_flag false plain (inl same) = rw same h
    by_flag false plain (inr needed) = absurd (true≢false (sym needed ∙ plain))

-- Where a turn goes on all its calls were accepted

gives-goes : (answer : JoyAnswer) (k : JoystickState) → gives answer ≡ goes_on k → ⊥
gives-goes answer k e = cc

stop-none : (j here k : JoystickState) (o : Option JoyRead) → stop_or_on j here o ≡ goes_on k → o ≡ None
stop-none j here k None h = refl
stop-none j here k (Some read) h = absurd (gives-goes (stop_with read j) k h)

sync_turn-accepted : (d : Description) (j k : JoystickState) (calls : List Call)
    → Synchronises d j calls (goes_on k) → AreAccepted calls
sync_turn-accepted d j k calls s =
    next-accepted d Synchronising j.reading calls (s.next, s.reading)
    (stop-none (with_reading j s.reading) (with_startup s.reading) k
    (joy_read_of s.next) s.comes_to) s.talk_ends

next-none : (d : Description) (j k : JoystickState) (next : Next) → joying_after_next d j next ≡ goes_on k
    → joy_read_of next ≡ None
next-none d j k (Success taken) h = refl
next-none d j k next h = stop-none j j k (joy_read_of next) h

-- a call that is not accepted stops a turn, so one that goes on has none
pub turn-accepted : (d : Description) (j k : JoystickState) (calls : List Call)
    → EndsWith (turn_talk d j) calls (goes_on k) → AreAccepted calls
turn-accepted d j k calls h = by (turn-case d j calls (goes_on k) h)
  where
    by : TurnCase d j calls (goes_on k) → AreAccepted calls
    by (of_startup r at none is) = absurd (gives-goes (hand_out_record (next_in_startup j) r) k is)
    by (of_sync needed s) = sync_turn-accepted d j k calls s
    by (of_loss first second taken r plain whole ends s) =
        rw whole
        (Each-append (λ (call : Call). is_accepted call.answer.reply ≡ true) first second
        (next-accepted d Normal j.reading first (Dropped taken, r) refl ends)
        (sync_turn-accepted d (with_reading j r) k second s))
    by (of_next next r plain ends is) =
        next-accepted d Normal j.reading calls (next, r) (next-none d (with_reading j r) k next is) ends

-- A new joystick client

new-handed : (d : Description) (s : JoyState) → s.buttons ≡ buttons d → s.axes ≡ axes d
    → s.handed ≡ length s.buttons + length s.axes → s.handed ≡ startup_len d
new-handed d s h k m = omega (arith, m, ap length h, ap length k)

new-pictured : (d : Description) (s : JoyState) → s.buttons ≡ buttons d → s.axes ≡ axes d
    → s.handed ≡ length s.buttons + length s.axes → s.reader.reading.view ≡ first_view d
    → seen_as s.picture ≡ blank_picture → IsPictured d (kept_joying s)
new-pictured d s h k m is blank =
    shown-pictured d (kept_joying s) (omega (arith, new-handed d s h k m)) (rw (blank, first-blank d, ← is))

-- a new client has no startup record left, and its blank picture shows its first view
pub new-joy : (d : Description) (s : JoyState) → s.reader.description ≡ d → s.buttons ≡ buttons d
    → s.axes ≡ axes d → s.handed ≡ length s.buttons + length s.axes → s.reader.reading.view ≡ first_view d
    → seen_as s.picture ≡ blank_picture → s.made ≡ [] → IsJoy (record { state = s })
new-joy d s same h k m is blank none =
    let back : d ≡ s.reader.description = sym same in
    record {
      state = subst (λ (e : Description). IsJoyState e s) back (record {
        description = same;
        buttons = h;
        axes = k;
        handed = omega (arith, new-handed d s h k m);
        view = rw is (IsKeptView-first_view d);
      });
      few = omega (arith, ap length none);
      pictured = rw back at (new-pictured d s h k m is blank);
    }
