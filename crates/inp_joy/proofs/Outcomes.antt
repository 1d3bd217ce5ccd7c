-- What a turn shows where a frame ended, and what it leaves its reader to do.
use Rattle.std.proofs.Common.{◌≡◌, ℕ, reverse, Some, None, refl, sym, ap, subst, ◌∙◌, ◌≤◌, ◌<◌, arith}
use Rattle.std.specs.Prelude.{Option}
use Rattle.std.proofs.lemmas.Bool.{cond_both}
use Rattle.inp_model.specs.declared.taken.Taken.{Taken}
use Rattle.inp_model.specs.Description.{Description}
use Rattle.inp_model.specs.Event.{is_report}
use Rattle.inp_model.specs.Evdev.{EvdevView}
use Rattle.inp_reader.specs.declared.next.Next.{Next}
use Rattle.inp_reader.specs.declared.next.Next.TheVariants.{Success, Dropped, Sync, Synced}
use Rattle.inp_reader.specs.Reader.{ReaderView}
use Rattle.inp_reader.specs.TrueView.{AnswerShows, ShowsTheDevice}
use Rattle.inp_joy.specs.declared.joy_read.JoyRead.{JoyRead}
use Rattle.inp_joy.specs.declared.joy_read.JoyRead.TheVariants.{Frame, More}
use Rattle.inp_joy.specs.declared.joy_record.JoyRecord.{JoyRecord}
use Rattle.inp_joy.specs.declared.turn_end.TurnEnd.{TurnEnd}
use Rattle.inp_joy.specs.declared.turn_end.TurnEnd.TheVariants.{Hands, Stops, GoesOn}
use Rattle.inp_joy.specs.Joy.{JoystickState, JoyTurn, gives, goes_on, hand_out_record, joy_read_of}
use Rattle.inp_joy.specs.Joy.{joy_record_of}
use Rattle.inp_joy.specs.Joy.{record_or_on, joying_after_next}
use Rattle.inp_joy.specs.JoyState.{turn_of_end, TurnEndShows, TurnEndPictures, IsTurnEndLess}
use Rattle.inp_joy.specs.Picture.{picture_of_view}
use Rattle.inp_joy.specs.Reads.{PicturesTheDevice, IsReadLess}
use Rattle.inp_joy.proofs.Pictures.{device-pictured}
use Rattle.inp_joy.proofs.TurnEnds.{IsTurnPictured, frame-pictured}
use Rattle.inp_reader.specs.Effort.{IsLess}

-- the answer of a turn that gives one
abbrev read_of : JoyTurn → JoyRead
read_of (gives answer) = answer.read
read_of (goes_on j) = More

abbrev IsShown : EvdevView → ReaderView → Option JoyRead → Type 0
IsShown told r None = Unit {0}
IsShown told r (Some read) = TurnEndShows told r (Stops read)

stop-shows : (told : EvdevView) (r : ReaderView) (next : Next) → IsShown told r (joy_read_of next)
stop-shows told r (Success taken) = tt
stop-shows told r _ = tt

-- a stopped synchronisation is no frame
pub sync-shows : (told : EvdevView) (r : ReaderView) (next : Next) (read : JoyRead)
    → Some read ≡ joy_read_of next → TurnEndShows told r (Stops read)
sync-shows told r next read h = rw (← h) at (stop-shows told r next)

record_or_on-shows : (told : EvdevView) (r : ReaderView) (j : JoystickState) (o : Option JoyRecord)
    → TurnEndShows told r (Stops (read_of (record_or_on j o)))
record_or_on-shows told r j None = tt
record_or_on-shows told r j (Some joy_record) = tt

next-read_shows : (told : EvdevView) (r : ReaderView) (d : Description) (j : JoystickState) (next : Next)
    → AnswerShows told r next → TurnEndShows told r (Stops (read_of (joying_after_next d j next)))
next-read_shows told r d j (Success taken) h =
    cond_both (is_report taken.event) _ _ (λ x. TurnEndShows told r (Stops (read_of x)))
    (λ _. (taken, refl, h)) (λ _. record_or_on-shows told r j (joy_record_of d j.picture taken))
next-read_shows told r d j _ h = tt

-- a report that the reader handed out ends a frame
pub next-shows : (told : EvdevView) (r : ReaderView) (d : Description) (j k : JoystickState) (next : Next)
    (outcome : TurnEnd) → turn_of_end outcome k ≡ joying_after_next d j next → AnswerShows told r next
    → TurnEndShows told r outcome
next-shows told r d j k next (Hands joy_record) is h = tt
next-shows told r d j k next (Stops read) is h = rw (← is) at (next-read_shows told r d j next h)
next-shows told r d j k next GoesOn is h = tt

-- a record that was handed out is no frame
pub hand_out_record-pictures : (told : EvdevView) (d : Description) (j k : JoystickState)
    (joy_record : JoyRecord)
    (outcome : TurnEnd) → turn_of_end outcome k ≡ gives (hand_out_record j joy_record)
    → TurnEndPictures told d k outcome
hand_out_record-pictures told d j k joy_record (Hands other) is = tt
hand_out_record-pictures told d j k joy_record (Stops read) is =
    subst (λ (x : JoyRead). TurnEndPictures told d k (Stops x)) (sym (ap (λ (t : JoyTurn). read_of t) is)) tt
hand_out_record-pictures told d j k joy_record GoesOn is = tt

-- where the picture shows the view at the end of a frame, it is the device's there
shown-device : (told : EvdevView) (d : Description) (k : JoystickState) (place : ℕ) (taken : Taken)
    → taken.place ≡ place → ShowsTheDevice d (reverse told.seen) k.reading taken
    → k.picture ≡ picture_of_view d k.reading.view → PicturesTheDevice d (reverse told.seen) k place
shown-device told d k place taken at h shown = record {
  at = h.at;
  is_at = h.is_at;
  is_place = rw h.is_taken at;
  pictures = λ f report followed. shown
      ∙ device-pictured d f.cut.until k.reading.view (h.shows f report followed);
}

stop-pictures : (told : EvdevView) (d : Description) (r : ReaderView) (k : JoystickState) (read : JoyRead)
    → r.reading ≡ k.reading → r.description ≡ d → IsTurnPictured d (turn_of_end (Stops read) k)
    → TurnEndShows told r (Stops read) → TurnEndPictures told d k (Stops read)
stop-pictures told d r k (Frame place) same is shown h =
    let all : ShowsTheDevice d (reverse told.seen) k.reading h.0 = rw (is, same) at h.2 in
    shown-device told d k place h.0 h.1 all (frame-pictured d k place shown)
stop-pictures told d r k _ same is shown h = tt

-- where a turn ends a frame, its picture shows the view, and that is the device's state
pub shows-pictures : (told : EvdevView) (d : Description) (r : ReaderView) (k : JoystickState)
    (outcome : TurnEnd) → r.reading ≡ k.reading → r.description ≡ d → IsTurnPictured d (turn_of_end outcome k)
    → TurnEndShows told r outcome → TurnEndPictures told d k outcome
shows-pictures told d r k (Hands joy_record) same is shown h = tt
shows-pictures told d r k (Stops read) same is shown h = stop-pictures told d r k read same is shown h
shows-pictures told d r k GoesOn same is shown h = tt

-- What it leaves its reader to do

-- what is said of a turn's end, of the turn itself
abbrev IsTurnLess : JoyTurn → ℕ → ℕ → Type 0
IsTurnLess (gives answer) after before = IsReadLess answer.read after before
IsTurnLess (goes_on j) after before = after < before

outcome-less : (k : JoystickState) (outcome : TurnEnd) (turn : JoyTurn) (after before : ℕ)
    → turn_of_end outcome k ≡ turn → IsTurnLess turn after before → IsTurnEndLess outcome after before
outcome-less k (Hands r) turn after before is h = tt
outcome-less k (Stops read) turn after before is h = rw (← is) at h
outcome-less k GoesOn turn after before is h = rw (← is) at h

-- a record of the startup
pub startup-less : (j k : JoystickState) (r : JoyRecord) (outcome : TurnEnd) (after before : ℕ)
    → turn_of_end outcome k ≡ gives (hand_out_record j r) → IsTurnEndLess outcome after before
startup-less j k r outcome after before is =
    outcome-less k outcome (gives (hand_out_record j r)) after before is tt

-- an answer of the reader that stops a turn
abbrev IsStopLess : Option JoyRead → ℕ → ℕ → Type 0
IsStopLess None after before = Unit {0}
IsStopLess (Some read) after before = IsReadLess read after before

-- an answer that stops a read by the reader's is no frame and no More, so nothing is asked of it
pub stop-less : (next : Next) (read : JoyRead) (after before : ℕ) → Some read ≡ joy_read_of next
    → IsTurnEndLess (Stops read) after before
stop-less next read after before is = rw (← is) at (by_next next)
  where
    by_next : (n : Next) → IsStopLess (joy_read_of n) after before
    by_next (Success taken) = tt
    by_next _ = tt

-- an answer of the reader that lost no events
record_or_on-less : (j : JoystickState) (o : Option JoyRecord) (after before : ℕ) → after < before
    → IsTurnLess (record_or_on j o) after before
record_or_on-less j None after before h = h
record_or_on-less j (Some r) after before h = tt

after_next-less : (d : Description) (j : JoystickState) (next : Next) (after before : ℕ)
    → IsLess next after before → IsTurnLess (joying_after_next d j next) after before
after_next-less d j (Success taken) after before h =
    cond_both (is_report taken.event) _ _ (λ x. IsTurnLess x after before)
    (λ _. h) (λ _. record_or_on-less j (joy_record_of d j.picture taken) after before h)
after_next-less d j (Dropped taken) after before h = h
after_next-less d j (Sync event) after before h = h
after_next-less d j Synced after before h = h
after_next-less d j _ after before h = tt

-- what the reader left less of is less after the turn, where it gives a frame or goes on
pub next-less : (d : Description) (j k : JoystickState) (next : Next) (outcome : TurnEnd) (after before : ℕ)
    → turn_of_end outcome k ≡ joying_after_next d j next → IsLess next after before
    → IsTurnEndLess outcome after before
next-less d j k next outcome after before is h =
    outcome-less k outcome (joying_after_next d j next) after before is
    (after_next-less d j next after before h)

-- after what left no more
read-less : (read : JoyRead) (after between before : ℕ) → IsReadLess read after between → between ≤ before
    → IsReadLess read after before
read-less (Frame place) after between before h le = omega (arith, h, le)
read-less More after between before h le = omega (arith, h, le)
read-less _ after between before h le = tt

-- less than a number is less than one that is not below it
pub less-then : (outcome : TurnEnd) (after between before : ℕ) → IsTurnEndLess outcome after between
    → between ≤ before → IsTurnEndLess outcome after before
less-then (Hands r) after between before h le = tt
less-then (Stops read) after between before h le = read-less read after between before h le
less-then GoesOn after between before h le = omega (arith, h, le)
