-- Where a joystick client answers Again, its last call was answered so.
use Rattle.std.proofs.Common.{◌≡◌, ℕ, List, ◌++◌, Option, Some, None, refl}
use Rattle.std.proofs.lemmas.Bool.{cond_both}
use Rattle.inp_model.specs.declared.reply.Reply.TheVariants.{Again as NothingVisible}
use Rattle.inp_script.proofs.Common.{Description, Call, JoyRead, JoyRecord, Next, EndsWith, is_report}
use Rattle.inp_joy.specs.declared.joy_read.JoyRead.TheVariants.{Again}
use Rattle.inp_joy.specs.Joy.{JoystickState, JoyAnswer, JoyTurn, gives, goes_on, joy_read_of, joy_record_of}
use Rattle.inp_joy.specs.Joy.{record_or_on, stop_or_on, joying_after_next, turns}
use Rattle.inp_joy.proofs.TurnCases.{Synchronises, TurnCase, of_startup, of_sync, of_loss, of_next, turn-case}
use Rattle.inp_joy.proofs.TurnCases.{turns-all}
use Rattle.inp_reader.specs.declared.mode.Mode.TheVariants.{Normal, Sync as Synchronising}
use Rattle.inp_reader.specs.declared.next.Next.TheVariants.{Success, Again as ReaderAgain}
use Rattle.inp_script.proofs.LastAgain.{EndsIn, ends_in-behind, next-last}

-- where a read answers Again, so was the last of its calls
abbrev pub LastIsAgain : List Call → JoyRead → Type 0
LastIsAgain calls (Again at ends) = EndsIn calls (NothingVisible at ends)
LastIsAgain calls _ = Unit {0}

abbrev TurnLastIsAgain : List Call → JoyTurn → Type 0
TurnLastIsAgain calls (gives answer) = LastIsAgain calls answer.read
TurnLastIsAgain calls (goes_on j) = Unit {0}

last-behind : (first second : List Call) (read : JoyRead) → LastIsAgain second read
    → LastIsAgain (first ++ second) read
last-behind first second (Again at ends) h = ends_in-behind first second (NothingVisible at ends) h
last-behind first second _ h = tt

turn-behind : (first second : List Call) (t : JoyTurn) → TurnLastIsAgain second t
    → TurnLastIsAgain (first ++ second) t
turn-behind first second (gives answer) h = last-behind first second answer.read h
turn-behind first second (goes_on j) h = tt

-- an answer of the reader that is one of the read
stop-last : (calls : List Call) (j here : JoystickState) (next : Next)
    → ((at ends : ℕ) → next ≡ ReaderAgain at ends → EndsIn calls (NothingVisible at ends))
    → TurnLastIsAgain calls (stop_or_on j here (joy_read_of next))
stop-last calls j here (ReaderAgain at ends) last = last at ends refl
stop-last calls j here _ last = tt

synchronises-last : (d : Description) (j : JoystickState) (calls : List Call) (t : JoyTurn)
    → Synchronises d j calls t → TurnLastIsAgain calls t
synchronises-last d j calls t s =
    rw (← s.comes_to) (stop-last calls _ _ s.next
    (λ at ends e. next-last d Synchronising j.reading s.reading calls at ends (rw e at s.talk_ends)))

made-last : (calls : List Call) (j : JoystickState) (o : Option JoyRecord)
    → TurnLastIsAgain calls (record_or_on j o)
made-last calls j None = tt
made-last calls j (Some r) = tt

after_next-last : (d : Description) (calls : List Call) (j : JoystickState) (next : Next)
    → ((at ends : ℕ) → next ≡ ReaderAgain at ends → EndsIn calls (NothingVisible at ends))
    → TurnLastIsAgain calls (joying_after_next d j next)
after_next-last d calls j (Success taken) last =
    cond_both (is_report taken.event) _ _ (TurnLastIsAgain calls) (λ _. tt)
    (λ _. made-last calls j (joy_record_of d j.picture taken))
after_next-last d calls j next last = stop-last calls j j next last

turn-last : (d : Description) (j : JoystickState) (calls : List Call) (t : JoyTurn) → TurnCase d j calls t
    → TurnLastIsAgain calls t
turn-last d j calls t (of_startup r at none is) = rw (← is) tt
turn-last d j calls t (of_sync needed s) = synchronises-last d j calls t s
turn-last d j calls t (of_loss first second taken r plain whole h s) =
    rw whole (turn-behind first second t (synchronises-last d _ second t s))
turn-last d j calls t (of_next next r plain h is) =
    rw (← is) (after_next-last d calls _ next
    (λ at ends e. next-last d Normal j.reading r calls at ends (rw e at h)))

-- a read answers Again only where its reader did, whose last call was answered so
pub turns-last : (d : Description) (n count : ℕ) (j : JoystickState) (calls : List Call) (answer : JoyAnswer)
    → EndsWith (turns d n count j) calls (Some answer) → LastIsAgain calls answer.read
turns-last d n count j calls answer h =
    turns-all d (λ i cs a. LastIsAgain cs a.read)
    (λ i cs a e. turn-last d i cs (gives a) (turn-case d i cs (gives a) e))
    (λ i k cs e. tt)
    (λ i k cs more a e p. last-behind cs more a.read p) n count j calls answer h
