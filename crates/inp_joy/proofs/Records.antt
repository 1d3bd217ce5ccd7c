-- The records that a joystick client hands out: their bytes tell them.
use Rattle.std.proofs.Common.{◌≡◌, ℕ, zero, suc, ◌<◌, ◌+◌, ◌%◌, ◌/◌, ◌^◌, ℤ, pos, negsuc, Bool, true, false}
use Rattle.std.proofs.Common.{if◌then◌else◌, nat_lt, nat_eq, int_eq, List, [], ◌∷◌, ◌++◌, map, Some, None}
use Rattle.std.proofs.Common.{arith}
use Rattle.std.specs.Prelude.{Option, slice_get}
use Rattle.std.specs.Int.{w16, cast_unsigned, cast_signed}
use Rattle.std.specs.Int.RustNames.{FitsSigned}
use Rattle.std.proofs.lemmas.Bool.Decides.{nat_tests}
use Rattle.std.proofs.lemmas.Int.{to_z-of_z}
use Rattle.std.proofs.lemmas.Nat.{from_le_bytes-to_le_bytes_2, from_le_bytes-to_le_bytes_4}
use Rattle.std.proofs.lemmas.Bool.{cond_both}
use Rattle.inp_model.specs.declared.taken.Taken.{Taken}
use Rattle.inp_model.specs.declared.event.TheConstants.{EV_KEY, EV_ABS}
use Rattle.inp_model.specs.Description.{Description}
use Rattle.inp_model.specs.Event.{is_repeat, is_report, is_set}
use Rattle.inp_model.specs.Run.{Call}
use Rattle.inp_recon.specs.declared.view.View.{View}
use Rattle.inp_reader.specs.declared.next.Next.{Next}
use Rattle.inp_reader.specs.declared.next.Next.TheVariants.{Success}
use Rattle.inp_reader.specs.Synthesis.{bit_value}
use Rattle.inp_reader.specs.Talk.{EndsWith}
use Rattle.inp_joy.specs.declared.joy_read.JoyRead.{JoyRead}
use Rattle.inp_joy.specs.declared.joy_read.JoyRead.TheVariants.{Record}
use Rattle.inp_joy.specs.declared.joy_record.JoyRecord.{JoyRecord}
use Rattle.inp_joy.specs.JoyRecord.{bytes_of_record, record_in, within_16_bits, startup_button, startup_axis}
use Rattle.inp_joy.specs.Codes.{buttons, axes, number_among}
use Rattle.inp_joy.specs.Joy.{JoystickState, JoyAnswer, JoyTurn, gives, goes_on, hand_out_record}
use Rattle.inp_joy.specs.Joy.{next_in_startup}
use Rattle.inp_joy.specs.Joy.{map_numbered, startup, last_value, record_of_key, record_of_axis, joy_record_of}
use Rattle.inp_joy.specs.Joy.{record_or_on, joy_read_of, stop_or_on, joying_after_next, joying_after_sync}
use Rattle.inp_joy.specs.Joy.{turns, with_reading, with_startup}
use Rattle.inp_joy.specs.Picture.{PictureView, is_down_in, value_in}
use Rattle.inp_joy.proofs.TurnCases.{Synchronises, TurnCase, of_startup, of_sync, of_loss, of_next, turn-case}
use Rattle.inp_joy.proofs.TurnCases.{turns-all}

-- A record fits its bytes: its time has 32 bits, and its value 16 with a sign. Its type and number are bytes
-- as they are.
pub record FitsBytes (r : JoyRecord) : Type 0 where
  -- the time fits in 32 bits
  pub time : r.time < 2 ^ 32
  -- the value fits in 16 bits with a sign
  pub value : FitsSigned w16 r.value

unsigned-below : (value : ℤ) → FitsSigned w16 value → cast_unsigned w16 value < 2 ^ 16
unsigned-below (pos n) h = omega (arith, h.sfits)
unsigned-below (negsuc n) h = omega arith

-- its bytes are read as the record
pub record-back : (r : JoyRecord) → FitsBytes r → record_in (bytes_of_record r) ≡ r
record-back r h =
    let value_back : cast_signed w16 _ ≡ r.value =
    rw (from_le_bytes-to_le_bytes_2 (cast_unsigned w16 r.value) (unsigned-below r.value h.value))
    (to_z-of_z w16 r.value h.value) in
    λ i. record {
      time = from_le_bytes-to_le_bytes_4 r.time h.time i;
      value = value_back i;
      kind = r.kind;
      number = r.number;
    }

-- Each record that a client makes

within_16_bits-fits : (value : ℤ) → FitsSigned w16 (within_16_bits value)
within_16_bits-fits (pos n) =
    cond_both (nat_lt 32767 n) _ _ (FitsSigned w16)
    (λ is. record { sfits = omega arith }) (λ is. let most : n < 32768 =
    grind (arith, nat_tests, is) in record { sfits = omega (arith, most) })
within_16_bits-fits (negsuc n) =
    cond_both (nat_lt 32766 n) _ _ (FitsSigned w16)
    (λ is. record { sfits = omega arith }) (λ is. let most : n < 32767 =
    grind (arith, nat_tests, is) in record { sfits = omega (arith, most) })

bit-fits : (b : Bool) → FitsSigned w16 (bit_value b)
bit-fits true = record { sfits = omega arith }
bit-fits false = record { sfits = omega arith }

-- each of these records fits
abbrev pub AllFit : List JoyRecord → Type 0
AllFit records = (k : ℕ) (r : JoyRecord) → slice_get records k ≡ Some r → FitsBytes r

fit-append : (xs ys : List JoyRecord) → AllFit xs → AllFit ys → AllFit (xs ++ ys)
fit-append [] ys h l k r is = l k r is
fit-append (x ∷ xs) ys h l zero r is = h zero r is
fit-append (x ∷ xs) ys h l (suc k) r is = fit-append xs ys (λ m s e. h (suc m) s e) l k r is

numbered-fit : {X : Type 0} (made : ℕ → X → JoyRecord) (f : ℕ → X)
    → ((n code : ℕ) → FitsBytes (made n (f code))) → (n : ℕ) (codes : List ℕ)
    → AllFit (map_numbered made n (map f codes))
numbered-fit made f fits n [] k r is = absurd cc
numbered-fit made f fits n (code ∷ codes) zero r is =
    let same : made n (f code) ≡ r = cc in rw same at (fits n code)
numbered-fit made f fits n (code ∷ codes) (suc k) r is = numbered-fit made f fits (n + 1) codes k r is

-- its times are 0, its values bits of buttons or cut values of axes
pub startup-fits : (d : Description) (v : View) → AllFit (startup d v)
unfolding startup
startup-fits d v =
    fit-append (map_numbered startup_button 0 (map (is_down_in v) (buttons d)))
    (map_numbered startup_axis 0 (map (λ code. within_16_bits (value_in v code)) (axes d)))
    (numbered-fit startup_button (is_down_in v)
    (λ n code. record { time = omega arith; value = bit-fits (is_down_in v code) }) 0 (buttons d))
    (numbered-fit startup_axis (λ code. within_16_bits (value_in v code))
    (λ n code. record { time = omega arith; value = within_16_bits-fits (value_in v code) }) 0 (axes d))

abbrev pub FitsIf : Option JoyRecord → Type 0
FitsIf None = Unit {0}
FitsIf (Some r) = FitsBytes r

milliseconds-below : (time : ℕ) → time / 1000 % 2 ^ 32 < 2 ^ 32
milliseconds-below time = omega arith

key-fits : (number : Option ℕ) (taken : Taken) → FitsIf (record_of_key number taken)
key-fits None taken = tt
key-fits (Some number) taken =
    cond_both (is_repeat taken.event) _ _ FitsIf
    (λ _. tt) (λ _. record { time = milliseconds-below taken.time; value = bit-fits (is_set taken.event) })

axis-fits : (p : PictureView) (number : Option ℕ) (taken : Taken) → FitsIf (record_of_axis p number taken)
axis-fits p None taken = tt
axis-fits p (Some number) taken =
    cond_both (int_eq (within_16_bits taken.event.value) (last_value p number)) _ _ FitsIf
    (λ _. tt) (λ _. record {
      time = milliseconds-below taken.time;
      value = within_16_bits-fits taken.event.value;
    })

-- its time is taken modulo 2^32, its value is a bit or cut to 16 bits
pub event-fits : (d : Description) (p : PictureView) (taken : Taken) → FitsIf (joy_record_of d p taken)
event-fits d p taken =
    let axis : Option JoyRecord = record_of_axis p (number_among taken.event.code (axes d)) taken in
    cond_both (nat_eq taken.event.kind EV_KEY) _
    (if nat_eq taken.event.kind EV_ABS then axis else None) FitsIf
    (λ _. key-fits (number_among taken.event.code (buttons d)) taken)
    (λ _. cond_both (nat_eq taken.event.kind EV_ABS) axis None FitsIf
    (λ _. axis-fits p (number_among taken.event.code (axes d)) taken) (λ _. tt))

-- Answers

-- an answer hands out a record where it says so and else none, and its record fits its bytes
abbrev pub HandsOutAsSaid : JoyRead → Option JoyRecord → Type 0
HandsOutAsSaid Record None = ⊥
HandsOutAsSaid Record (Some r) = FitsBytes r
HandsOutAsSaid _ None = Unit {0}
HandsOutAsSaid _ (Some r) = ⊥

abbrev pub IsAnswerAsSaid : JoyAnswer → Type 0
IsAnswerAsSaid answer = HandsOutAsSaid answer.read answer.record_out

abbrev pub IsTurnAsSaid : JoyTurn → Type 0
IsTurnAsSaid (gives answer) = IsAnswerAsSaid answer
IsTurnAsSaid (goes_on j) = Unit {0}

turn-same : (t u : JoyTurn) → t ≡ u → IsTurnAsSaid t → IsTurnAsSaid u
turn-same t u e h = rw e at h

-- the answers of a reader that end a read hand out no record
stop-said : (j here : JoystickState) (next : Next) → IsTurnAsSaid (stop_or_on j here (joy_read_of next))
stop-said j here (Success taken) = tt
stop-said j here _ = tt

sync_turn-said : (d : Description) (j : JoystickState) (calls : List Call) (t : JoyTurn)
    → Synchronises d j calls t → IsTurnAsSaid t
sync_turn-said d j calls t s =
    turn-same (joying_after_sync j (s.next, s.reading)) t s.comes_to
    (stop-said (with_reading j s.reading) (with_startup s.reading) s.next)

made-said : (j : JoystickState) (o : Option JoyRecord) → FitsIf o → IsTurnAsSaid (record_or_on j o)
made-said j None h = tt
made-said j (Some r) h = h

next-said : (d : Description) (j : JoystickState) (next : Next) → IsTurnAsSaid (joying_after_next d j next)
next-said d j (Success taken) =
    cond_both (is_report taken.event) _ _ IsTurnAsSaid (λ _. tt)
    (λ _. made-said j (joy_record_of d j.picture taken) (event-fits d j.picture taken))
next-said d j next = stop-said j j next

turn-said : (d : Description) (j : JoystickState) (calls : List Call) (t : JoyTurn) → TurnCase d j calls t
    → IsTurnAsSaid t
turn-said d j calls t (of_startup r at none is) =
    turn-same (gives (hand_out_record (next_in_startup j) r)) t is
    (startup-fits d j.reading.view j.handed r at)
turn-said d j calls t (of_sync needed s) = sync_turn-said d j calls t s
turn-said d j calls t (of_loss first second taken r plain whole h s) =
    sync_turn-said d (with_reading j r) second t s
turn-said d j calls t (of_next next r plain h is) =
    turn-same (joying_after_next d (with_reading j r) next) t is (next-said d (with_reading j r) next)

-- each answer of a read
pub turns-said : (d : Description) (n count : ℕ) (j : JoystickState) (calls : List Call) (answer : JoyAnswer)
    → EndsWith (turns d n count j) calls (Some answer) → IsAnswerAsSaid answer
turns-said d n count j calls answer h =
    turns-all d (λ i cs a. IsAnswerAsSaid a)
    (λ i cs a e. turn-said d i cs (gives a) (turn-case d i cs (gives a) e))
    (λ i k cs e. tt)
    (λ i k cs more a e p. p) n count j calls answer h
