-- How the parts of a joystick client are kept.
use Rattle.std.specs.Prelude.{◌≡◌, ◌≤◌, ◌<◌, ℕ, Bool, true, List, [], ◌++◌, length, reverse, Some}
use Rattle.inp_model.specs.declared.taken.Taken.{Taken}
use Rattle.inp_model.specs.Description.{Description}
use Rattle.inp_model.specs.Evdev.{EvdevView}
use Rattle.inp_reader.specs.declared.call_made.CallMade.{CallMade}
use Rattle.inp_reader.specs.KeptViews.{IsKeptView}
use Rattle.inp_reader.specs.LeftEvdev.{LeavesMade}
use Rattle.inp_reader.specs.Reader.{ReaderState, ReaderView}
use Rattle.inp_reader.specs.FollowsTalk.{FollowsTalk}
use Rattle.inp_reader.specs.TrueView.{ShowsTheDevice}
use Rattle.inp_reader.specs.ReaderPlace.{StandsAt, IsAlone}
use Rattle.inp_joy.specs.declared.joy.Joy.TheInside.{Inside}
use Rattle.inp_joy.specs.declared.joy_read.JoyRead.TheVariants.{Record, Frame, More}
use Rattle.inp_joy.specs.declared.joy_state.JoyState.{JoyState}
use Rattle.inp_joy.specs.declared.turn_end.TurnEnd.{TurnEnd}
use Rattle.inp_joy.specs.declared.turn_end.TurnEnd.TheVariants.{Hands, Stops, GoesOn}
use Rattle.inp_joy.specs.Codes.{buttons, axes, startup_len}
use Rattle.inp_joy.specs.Joy.{JoystickState, JoyView, JoyAnswer, JoyTurn, gives, goes_on, stop_with, is_long, turns}
use Rattle.inp_joy.specs.Picture.{seen_as}
use Rattle.inp_joy.specs.Reads.{IsPictured, PicturesTheDevice, IsReadLess, agains_after_read}

abbrev pub kept_joying : JoyState → JoystickState
kept_joying s = record { reading = s.reader.reading; handed = s.handed; picture = seen_as s.picture }

-- what a joystick client keeps for devices of a description
pub record IsJoyState (d : Description) (s : JoyState) : Type 0 where
  pub description : s.reader.description ≡ d
  pub buttons : s.buttons ≡ buttons d
  pub axes : s.axes ≡ axes d
  pub handed : s.handed ≤ startup_len d
  pub view : IsKeptView d s.reader.reading.view

abbrev pub joy_view : Inside → JoyView
joy_view j = record { description = j.state.reader.description; joying = kept_joying j.state; made = j.state.made }

-- it fits its reader's description, keeps few calls, and its picture is that of its reader's view
pub record IsJoy (j : Inside) : Type 0 where
  pub state : IsJoyState j.state.reader.description j.state
  pub few : length j.state.made ≤ 128
  pub pictured : IsPictured j.state.reader.description (kept_joying j.state)

-- the answer that a turn comes to; where it goes on, the read is over for now
abbrev pub answer_of_turn : TurnEnd → JoystickState → JoyAnswer
answer_of_turn (Hands r) j = record { read = Record; record_out = Some r; joying = j }
answer_of_turn (Stops read) j = stop_with read j
answer_of_turn GoesOn j = stop_with More j

abbrev pub turn_of_end : TurnEnd → JoystickState → JoyTurn
turn_of_end (Hands r) j = gives (answer_of_turn (Hands r) j)
turn_of_end (Stops read) j = gives (answer_of_turn (Stops read) j)
turn_of_end GoesOn j = goes_on j

-- no other turn follows
abbrev pub is_end : Description → TurnEnd → JoystickState → ℕ → Bool
is_end d GoesOn j n = is_long d j n
is_end d _ j n = true

-- a turn that goes on leaves less to do, and one that stops leaves what its read does
abbrev pub IsTurnEndLess : TurnEnd → ℕ → ℕ → Type 0
IsTurnEndLess (Hands r) after before = Unit {0}
IsTurnEndLess (Stops read) after before = IsReadLess read after before
IsTurnEndLess GoesOn after before = after < before

-- the count of answers Again after a turn
abbrev pub agains_after_turn : TurnEnd → ℕ → ℕ
agains_after_turn (Stops read) n = agains_after_read read n
agains_after_turn _ n = n

-- What a reader did: the calls that it made, what they leave, and that it stands afterwards, and shows this,
-- where it stood before and nobody else used its client.
pub record ReaderCalls (before after : EvdevView) (old new : List CallMade) (d : Description) (r s : ReaderState) (Shown : Type 0) : Type 0 where
  pub more : List CallMade
  pub kept : new ≡ old ++ more
  pub left : LeavesMade before after more
  pub client : s.client ≡ r.client
  pub stands : StandsAt d (reverse before.seen) r → IsAlone before after s.client more → StandsAt d (reverse after.seen) s
  pub shows : StandsAt d (reverse before.seen) r → IsAlone before after s.client more → Shown

-- what a turn shows where a frame ended
abbrev pub TurnEndPictures : EvdevView → Description → JoystickState → TurnEnd → Type 0
TurnEndPictures told d j (Stops (Frame place)) = PicturesTheDevice d (reverse told.seen) j place
TurnEndPictures told d j _ = Unit {0}

-- what the reader shows there
abbrev pub TurnEndShows : EvdevView → ReaderView → TurnEnd → Type 0
TurnEndShows told r (Stops (Frame place)) = (taken : Taken) × (taken.place ≡ place) × ShowsTheDevice r.description (reverse told.seen) r.reading taken
TurnEndShows told r _ = Unit {0}

-- the calls that were made are those of some number of turns, and this is their answer
pub record HasTurned (before after : EvdevView) (d : Description) (old : JoystickState) (made : List CallMade) (answer : JoyAnswer) : Type 0 where
  pub count : ℕ
  pub says : FollowsTalk before after [] made (turns d count 0 old) (Some answer)

-- the reader stands at the end of the history that is seen
abbrev pub StateStands : EvdevView → JoyState → Type 0
StateStands told s = StandsAt s.reader.description (reverse told.seen) s.reader.reading
