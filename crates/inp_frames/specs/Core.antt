-- What the core keeps, and which histories it stands for. Inside a definition a history is a past, written
-- newest first.
use Rattle.std.specs.Prelude.{◌≡◌, ℕ, Bool, ◌&&◌, not, List, ◌∷◌, length}
use Rattle.inp_model.specs.declared.event.Event.{Event}
use Rattle.inp_model.specs.declared.step.Step.{Step}
use Rattle.inp_model.specs.declared.timer.Timer.{Timer}
use Rattle.inp_model.specs.RawItem.{RawItem}
use Rattle.inp_model.specs.Description.{Description}
use Rattle.inp_model.specs.Step.{moment_of}
use Rattle.inp_model.specs.Past.{is_inhibited}
use Rattle.inp_model.specs.Cut.{pending, at_frame}
use Rattle.inp_model.specs.Raw.{raw, timer}
use Rattle.inp_model.specs.Frame.{cuts_of_step}
use Rattle.inp_state.specs.State.{Values, StateStandsFor}
use Rattle.inp_slots.specs.Slots.{SlotValues, SlotsStandFor}
use Rattle.inp_frames.specs.Frames.{TakesAll}

pub record CoreValues : Type 0 where
  -- keys, switches and the like
  pub state : Values
  -- the multi-touch slots
  pub slots : SlotValues
  -- the events passed since the last cut
  pub batch : List Event
  -- how many events a frame may gather before it is cut
  pub hint : ℕ
  -- the timer of the autorepeat
  pub timer : Timer
  -- whether raw events are ignored
  pub inhibited : Bool
  -- whether the raw event that was handled last goes to the device itself
  pub goes : Bool

-- the raw event that came last goes to the device itself: to its lights, sounds and settings
abbrev pub sends : CoreValues → Bool
sends core = core.goes && not core.inhibited

-- it was made for a device with this description
pub record IsFor (d : Description) (core : CoreValues) : Type 0 where
  pub hint : core.hint ≡ d.hint
  pub slots : length core.slots.slots ≡ d.slots

-- on a device with this description its state, slots and batch are those after the items r, newest first
pub record StandsAfter (d : Description) (r : List RawItem) (core : CoreValues) : Type 0 where
  pub made : IsFor d core
  pub state : StateStandsFor d r core.state
  pub slots : SlotsStandFor d r core.slots
  pub at_frame : core.slots.at_frame ≡ at_frame d r
  pub batch : core.batch ≡ pending d r

-- on a device with this description it is what is kept after the steps of a past
pub record CoreStandsFor (d : Description) (past : List Step) (core : CoreValues) : Type 0 where
  pub raw_events : StandsAfter d (raw d past) core
  pub timer : core.timer ≡ timer d past
  pub inhibited : core.inhibited ≡ is_inhibited past

-- The core made the step x after a past: it stands for the past with x, and whoever takes frames took those
-- that x ended, in order and each once.
pub record IsEntered {T : Type 0} (d : Description) (past : List Step) (x : Step) (new : CoreValues) (takes : T → List Event → ℕ → T → Type 0) (to_old to_new : T) : Type 0 where
  pub stands_for : CoreStandsFor d (x ∷ past) new
  pub takes_all : TakesAll takes (moment_of x) (cuts_of_step d past x) to_old to_new
