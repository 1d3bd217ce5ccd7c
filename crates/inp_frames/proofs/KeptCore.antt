-- For whoever keeps a core beside the clients of a device: a step that asks the core for nothing ends no
-- frame, and the core stands for the past with it as it is.
use Rattle.std.proofs.Common.{◌≡◌, Bool, true, false, ℕ, List, ◌∷◌, refl, sym, ◌∙◌}
use Rattle.inp_model.specs.declared.axis_info.AxisInfo.{AxisInfo}
use Rattle.inp_model.specs.declared.step.Step.{Step}
use Rattle.inp_model.specs.declared.step.Step.TheVariants.{Inject, Tick, Write, Inhibit, Uninhibit, SetAxis}
use Rattle.inp_model.specs.RawItem.{RawItem, Described}
use Rattle.inp_model.specs.Description.{Description}
use Rattle.inp_model.specs.Past.{is_inhibited}
use Rattle.inp_model.specs.Cut.{cuts, pending, at_frame}
use Rattle.inp_model.specs.Timer.{repeats_keys}
use Rattle.inp_model.specs.Raw.{raw, timer, raw_and_timer}
use Rattle.inp_state.specs.State.{Values, StateStandsFor}
use Rattle.inp_slots.proofs.Others.{SlotsStandFor-described}
use Rattle.inp_frames.specs.Core.{CoreValues, StandsAfter, CoreStandsFor}
use Rattle.inp_frames.proofs.HandledEvents.{either}

-- a step that stands for no raw events and for no description, and leaves the timer and the inhibition
abbrev pub makes_no_events : Step → Bool
makes_no_events (Inject e now) = false
makes_no_events (Write client e now) = false
makes_no_events (Tick now) = false
makes_no_events (Inhibit now) = false
makes_no_events Uninhibit = false
makes_no_events (SetAxis client code i) = false
makes_no_events _ = true

pub CoreStandsFor-keeps : (d : Description) (past : List Step) (x : Step) (core : CoreValues)
    → makes_no_events x ≡ true → CoreStandsFor d past core → CoreStandsFor d (x ∷ past) core
unfolding raw timer raw_and_timer cuts is_inhibited
CoreStandsFor-keeps d past (Inject e now) core h k = absurd (cc h)
CoreStandsFor-keeps d past (Write client e now) core h k = absurd (cc h)
CoreStandsFor-keeps d past (Tick now) core h k = absurd (cc h)
CoreStandsFor-keeps d past (Inhibit now) core h k = absurd (cc h)
CoreStandsFor-keeps d past Uninhibit core h k = absurd (cc h)
CoreStandsFor-keeps d past (SetAxis client code i) core h k = absurd (cc h)
CoreStandsFor-keeps d past _ core h k = record {
  raw_events = k.raw_events;
  timer = k.timer ∙ sym (either (repeats_keys d) (raw_and_timer d past).timer);
  inhibited = k.inhibited;
}

pub CoreStandsFor-uninhibit : (d : Description) (past : List Step) (core : CoreValues)
    → CoreStandsFor d past core → CoreStandsFor d (Uninhibit ∷ past) (record core { inhibited = false })
unfolding raw timer raw_and_timer cuts is_inhibited
CoreStandsFor-uninhibit d past core k = record {
  raw_events =
      record {
        made = record { hint = k.raw_events.made.hint; slots = k.raw_events.made.slots };
        state = k.raw_events.state;
        slots = k.raw_events.slots;
        at_frame = k.raw_events.at_frame;
        batch = k.raw_events.batch;
      };
  timer = k.timer ∙ sym (either (repeats_keys d) (raw_and_timer d past).timer);
  inhibited = refl;
}

-- what waits, the slots and the slot of the last frame stay, and the state is as it is described
StandsAfter-described : (d : Description) (r : List RawItem) (core : CoreValues) (code : ℕ) (i : AxisInfo)
    (state : Values) → StateStandsFor d (Described code i ∷ r) state → StandsAfter d r core
    → StandsAfter d (Described code i ∷ r) (record core { state = state })
unfolding pending at_frame
StandsAfter-described d r core code i state new h =
    assumption (new, SlotsStandFor-described d r core.slots code i h.slots, h)

raw-described : (d : Description) (past : List Step) (client code : ℕ) (i : AxisInfo)
    → raw d (SetAxis client code i ∷ past) ≡ Described code i ∷ raw d past
unfolding raw raw_and_timer
raw-described d past client code i = refl

timer-described : (d : Description) (past : List Step) (client code : ℕ) (i : AxisInfo)
    → timer d (SetAxis client code i ∷ past) ≡ timer d past
unfolding timer raw_and_timer cuts
timer-described d past client code i = either (repeats_keys d) (raw_and_timer d past).timer

pub CoreStandsFor-described : (d : Description) (past : List Step) (client code : ℕ) (i : AxisInfo)
    (core : CoreValues) (state : Values)
    → ((r : List RawItem) → StateStandsFor d r core.state → StateStandsFor d (Described code i ∷ r) state)
    → CoreStandsFor d past core
    → CoreStandsFor d (SetAxis client code i ∷ past) (record core { state = state })
unfolding is_inhibited
CoreStandsFor-described d past client code i core state moves k = record {
  raw_events = rw raw-described
      (StandsAfter-described d (raw d past) core code i state
      (moves (raw d past) k.raw_events.state) k.raw_events);
  timer = k.timer ∙ sym (timer-described d past client code i);
  inhibited = k.inhibited;
}
