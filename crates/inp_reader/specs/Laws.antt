-- The laws of the synthesised events (docs/READER.md, "What a reader makes of a loss").
use Rattle.std.specs.Prelude.{ℕ, ◌+◌, ◌*◌, ◌≡◌, ◌≤◌, false, List, [], ◌∷◌, length}
use Rattle.inp_model.specs.declared.multi_touch.TheConstants.{ABS_MT_SLOT, ABS_MT_TOOL_Y}
use Rattle.inp_model.specs.declared.event.Event.{Event}
use Rattle.inp_model.specs.Event.{is_report}
use Rattle.inp_recon.specs.declared.view.View.{View}
use Rattle.inp_recon.specs.View.{IsSizedFor, view_after_event, view_after_events}
use Rattle.inp_reader.specs.Synthesis.{value_at, synth}

-- Two views of one device with so many slots. Whatever else they hold, they agree on the axes whose values belong to
-- slots, which nothing sets.
pub record AreOfOneDevice (slots : ℕ) (old new : View) : Type 0 where
  pub old_sized : IsSizedFor slots old
  pub new_sized : IsSizedFor slots new
  pub axes : (code : ℕ) → ABS_MT_SLOT ≤ code → code ≤ ABS_MT_TOOL_Y → value_at old.axes code ≡ value_at new.axes code

-- each event but a report changes the view that it is taken into
abbrev pub EachChanges : View → List Event → Type 0
EachChanges view [] = Unit {0}
EachChanges view (e ∷ es) =
    (is_report e ≡ false → view_after_event view e ≡ view → ⊥) × EachChanges (view_after_event view e) es

-- the old view, once it took the synthesised events, is the new one
abbrev pub LeadsToTheNewView : Type 0
LeadsToTheNewView =
    (slots : ℕ) (old new : View) → AreOfOneDevice slots old new → view_after_events old (synth old new) ≡ new

-- each synthesised event but a report changes the view that takes them in order
abbrev pub HasNoIdleEvent : Type 0
HasNoIdleEvent =
    (slots : ℕ) (old new : View) → AreOfOneDevice slots old new → EachChanges old (synth old new)

-- how many synthesised events there are at most
abbrev pub HasFewEvents : Type 0
HasFewEvents =
    (slots : ℕ) (old new : View) → AreOfOneDevice slots old new → length (synth old new) ≤ 948 + 17 * slots
