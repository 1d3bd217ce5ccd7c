-- What a call under the turn leaves of a pass, and what a caller is told through one.
use Rattle.std.specs.Prelude.{◌≡◌, ℕ, ◌+◌, ℤ, List, ◌∷◌, ◌++◌, length, Option, Some}
use Rattle.std.specs.List.{range_with_len}
use mathlib.Core.List.{IsPrefix}
use Rattle.inp_model.specs.declared.injected.Injected.{Injected}
use Rattle.inp_model.specs.declared.stamped.Stamped.{Stamped}
use Rattle.inp_model.specs.declared.step.Step.{Step}
use Rattle.inp_model.specs.declared.reply.Reply.{Reply}
use Rattle.inp_model.specs.declared.taken.Taken.{Taken}
use Rattle.inp_model.specs.Description.{Description}
use Rattle.inp_model.specs.Evdev.{EvdevView}
use Rattle.inp_turn.specs.declared.pass_view.PassView.{PassView}
use Rattle.inp_turn.specs.PassView.{added_places}
use Rattle.inp_port.specs.Entries.{steps_among, step_places, other_places}
use Rattle.inp_port.specs.Served.{IsServed, IsServedAll}

module _ {E : Type 0} (made : E → Option Step) where
  -- One turn was taken for the step, and it was answered from the entries that the value had then. The pass
  -- has seen these and the step where it was accepted, whose place is its own.
  pub record IsServedTurn (d : Description) (before : PassView Description E) (x : Step) (reply : Reply) (out new_out : List Taken) (cells new_cells : List ℤ) (after : PassView Description E) : Type 0 where
    -- what the value had when the turn was taken
    pub found : List E
    pub begins : IsPrefix before.seen found
    pub served : IsServed made d found x reply out new_out cells new_cells after.seen
    pub own : after.own ≡ before.own ++ added_places found after.seen
    pub turns : after.turns ≡ before.turns + 1
    pub share : after.share ≡ before.share
    pub base : after.base ≡ before.base

  -- One turn was taken for all events, also for none. The pass has seen what was found then and the entries
  -- of the events, whose places are its own.
  pub record IsServedAllTurn (d : Description) (before : PassView Description E) (events : List Stamped) (injected : Injected) (after : PassView Description E) : Type 0 where
    -- what the value had when the turn was taken
    pub found : List E
    pub begins : IsPrefix before.seen found
    pub served : IsServedAll made d found events injected after.seen
    pub own : after.own ≡ before.own ++ range_with_len (length found) injected.count
    pub turns : after.turns ≡ before.turns + 1
    pub share : after.share ≡ before.share
    pub base : after.base ≡ before.base

  -- what the caller of a shared device sees, by the view of its pass: the steps among the entries. The tie is
  -- the share, which shared value it is, and the places of the pass's own entries that are no steps. Which
  -- shared value it is stands after the count of the numbers that name it.
  abbrev pub told_of : Description → List ℕ → PassView Description E → ℕ → EvdevView
  told_of d name v agains = record {
    description = d;
    seen = steps_among made v.seen;
    own = step_places made v.seen v.own;
    agains = agains;
    turns = Some v.turns;
    tie = Some (v.share ∷ length name ∷ name ++ other_places made v.seen v.own);
  }
