-- What each step on the table tells.
use Rattle.std.specs.Prelude.{◌≡◌, ◌≢◌, ℕ, true, false, List, [], ◌∷◌, Option, Some}
use mathlib.Core.List.{IsPrefix}
use mathlib.Core.Option.{some}
use lib.ListN.{get_elem?}
use Rattle.atomic_table.specs.Table.{Me, Step, Final, Seen}
use Rattle.inp_turn.specs.declared.seat_view.SeatView.{SeatView}
use Rattle.inp_turn.specs.PassView.{spent_view, split_off_view, view_after_split, view_after_take, view_after_give, view_after_join, AreApart}
use Rattle.inp_turn.specs.Turn.{free_seat, IsTurn}

-- a seat with the slots that it holds
abbrev pub Sitting : Type 0 → Type 0 → Type 0 → Type 0
Sitting S B E = Me (Option S) (SeatView B E)

module _ {B E : Type 0} where
  -- a split
  abbrev pub seat_after_split : SeatView B E → SeatView B E
  seat_after_split s = record s { pass = view_after_split s.pass }

  abbrev pub split_off_seat : SeatView B E → SeatView B E
  split_off_seat s = free_seat (split_off_view s.pass)

  -- the first load of a join puts the other pass beside the seat's own
  abbrev pub seat_after_meeting : SeatView B E → SeatView B E → SeatView B E
  seat_after_meeting s other = record s { met = other.pass }

  abbrev pub spent_seat : SeatView B E
  spent_seat = free_seat spent_view

  -- the second one makes one pass of both
  abbrev pub seat_after_join : SeatView B E → SeatView B E
  seat_after_join s = record s { pass = view_after_join s.pass s.met; met = spent_view }

  -- the value was taken with these entries
  abbrev pub seat_after_take : SeatView B E → List E → SeatView B E
  seat_after_take s found = record s { pass = view_after_take s.pass found; has_turn = true }

  -- the value was given back with these entries
  abbrev pub seat_after_give : SeatView B E → List E → SeatView B E
  seat_after_give s given = record s { pass = view_after_give s.pass given; has_turn = false }

module _ {S B E : Type 0} (base : S → B) (entries : S → List E) where
  -- the value came out
  pub record ComesOut (x : S) (before after : Sitting S B E) : Type 0 where
    pub base_is : before.0.pass.base ≡ Some (base x)
    pub begins : IsPrefix before.0.pass.seen (entries x)
    pub seat : after.0 ≡ seat_after_take before.0 (entries x)
    pub slots : after.1 ≡ (0, Some x) ∷ before.1

  -- a try for the turn: where the word was 0 the value came out, and else nothing changed
  abbrev pub Tries : Step (Option S) → Sitting S B E → ℕ → Sitting S B E → Type 0
  Tries step before found after = (found ≡ 0 → (x : S) × ComesOut x before after) × (found ≢ 0 → after ≡ before)

  -- the end: where the seat had the number and the view, x lies in the slot
  pub record ClosesWith (start : S) (id : ℕ) (v : SeatView B E) (x : Option S) : Type 0 where
    pub words : List ℕ
    pub slots : List (Option S)
    pub final : Final (Seen (IsTurn base entries start) id v) words slots
    pub slot : get_elem? slots 0 ≡ some x

module _ {S B E : Type 0} (entries : S → List E) where
  -- the release: the value x, which the seat held, is given back
  abbrev pub Releases : Step (Option S) → Sitting S B E → ℕ → Sitting S B E → Type 0
  Releases step before found after = (x : S) → before.1 ≡ (0, Some x) ∷ [] → (after.0 ≡ seat_after_give before.0 (entries x)) × (after.1 ≡ [])

module _ {S B E : Type 0} where
  -- the end of a join
  pub record Unites (before after : Sitting S B E) : Type 0 where
    pub base_is : before.0.met.base ≡ before.0.pass.base
    pub seat : after.0 ≡ seat_after_join before.0
    pub slots : after.1 ≡ before.1
    pub seen : IsPrefix before.0.pass.seen after.0.pass.seen
    pub met_seen : IsPrefix before.0.met.seen after.0.pass.seen
    pub apart : AreApart before.0.pass.own before.0.met.own
