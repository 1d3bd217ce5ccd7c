-- A pass's seat at a give: with the value in hand, and after it.
use Rattle.std.proofs.Common.{◌≡◌, ℕ, ◌<◌, Bool, true, List, [], ◌∷◌, if◌then◌else◌, sym, ◌∙◌, Option, Some}
use Rattle.std.proofs.Common.{None}
use mathlib.Core.List.{IsPrefix}
use Rattle.atomic_table.specs.Table.{rest}
use Rattle.inp_turn.specs.declared.seat_view.SeatView.{SeatView}
use Rattle.inp_turn.specs.PassView.{spent_view, OwnsSeen}
use Rattle.inp_turn.specs.Steps.{Sitting, seat_after_give}
use Rattle.inp_turn.proofs.Places.{owns-give}

-- the slots of a seat between two calls
abbrev slots_of : {S : Type 0} → Bool → List (ℕ × Option S)
slots_of has_turn = if has_turn then (0, None) ∷ [] else []

module _ {S B E : Type 0} where
  -- the value is back in the slot, which the seat still holds
  pub in_hand : (before after : Sitting S B E) (x : S) → before.1 ≡ slots_of before.0.has_turn
      → before.0.has_turn ≡ true → after ≡ (before.0, (0, Some x) ∷ rest before.1)
      → after.1 ≡ (0, Some x) ∷ []
  in_hand before after x slots turn is = rw (is, slots, turn)

  -- what a pass keeps of its seat
  pub record IsKept (me : Sitting S B E) : Type 0 where
    pub in_no_join : me.0.met ≡ spent_view
    pub has_share : 0 < me.0.pass.share
    pub owns_seen : OwnsSeen me.0.pass
    pub holds_slot : me.1 ≡ slots_of me.0.has_turn

  pub kept-give : (v : SeatView B E) (given : List E) (after : Sitting S B E)
      → after.0 ≡ seat_after_give v given → after.1 ≡ [] → v.met ≡ spent_view → 0 < v.pass.share
      → OwnsSeen v.pass → IsPrefix v.pass.seen given → IsKept after
  kept-give v given after is empty clear alive owns more = record {
    in_no_join = rw is clear;
    has_share = rw is alive;
    owns_seen = rw is (owns-give v.pass given owns more);
    holds_slot = empty ∙ sym (rw is);
  }
