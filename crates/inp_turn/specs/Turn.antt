-- The rule of the table: one word, which is how many passes have the turn, and one slot, where the value lies
-- while none has it.
use Rattle.std.specs.Prelude.{◌≡◌, ℕ, ◌+◌, ◌<◌, ◌≤◌, true, false, nat_eq, if◌then◌else◌, List, [], ◌∷◌, length, sum_by, count_by, Option, Some}
use mathlib.Core.List.{IsPrefix}
use mathlib.Core.Option.{some}
use lib.ListN.{get_elem?}
use Rattle.atomic_table.specs.Table.{State}
use Rattle.inp_turn.specs.declared.pass_view.PassView.{PassView}
use Rattle.inp_turn.specs.declared.seat_view.SeatView.{SeatView}
use Rattle.inp_turn.specs.PassView.{whole_share, added_places, first_pass_view, spent_view}

module _ {B E : Type 0} where
  -- a pass that has no turn and is in no join
  abbrev pub free_seat : PassView B E → SeatView B E
  free_seat v = record { pass = v; met = spent_view; has_turn = false }

  abbrev pub first_seat : B → List E → SeatView B E
  first_seat base entries = free_seat (first_pass_view base entries)

  -- 1 where the seat has the turn
  abbrev pub turn_count : SeatView B E → ℕ
  turn_count s = if s.has_turn then 1 else 0

  abbrev pub share_of : SeatView B E → ℕ
  share_of s = s.pass.share + s.met.share

  -- how often a place is a seat's own
  abbrev pub own_count : ℕ → SeatView B E → ℕ
  own_count place s = count_by (nat_eq place) s.pass.own + count_by (nat_eq place) s.met.own

  -- What every view keeps, where the value had the base and these entries first and has the entries `log`
  -- now: it has seen a beginning of them. While it has a share, it knows the base and has seen the first
  -- entries. Without one it owns nothing.
  pub record FitsLog (base : B) (first log : List E) (v : PassView B E) : Type 0 where
    pub seen : IsPrefix v.seen log
    pub base_is : 0 < v.share → v.base ≡ Some base
    pub first_seen : 0 < v.share → IsPrefix first v.seen
    pub spent : v.share ≡ 0 → v.own ≡ []

  -- the same of a seat; where it has the turn, it has seen all
  pub record SeatFits (base : B) (first log : List E) (s : SeatView B E) : Type 0 where
    pub pass : FitsLog base first log s.pass
    pub met : FitsLog base first log s.met
    pub all_seen : s.has_turn ≡ true → s.pass.seen ≡ log
    pub alive : s.has_turn ≡ true → 0 < s.pass.share

module _ {S B E : Type 0} (base : S → B) (entries : S → List E) where
  -- the value lies in the slot
  abbrev pub IsHome : B → List E → List (mathlib.Core.Option.Option (Option S)) → Type 0
  IsHome b log homes = (x : S) × (homes ≡ some (Some x) ∷ []) × (base x ≡ b) × (entries x ≡ log)

  pub record IsTurn (start : S) (s : State (Option S) (SeatView B E)) : Type 0 where
    -- the entries that the value has, or had when it was taken
    pub log : List E
    pub begins : IsPrefix (entries start) log
    pub word : s.words ≡ sum_by turn_count s.views ∷ []
    pub one_turn : sum_by turn_count s.views ≤ 1
    pub one_slot : length s.homes ≡ 1
    pub home : sum_by turn_count s.views ≡ 0 → IsHome (base start) log s.homes
    pub shares : sum_by share_of s.views ≡ whole_share
    -- each entry made since the start is own to one pass
    pub owned : (place : ℕ) → sum_by (own_count place) s.views ≡ count_by (nat_eq place) (added_places (entries start) log)
    pub each_seat : (j : ℕ) (v : SeatView B E) → get_elem? s.views j ≡ some v → SeatFits (base start) (entries start) log v
