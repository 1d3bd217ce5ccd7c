-- What a pass has seen and owns, and what each call leaves of it.
use Rattle.std.specs.Prelude.{◌≡◌, ℕ, ◌+◌, ◌-◌, ◌<◌, ◌≤◌, nat_lt, nat_eq, if◌then◌else◌, List, [], ◌++◌, length, count_by, All, Some, None}
use Rattle.std.specs.List.{range_with_len}
use Rattle.inp_turn.specs.declared.pass_view.PassView.{PassView}

-- the units of share that all passes have together
abbrev pub whole_share : ℕ
whole_share = 65536

-- the places of the entries that a longer list has more
abbrev pub added_places : {E : Type 0} → List E → List E → List ℕ
added_places before after = range_with_len (length before) (length after - length before)

-- the longer of two lists
abbrev pub longer : {E : Type 0} → List E → List E → List E
longer xs ys = if nat_lt (length xs) (length ys) then ys else xs

-- no place stands in both lists, and none twice in one
abbrev pub AreApart : List ℕ → List ℕ → Type 0
AreApart xs ys = (place : ℕ) → count_by (nat_eq place) xs + count_by (nat_eq place) ys ≤ 1

-- Each place from the end of `first` to the end of `seen` stands in the list once, and no other stands in it.
pub record IsEachAddedOnce {E : Type 0} (first seen : List E) (own : List ℕ) : Type 0 where
  pub once : (place : ℕ) → length first ≤ place → place < length seen → count_by (nat_eq place) own ≡ 1
  pub before : (place : ℕ) → place < length first → count_by (nat_eq place) own ≡ 0
  pub behind : (place : ℕ) → length seen ≤ place → count_by (nat_eq place) own ≡ 0

module _ {B E : Type 0} where
  -- the first pass has seen all, and made none of it
  abbrev pub first_pass_view : B → List E → PassView B E
  first_pass_view base entries = record { base = Some base; seen = entries; own = []; share = whole_share; turns = 0 }

  -- what a join leaves of the pass that it takes in
  abbrev pub spent_view : PassView B E
  spent_view = record { base = None; seen = []; own = []; share = 0; turns = 0 }

  -- a pass after another was split off it
  abbrev pub view_after_split : PassView B E → PassView B E
  view_after_split v = record v { share = v.share - 1 }

  -- the pass that was split off has seen the same, and made none of it
  abbrev pub split_off_view : PassView B E → PassView B E
  split_off_view v = record v { own = []; share = 1; turns = 0 }

  -- a pass that took the turn, and found these entries
  abbrev pub view_after_take : PassView B E → List E → PassView B E
  view_after_take v found = record v { seen = found; turns = v.turns + 1 }

  -- a pass that gave the value back with these entries: what was added is its own
  abbrev pub view_after_give : PassView B E → List E → PassView B E
  view_after_give v given = record v { seen = given; own = v.own ++ added_places v.seen given }

  -- a pass that took another one in
  abbrev pub view_after_join : PassView B E → PassView B E → PassView B E
  view_after_join v w = record { base = v.base; seen = longer v.seen w.seen; own = v.own ++ w.own; share = v.share + w.share; turns = v.turns + w.turns }

  -- a pass owns places of entries that it has seen
  abbrev pub OwnsSeen : PassView B E → Type 0
  OwnsSeen v = All (λ place. place < length v.seen) v.own
