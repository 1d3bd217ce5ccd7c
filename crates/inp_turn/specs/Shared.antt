-- What a contract sees of a shared value.
use Rattle.std.specs.Prelude.{◌≡◌, ℕ, List, ◌∷◌}
use Rattle.atomic_table.specs.Seated.{TableId}
use Rattle.inp_turn.specs.declared.kept.Kept.{Ghosts}
use Rattle.inp_turn.specs.declared.pass.Pass.{Pass}
use Rattle.inp_turn.specs.declared.shared.Shared.{Shared}

-- what tells one shared value from another, as numbers
abbrev pub numbers_of : TableId → List ℕ
numbers_of z = z.words ∷ z.slots ∷ z.views_name ∷ z.atom ∷ z.block ∷ z.offset ∷ z.slot_names

module _ {S B E : Type 0} where
  -- the value as it was when it came to be shared
  abbrev pub start_of : Shared S B E → S
  start_of s = s.table.shared.key.value

  -- which shared value it is
  abbrev pub shared_id : Shared S B E → List ℕ
  shared_id s = numbers_of s.table.shared.table_id

  -- the pass takes turns on this shared value
  abbrev pub IsPassOf : {K : Ghosts S B E} → Shared S B E → Pass S B E K → Type 0
  IsPassOf s p = p.seat.table_id ≡ s.table.shared.table_id
