-- Lists in blocks.
use Rattle.std.specs.Prelude.{◌≡◌, ◌≤◌, ◌%◌, ℕ, List, ◌++◌, length, flat_map, All}
use Rattle.std.specs.Global.{Vec}

-- the items of the full blocks, in order, and then those of the last one
abbrev pub items_in_blocks : {T : Type 0} → List (Vec T) → List T → List T
items_in_blocks full last = flat_map (λ block. block.items) full ++ last

-- each full block has 1,024 items, there are no more of them than can be counted, and the last one has room for 1,024
-- items, or for none
abbrev pub AreBlocks : {T : Type 0} → List (Vec T) → List T → ℕ → Type 0
AreBlocks full last room =
    All (λ block. length block.items ≡ 1024) full × (length full ≤ 281474976710656)
    × (length last ≤ 1024) × (room % 1024 ≡ 0) × (room ≤ 1024)
