-- How much of a move of an axis counts (docs/RULES.md, "What is passed").
use Rattle.std.specs.Prelude.{ℤ, pos, ◌+ℤ◌, ◌-ℤ◌, ◌*ℤ◌, int_lt, int_div, Bool, ◌&&◌, if◌then◌else◌}
use Rattle.std.specs.Ordering.{int_eq}

-- the value lies within this distance of the old one, the ends left out
abbrev pub is_within : ℤ → ℤ → ℤ → Bool
is_within distance old value = int_lt (old -ℤ distance) value && int_lt value (old +ℤ distance)

-- The value that an axis takes in place of `value`. Within half the fuzz it stays, within the fuzz it goes a
-- quarter of the way, within twice the fuzz half of the way, and else the whole way. Division truncates
-- toward zero.
abbrev pub defuzz : ℤ → ℤ → ℤ → ℤ
defuzz value old fuzz =
    if int_eq fuzz (pos 0) then value
    else if is_within (int_div fuzz (pos 2)) old value then old
    else if is_within fuzz old value then int_div (pos 3 *ℤ old +ℤ value) (pos 4)
    else if is_within (pos 2 *ℤ fuzz) old value then int_div (old +ℤ value) (pos 2)
    else value
