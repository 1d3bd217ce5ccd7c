-- Numbers as words (docs/FORMATS.md, "Words").
use Rattle.std.specs.Prelude.{ℕ, ◌+◌, ◌-◌, ◌*◌, ◌^◌, ℤ, pos, neg_ℤ, Bool, false, ◌&&◌, if◌then◌else◌, nat_eq, nat_le, nat_lt, List, [], ◌∷◌, drop, fold, Option, Some, None, option_map, codes}
use Rattle.std.specs.List.{list_all, starts_with}

-- what a digit is worth: 0 to 9, a to f or A to F; any other byte is worth 16
abbrev pub digit_of : ℕ → ℕ
digit_of b =
    if nat_le 48 b && nat_le b 57 then b - 48
    else if nat_le 97 b && nat_le b 102 then b - 87
    else if nat_le 65 b && nat_le b 70 then b - 55
    else 16

abbrev pub is_digit : ℕ → ℕ → Bool
is_digit base b = nat_lt (digit_of b) base

-- the value of digits in a base
abbrev pub value_of : ℕ → List ℕ → ℕ
value_of base digits = fold (λ value b. base * value + digit_of b) 0 digits

-- one digit or more
abbrev pub is_numeral : ℕ → List ℕ → Bool
is_numeral base [] = false
is_numeral base (b ∷ digits) = list_all (is_digit base) (b ∷ digits)

-- the value of digits in a base, if it is at most so much
unfoldable pub numeral : ℕ → ℕ → List ℕ → Option ℕ
numeral base most digits =
    if is_numeral base digits && nat_le (value_of base digits) most then Some (value_of base digits) else None

-- the word begins with 0x
abbrev pub is_hexadecimal : List ℕ → Bool
is_hexadecimal word = starts_with nat_eq word (codes "0x")

-- a number of at most so much: decimal digits, or 0x and hexadecimal digits
unfoldable pub number : ℕ → List ℕ → Option ℕ
number most word = if is_hexadecimal word then numeral 16 most (drop 2 word) else numeral 10 most word

-- a number, or a minus and a number, that fits 32 bits with a sign
unfoldable pub signed_number : List ℕ → Option ℤ
signed_number [] = None
signed_number (b ∷ digits) =
    if nat_eq b 45 then option_map (λ n. neg_ℤ (pos n)) (number (2 ^ 31) digits)
    else option_map (λ n. pos n) (number (2 ^ 31 - 1) (b ∷ digits))
