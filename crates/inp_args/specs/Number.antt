-- Numbers as Rust reads a `u32`.
use Rattle.std.specs.Prelude.{ℕ, ◌^◌, Bool, ◌&&◌, List, length, Option, Some, None, nat_lt, if◌then◌else◌}
use Rattle.std.specs.Str.{all_ascii_digits}
use Rattle.std.specs.Str.Parse.{digits_value, without_leading_plus}

-- one digit or more
abbrev pub is_decimal : List ℕ → Bool
is_decimal digits = nat_lt 0 (length digits) && all_ascii_digits digits

-- a numeral below 2^32, before which a plus may stand
abbrev pub number_of : List ℕ → Option ℕ
number_of text =
    let digits = without_leading_plus text in
    if is_decimal digits && nat_lt (digits_value 10 digits) (2 ^ 32) then Some (digits_value 10 digits) else None
