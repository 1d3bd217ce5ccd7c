-- Names of devices and actors (docs/FORMATS.md, "Words").
use Rattle.std.specs.Prelude.{ℕ, Bool, ◌&&◌, ◌||◌, nat_eq, nat_le, List, length, IsTrue}
use Rattle.std.specs.List.{list_all}

-- a to z, 0 to 9, _ and -
abbrev pub is_name_byte : ℕ → Bool
is_name_byte b = (nat_le 97 b && nat_le b 122) || (nat_le 48 b && nat_le b 57) || nat_eq b 95 || nat_eq b 45

abbrev pub is_name : List ℕ → Bool
is_name word = nat_le 1 (length word) && nat_le (length word) 32 && list_all is_name_byte word

abbrev pub IsName : List ℕ → Type 0
IsName word = IsTrue (is_name word)
