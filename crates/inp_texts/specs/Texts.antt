-- How types, codes, the bits of a mask, clocks and roles are written (docs/FORMATS.md, "The text of a record" and "The words
-- of a report").
use Rattle.std.specs.Prelude.{ℕ, ◌-◌, false, List, [], ◌∷◌, ◌++◌, flat_map, length, replicate, codes, decimal, unwrap_or}
use Rattle.std.specs.Fmt.{digits}
use Rattle.inp_model.specs.declared.clock.Clock.{Clock}
use Rattle.inp_model.specs.declared.clock.Clock.TheVariants.{Realtime, Monotonic, Boottime}
use Rattle.inp_codes.specs.KindNames.{kind_name}
use Rattle.inp_codes.specs.CodeNames.{name_of}
use Rattle.inp_actors.specs.declared.role.Role.{Role}
use Rattle.inp_actors.specs.declared.role.Role.TheVariants.{Source, Client, Tap, Joy, Owner}

-- a type by its name, or its number where it has none
unfoldable pub kind_text : ℕ → List ℕ
kind_text kind = unwrap_or (kind_name kind) (decimal kind)

-- a code of a type by its name, or its number where it has none
unfoldable pub code_text : ℕ → ℕ → List ℕ
code_text kind code = unwrap_or (name_of kind code) (decimal code)

-- 64 bits: 0x and sixteen hexadecimal digits
unfoldable pub bits_text : ℕ → List ℕ
bits_text bits = let digits = digits 16 false bits in codes "0x" ++ (replicate (16 - length digits) 48 ++ digits)

unfoldable pub clock_text : Clock → List ℕ
clock_text Realtime = codes "realtime"
clock_text Monotonic = codes "monotonic"
clock_text Boottime = codes "boottime"

unfoldable pub role_text : Role → List ℕ
role_text Source = codes "source"
role_text Client = codes "client"
role_text Tap = codes "tap"
role_text Joy = codes "joy"
role_text Owner = codes "owner"

-- lines, each with its line feed
abbrev pub text_of_lines : List (List ℕ) → List ℕ
text_of_lines lines = flat_map (λ line. line ++ 10 ∷ []) lines
