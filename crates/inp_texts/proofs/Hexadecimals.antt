-- Hexadecimal digits, filled up with zeros.
use Rattle.std.proofs.Common.{◌≡◌, ℕ, ◌-◌, ◌^◌, false, List, [], ◌++◌, length, replicate, arith}
use Rattle.std.proofs.lemmas.List.{append-nil}
use Rattle.std.specs.Fmt.{padded_integral, format_spec, char_count}

-- to sixteen places
pub padded_16 : (digits : List ℕ)
    → padded_integral (format_spec 32 0 4 16 (2 ^ 64 - 1)) false [] digits
    ≡ replicate (16 - length digits) 48 ++ digits
unfolding padded_integral char_count
padded_16 digits =
    let padding : ((16 - length digits) - 0) - 0 ≡ 16 - length digits = omega arith in
    rw (padding, append-nil digits)
