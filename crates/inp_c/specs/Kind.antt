-- The number of what a handle keeps.
use Rattle.std.specs.Prelude.{ℕ, Option, Some, None}
use Rattle.inp_c.specs.declared.kept.Kept.{Kept}
use Rattle.inp_c.specs.declared.kept.Kept.TheVariants.{Device, Record}

abbrev pub kept_kind : Option Kept → ℕ
kept_kind None = 0
kept_kind (Some (Device device)) = 1
kept_kind (Some (Record recorded)) = 2
