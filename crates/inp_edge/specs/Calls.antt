-- The calls of an input or a sink in memory, some of which are to fail.
use Rattle.std.specs.Prelude.{ℕ, ◌+◌, ◌≤◌, Bool, ◌&&◌, ◌==◌, nat_lt, min, List, Option, Some, None, ⊤}
use Rattle.std.specs.List.{list_any}
use Rattle.inp_edge.specs.Count.{LAST, faults_after}

-- the numbers of the calls that are to fail, from 0; how many were made; how many were at fault
pub record Calls : Type 0 where
  pub fails : List ℕ
  pub made : ℕ
  pub faults : ℕ

-- the next call is to fail; a count that stands at its end is no call's number
abbrev pub is_next_to_fail : Calls → Bool
is_next_to_fail calls = nat_lt calls.made LAST && list_any (λ n. n == calls.made) calls.fails

-- the calls after one more, which was at fault or was not
abbrev pub calls_after : Calls → Bool → Calls
calls_after calls at_fault = record {
  fails = calls.fails;
  made = min (calls.made + 1) LAST;
  faults = faults_after calls.faults at_fault;
}

-- no call yet
abbrev pub no_calls : List ℕ → Calls
no_calls fails = record { fails = fails; made = 0; faults = 0 }

-- how many bytes a call moves that could move so many: all, or as many as are in a piece, where there
-- are pieces
abbrev pub in_piece : Option ℕ → ℕ → ℕ
in_piece None count = count
in_piece (Some piece) count = min piece count

-- a piece, where there are pieces, has at least one byte
abbrev pub IsPiece : Option ℕ → Type 0
IsPiece None = ⊤
IsPiece (Some piece) = 1 ≤ piece
