-- A sink in memory.
use Rattle.std.specs.Prelude.{ℕ, List, Option}
use Rattle.inp_edge.specs.Calls.{Calls}

-- the bytes written, how many more it takes, its calls, and how many bytes one write takes at most,
-- where it takes pieces
pub record MemorySink : Type 0 where
  pub written : List ℕ
  pub room : ℕ
  pub calls : Calls
  pub piece : Option ℕ
