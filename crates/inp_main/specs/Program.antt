-- How the program ends (docs/PROMISES.md).
use Rattle.std.specs.Prelude.{ℕ, ◌≡◌}
use Rattle.inp_tool.specs.declared.end.End.{End}
use Rattle.inp_tool.specs.Edge.{Reads, Writes}
use Rattle.inp_tool.specs.Promise.{Arguments, Promise, HidesNoFault}
use Rattle.inp_tool.specs.Complete.{IsComplete}

-- the exit status is that of an end, and all that the one call promises of these words holds of that end
pub record ExitsWith (words : Arguments) (r : Reads) (w : Writes) (exit : ℕ) : Type 0 where
  pub end : End
  pub promise : Promise words r w end
  pub no_fault_hidden : HidesNoFault words r w end
  pub complete : IsComplete words r w end
  pub status : exit ≡ end.status
