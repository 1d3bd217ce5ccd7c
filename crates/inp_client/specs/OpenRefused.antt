-- Why no client was opened.
use Rattle.std.specs.Prelude.{ℕ, List, codes}
use Rattle.inp_client.specs.declared.open_refused.OpenRefused.{OpenRefused}
use Rattle.inp_client.specs.declared.open_refused.OpenRefused.TheVariants.{TooMany, NoMemory}

-- what it prints
abbrev pub open_refused_text : OpenRefused → List ℕ
open_refused_text TooMany = codes "too many clients are open"
open_refused_text NoMemory = codes "out of memory"
