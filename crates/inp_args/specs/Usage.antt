-- How the program is called.
use Rattle.std.specs.Prelude.{ℕ, List, [], ◌∷◌, ◌++◌, codes}

abbrev pub usage_text : List ℕ
usage_text = codes "usage: inputplay [--threads] [--history] [--idle N] FILE, or inputplay --migrate FILE, or inputplay --make NUMBER [--count COUNT]" ++ 10 ∷ []
