-- A sink that is the standard output.
use Rattle.std.specs.Prelude.{◌≡◌, ℕ, zero, suc, Result, Ok, Err, IsErr}
use Rattle.inp_edge.specs.declared.fault.Failed.{Failed}

-- a write's answer by the runtime's: so many bytes where it took some, and a failure where it took
-- none or answered an error
abbrev pub IsAnswerFor : {E : Type 0} → Result ℕ E → Result ℕ Failed → Type 0
IsAnswerFor (Ok zero) answer = IsErr answer
IsAnswerFor (Ok (suc n)) answer = answer ≡ Ok (suc n)
IsAnswerFor (Err e) answer = IsErr answer
