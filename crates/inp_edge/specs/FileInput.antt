-- An input that reads real files.
use Rattle.std.specs.Prelude.{◌≡◌, ℕ, List, Option, Some, None, Result, Ok, is_ok}
use Rattle.std.specs.Result.{result_ok}
use Rattle.std.specs.Io.KnownBytes.{ReadConsumes}
use Rattle.inp_edge.specs.declared.fault.Failed.{Failed}

-- What is known of it. The file begun, if there is one, is known as the bytes that the runtime tells to be
-- left of it. Known too is how many bytes were given since the last `begin`, and how many calls were at
-- fault.
pub record FileInputView : Type 0 where
  pub begun : Option (Option (List ℕ))
  pub given : ℕ
  pub faults : ℕ

-- By the runtime's answer to an open: the file begun is the one that it opened, or none where it
-- opened none, and `begin` fails where it did.
pub record BeginsBy {F E U : Type 0}
    (opened : Result F E) (begun : Option F) (answer : Result U Failed) : Type 0 where
  pub file : begun ≡ result_ok opened
  pub answered : is_ok answer ≡ is_ok opened

-- A read of the file begun is one read by the runtime, whose answer and bytes it hands on. Where no
-- file is begun it is at the end. The file stays begun, whatever the answer.
abbrev pub ReadsOnce : {E : Type 0}
    → Option (Option (List ℕ)) → Option (Option (List ℕ)) → Result ℕ E → List ℕ → Type 0
ReadsOnce None None answer buf = answer ≡ Ok 0
ReadsOnce None (Some left) answer buf = ⊥
ReadsOnce (Some before) None answer buf = ⊥
ReadsOnce (Some before) (Some after) answer buf = ReadConsumes before after answer buf
