-- What C is told of the names of codes.
use Rattle.std.specs.Prelude.{◌≡◌, ℕ, List, length, take, Some, None, is_some, ◌⊎◌}
use Rattle.std.specs.Str.{IsUtf8}
use Rattle.inp_model.specs.Reply.{written}
use Rattle.inp_codes.specs.CodeNames.{name_of, code_of}
use Rattle.inp_c.specs.Status.{argument_status}

-- no code has the name: it is no text, or the table has no such name
abbrev pub HasNoCode : List ℕ → Type 0
HasNoCode name = (¬ IsUtf8 name) ⊎ (code_of name ≡ None)

-- a call that wants a code with a name
abbrev pub name_status : ℕ → ℕ → ℕ
name_status kind code = argument_status (is_some (name_of kind code))

-- the name of the code stands at the front of C's array, as many bytes as fit, and C is told how many it has
pub record IsToldName (kind code : ℕ) (out new_out : List ℕ) (len : ℕ) : Type 0 where
  pub name : List ℕ
  pub named : name_of kind code ≡ Some name
  pub len_is : len ≡ length name
  pub bytes : new_out ≡ written (take (length out) name) out
