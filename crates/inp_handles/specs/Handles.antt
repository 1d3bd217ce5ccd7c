-- What a contract sees of handles.
use Rattle.std.specs.Prelude.{ℕ, Bool, if◌then◌else◌, Option, None}
use Rattle.inp_model.specs.Step.{is_same}

-- the client that holds the grab, if one does, and whether the device is inhibited
pub record HandleState : Type 0 where
  pub holder : Option ℕ
  pub inhibited : Bool

-- the holder after a client gave up what it held
abbrev pub holder_without : ℕ → Option ℕ → Option ℕ
holder_without client before = if is_same before client then None else before
