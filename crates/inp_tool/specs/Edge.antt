-- What a call's input and sink tell before the call and after it.
use Rattle.std.specs.Prelude.{ℕ, List, Option}
use Rattle.inp_edge.specs.File.{File}

-- What an input tells besides its files. That is how many bytes were given since a file was begun, the bytes
-- that are left of it, and how often a call was at fault.
pub record InputView : Type 0 where
  pub given : ℕ
  pub left : Option (List ℕ)
  pub faults : ℕ

-- what a sink tells: the bytes written, and how often a call was at fault
pub record SinkView : Type 0 where
  pub written : Option (List ℕ)
  pub faults : ℕ

-- an input over some calls: its files, which stay, and what else it tells before the calls and after them
pub record Reads : Type 0 where
  pub files : Option (List File)
  pub before : InputView
  pub after : InputView

-- a sink over some calls
pub record Writes : Type 0 where
  pub before : SinkView
  pub after : SinkView

-- by what an input and a sink tell, the input as it was before some calls and as it is after them
abbrev pub reads_of : {I : Type 0}
    → (I → Option (List File)) → (I → ℕ) → (I → Option (List ℕ)) → (I → ℕ) → I → I → Reads
reads_of files given left faults old new =
    let view : _ → InputView = λ input. record { given = given input; left = left input; faults = faults input } in
    record { files = files old; before = view old; after = view new }

abbrev pub writes_of : {O : Type 0} → (O → Option (List ℕ)) → (O → ℕ) → O → O → Writes
writes_of written faults old new =
    let view : _ → SinkView = λ sink. record { written = written sink; faults = faults sink } in
    record { before = view old; after = view new }
