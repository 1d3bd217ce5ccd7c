-- What a call does to the bytes written, which a sink may tell: none where it tells no bytes.
use Rattle.std.specs.Prelude.{◌≡◌, ℕ, ◌<◌, List, ◌++◌, take, length, Option, Some, None, ⊤}

-- this piece was put at the end of the bytes written; they are told after it where they were before
abbrev pub Appends : List ℕ → Option (List ℕ) → Option (List ℕ) → Type 0
Appends piece None None = ⊤
Appends piece (Some before) (Some after) = after ≡ before ++ piece
Appends piece None (Some after) = ⊥
Appends piece (Some before) None = ⊥

-- a front part of the bytes, and not all of them, was put at the end of the bytes written
abbrev pub IsCutOff : List ℕ → Option (List ℕ) → Option (List ℕ) → Type 0
IsCutOff bytes before after = (n : ℕ) × (n < length bytes) × Appends (take n bytes) before after
