-- An input in memory.
use Rattle.std.specs.Prelude.{ℕ, ◌-◌, ◌<◌, List, [], drop, length, Option, Some, None, slice_get, option_map, unwrap_or, ⊤}
use Rattle.inp_edge.specs.Calls.{Calls}
use Rattle.inp_edge.specs.File.{File}

-- its files, the bytes left of the file begun, how many bytes were given since, its calls, and how
-- many bytes one read gives at most, where it gives pieces
pub record MemoryInput : Type 0 where
  pub files : List File
  pub left : List ℕ
  pub given : ℕ
  pub calls : Calls
  pub piece : Option ℕ

-- the bytes of the file at a place, or none
abbrev pub bytes_at : List File → Option ℕ → List ℕ
bytes_at files None = []
bytes_at files (Some i) = unwrap_or (option_map (λ (f : File). f.bytes) (slice_get files i)) []

-- the last n elements
abbrev pub last_of : List ℕ → ℕ → List ℕ
last_of xs n = drop (length xs - n) xs

-- a place, if there is one, is that of a file
abbrev pub IsPlaceIn : List File → Option ℕ → Type 0
IsPlaceIn files None = ⊤
IsPlaceIn files (Some i) = i < length files
