-- Files, as an input may tell them: none where it tells no files.
use Rattle.std.specs.Prelude.{◌≡◌, ℕ, ◌<◌, List, [], ◌∷◌, length, Option, Some, None, bytes_eq, if◌then◌else◌, ⊤}

-- a file: its name and its bytes
pub record File : Type 0 where
  pub name : List ℕ
  pub bytes : List ℕ

-- the bytes of the first file of this name
abbrev pub bytes_of : List File → List ℕ → Option (List ℕ)
bytes_of [] name = None
bytes_of (file ∷ files) name =
    if bytes_eq file.name name then Some file.bytes else bytes_of files name

-- the files are told, and none of them has this name
abbrev pub IsMissing : Option (List File) → List ℕ → Type 0
IsMissing None name = ⊥
IsMissing (Some files) name = bytes_of files name ≡ None

-- where the files are told, the one of this name has these bytes
abbrev pub HasFile : Option (List File) → List ℕ → List ℕ → Type 0
HasFile None name bytes = ⊤
HasFile (Some files) name bytes = bytes_of files name ≡ Some bytes

-- where the files are told, the one of this name has more bytes than that
abbrev pub HasLongerFile : Option (List File) → List ℕ → ℕ → Type 0
HasLongerFile files name limit =
    (bytes : List ℕ) × HasFile files name bytes × (limit < length bytes)
