-- Files found by their names.
use Rattle.std.proofs.Common.{◌≡◌, ℕ, zero, suc, ◌<◌, true, List, [], ◌∷◌, length, get_or, drop, Some, ap}
use Rattle.std.proofs.Common.{cond, bytes_eq, arith}
use Rattle.inp_edge.specs.File.{File, bytes_of}
use Rattle.inp_edge.specs.MemInput.{bytes_at}

-- a file that has the name is the first one of those from it on
pub bytes_of-found : (files : List File) (name : List ℕ) (i : ℕ) (file : File) → i < length files
    → file ≡ get_or files i file → bytes_eq file.name name ≡ true
    → bytes_of (drop i files) name ≡ Some (bytes_at files (Some i))
bytes_of-found [] name i file h e t = absurd (omega arith)
bytes_of-found (f ∷ fs) name zero file h e t =
    let same : bytes_eq f.name name ≡ true = rw e at t in
    ap (λ b. cond b (Some f.bytes) (bytes_of fs name)) same
bytes_of-found (f ∷ fs) name (suc i) file h e t = bytes_of-found fs name i file (omega arith) e t
