-- The bytes so far are as many as were given, and with those left they make up the file.
use Rattle.std.proofs.Common.{◌≡◌, ◌-◌, ◌≤◌, ℕ, List, ◌++◌, Option, Some, None, vec_len, is_some}
use Rattle.inp_edge.specs.File.{File, HasFile}
use Rattle.inp_edge.specs.declared.input.TheConstants.{INPUT_LIMIT}
use Rattle.inp_edge.proofs.input.read_all.Given as goal

-- where the bytes left are told, what was read and they are the bytes of the file
abbrev pub HasRead : Option (List File) → List ℕ → List ℕ → Option (List ℕ) → Type 0
HasRead files name read None = Unit {0}
HasRead files name read (Some left) = HasFile files name (read ++ left)

abbrev pub invariant-loop-bytes : goal.invariant-loop-bytes
invariant-loop-bytes g l = record {
  within : vec_len l.bytes ≤ INPUT_LIMIT;
  counted : g.I.Input.given l.input ≡ vec_len l.bytes;
  read : HasRead (g.I.Input.files l.fn.input) l.fn.name l.bytes.items (g.I.Input.left l.input);
  files_stay : g.I.Input.files l.input ≡ g.I.Input.files l.fn.input;
  stays_told : is_some (g.I.Input.left l.input) ≡ is_some (g.I.Input.left l.fn.input);
  faults_stay : g.I.Input.faults l.input ≡ g.I.Input.faults l.fn.input;
}

abbrev pub decreases-loop-bytes : goal.decreases-loop-bytes
decreases-loop-bytes g l = INPUT_LIMIT - vec_len l.bytes
