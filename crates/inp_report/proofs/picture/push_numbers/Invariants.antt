use Rattle.std.proofs.Common.{◌≡◌, ◌++◌}
use Rattle.std.specs.Prelude.{decimal}
use Rattle.inp_bits.specs.Bits.{true_indices}
use Rattle.inp_report.specs.Words.{spaced}
use Rattle.inp_report.proofs.picture.push_numbers.Given as goal

-- the numbers so far, and those that are left
abbrev pub invariant-loop-number : goal.invariant-loop-number
invariant-loop-number l = record {
  whole : l.yielded ++ l.number-iterator ≡ true_indices l.flags;
  written : l.text ≡ l.initial.text ++ spaced decimal l.yielded;
}
