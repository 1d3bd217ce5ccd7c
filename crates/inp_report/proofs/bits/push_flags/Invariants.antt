use Rattle.std.proofs.Common.{◌≡◌, ◌++◌, ◌*◌, ◌<◌}
use Rattle.std.specs.List.{All}
use Rattle.inp_bits.specs.Bits.{true_indices}
use Rattle.inp_texts.specs.Texts.{code_text}
use Rattle.inp_report.specs.Words.{spaced}
use Rattle.inp_report.proofs.bits.push_flags.Given as goal

-- the codes so far, and those that are left
abbrev pub invariant-loop-code : goal.invariant-loop-code
invariant-loop-code g l = record {
  whole : l.yielded ++ l.code-iterator ≡ true_indices l.flags;
  within : All (λ k. k < 64 * g.row.W) l.code-iterator;
  written : l.text ≡ l.initial.text ++ spaced (code_text l.kind) l.yielded;
}
