use Rattle.std.proofs.Common.{◌≡◌, ◌<◌, ℕ, pos, length, get_or}
use Rattle.inp_model.specs.Description.{info}
use Rattle.inp_state.proofs.state.described_values.Given as goal

abbrev pub invariant-loop-code : goal.invariant-loop-code
invariant-loop-code l = record {
  long : length l.values ≡ 64;
  filled : (k : ℕ) → k < l.code → get_or l.values k (pos 0) ≡ (info l.caps k).value;
}
