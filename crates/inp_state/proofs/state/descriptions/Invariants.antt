use Rattle.std.proofs.Common.{◌≡◌, ◌<◌, ℕ, length, get_or}
use Rattle.inp_model.specs.Description.{info, no_info}
use Rattle.inp_state.proofs.state.descriptions.Given as goal

abbrev pub invariant-loop-code : goal.invariant-loop-code
invariant-loop-code l = record {
  long : length l.infos ≡ 64;
  filled : (k : ℕ) → k < l.code → get_or l.infos k no_info ≡ info l.caps k;
}
