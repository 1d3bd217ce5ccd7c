use Rattle.std.proofs.Common.{◌≡◌, ℕ, ◌<◌, ◌≤◌, get_or}
use Rattle.inp_bits.proofs.bits.Bits.first_true.Given as goal

-- each word from `first_word` up to `at` is 0
abbrev pub invariant-loop-at : goal.invariant-loop-at
invariant-loop-at g l = (q : ℕ) → l.first_word ≤ q → q < l.at → get_or l.self-inside.words q 0 ≡ 0
