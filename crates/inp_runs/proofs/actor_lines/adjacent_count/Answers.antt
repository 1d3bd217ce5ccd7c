use Rattle.std.proofs.Common.{◌≡◌, ◌+◌, ◌<◌, ℕ, zero, suc, List, ◌∷◌, ◌++◌, [], ◌∙◌, arith, length, take}
use Rattle.std.specs.List.{range_with_len}
use Rattle.std.specs.Prelude.{get_or}
use Rattle.std.proofs.lemmas.List.{take_more}
use Rattle.inp_runs.proofs.actor_lines.adjacent_count.Goals as goal

-- one number more is the next one
range-more : (first n : ℕ) → range_with_len first (suc n) ≡ range_with_len first n ++ (first + n) ∷ []
range-more first zero = let same : first ≡ first + 0 = omega arith in rw (← same)
range-more first (suc n) =
    let same : (first + 1) + n ≡ first + suc n = omega arith in
    let more : range_with_len (first + 1) (suc n) ≡ range_with_len (first + 1) n ++ (first + suc n) ∷ [] =
    rw same at (range-more (first + 1) n) in
    (λ i. first ∷ more i)

rise-more : (first at : ℕ) (numbers : List ℕ) → at < length numbers → get_or numbers at 0 ≡ first + at
    → take at numbers ≡ range_with_len first at → take (at + 1) numbers ≡ range_with_len first (at + 1)
rise-more first at numbers below next rise =
    let one : at + 1 ≡ suc at = omega arith in
    take_more numbers at 0 below ∙ rw (rise, next, ← range-more, one)

pub loop-at-preserved : goal.loop-at-preserved
loop-at-preserved c =
    rise-more c.args.first c.loop-at.at c.args.numbers.now
    (omega (arith, c.loop-at-test.true, c.min-most.ensures))
    c.if-numbers-at.false c.loop-at.invariant
