-- The least power of two that is large enough.
use Rattle.std.proofs.Common.{◌≡◌, ℕ, zero, suc, ◌*◌, ◌/◌, ◌^◌, ◌<◌, ◌≤◌, max, ◌∙◌, arith}
use Rattle.std.proofs.lemmas.Bool.Decides.{nat_tests}
use Rattle.inp_model.specs.Description.{doubled}

past : (j : ℕ) → 0 < 2 ^ j
past zero = omega arith
past (suc j) = omega (arith, past j)

-- of a hint in range
power_is : (k h : ℕ) → 2 ≤ h → h ≤ 512 → max (8 * h) 64 ≤ 2 ^ k → 2 ^ k / 2 < max 1 (max (8 * h) 64)
    → 2 ^ k ≡ doubled 6 (8 * h) 64
power_is zero h a b l u = absurd (omega arith)
power_is (suc zero) h a b l u = absurd (omega arith)
power_is (suc (suc zero)) h a b l u = absurd (omega arith)
power_is (suc (suc (suc zero))) h a b l u = absurd (omega arith)
power_is (suc (suc (suc (suc zero)))) h a b l u = absurd (omega arith)
power_is (suc (suc (suc (suc (suc zero))))) h a b l u = absurd (omega arith)
power_is (suc (suc (suc (suc (suc (suc zero)))))) h a b l u = grind (arith, nat_tests)
power_is (suc (suc (suc (suc (suc (suc (suc zero))))))) h a b l u = grind (arith, nat_tests)
power_is (suc (suc (suc (suc (suc (suc (suc (suc zero)))))))) h a b l u = grind (arith, nat_tests)
power_is (suc (suc (suc (suc (suc (suc (suc (suc (suc zero))))))))) h a b l u = grind (arith, nat_tests)
power_is (suc (suc (suc (suc (suc (suc (suc (suc (suc (suc zero)))))))))) h a b l u = grind (arith, nat_tests)
power_is (suc (suc (suc (suc (suc (suc (suc (suc (suc (suc (suc zero))))))))))) h a b l u =
    grind (arith, nat_tests)
power_is (suc (suc (suc (suc (suc (suc (suc (suc (suc (suc (suc (suc zero)))))))))))) h a b l u =
    grind (arith, nat_tests)
power_is (suc (suc (suc (suc (suc (suc (suc (suc (suc (suc (suc (suc (suc j))))))))))))) h a b l u =
    absurd (omega (arith, past j))

pub ring_is : (h m x : ℕ) → 2 ≤ h → h ≤ 512 → m ≡ max (8 * h) 64 → (k : ℕ) × (x ≡ 2 ^ k) → m ≤ x
    → x / 2 < max 1 m → x ≡ doubled 6 (8 * h) 64
ring_is h m x a b e p l u = let power : x ≡ 2 ^ p.0 = p.1 in power
    ∙ power_is p.0 h a b (omega arith) (omega arith)

pub ring_range : (h : ℕ) → 2 ≤ h → h ≤ 512 → (64 ≤ doubled 6 (8 * h) 64) × (doubled 6 (8 * h) 64 ≤ 4096)
ring_range h a b = (grind (arith, nat_tests), grind (arith, nat_tests))
