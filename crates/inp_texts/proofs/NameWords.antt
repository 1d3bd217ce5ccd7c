-- Words whose bytes are ASCII.
use Rattle.std.proofs.Common.{◌≡◌, ℕ, zero, suc, ◌<◌, Bool, true, List, [], ◌∷◌, arith}
use Rattle.std.specs.List.{list_all}
use Rattle.std.specs.Str.{IsAscii}
use Rattle.std.proofs.lemmas.Bool.{and_parts}

-- a word whose bytes pass a test that only ASCII passes
pub bytes_are_ascii : (test : ℕ → Bool) → ((b : ℕ) → test b ≡ true → b < 128) → (word : List ℕ)
    → list_all test word ≡ true → IsAscii word
bytes_are_ascii test is [] h i = omega arith
bytes_are_ascii test is (b ∷ word) h zero = is b (and_parts _ _ h).0
bytes_are_ascii test is (b ∷ word) h (suc i) = bytes_are_ascii test is word (and_parts _ _ h).1 i
