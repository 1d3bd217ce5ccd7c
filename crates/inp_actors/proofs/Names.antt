-- A name is ASCII text.
use Rattle.std.proofs.Common.{◌≡◌, ℕ, zero, suc, ◌<◌, Bool, true, List, [], ◌∷◌, arith, rules, Result, Ok}
use Rattle.std.proofs.Common.{Err, IsOk, MatchResult}
use Rattle.std.specs.List.{list_all}
use Rattle.std.specs.Str.{IsAscii, IsUtf8}
use Rattle.std.proofs.lemmas.Str.{IsUtf8-from_ascii}
use Rattle.std.proofs.lemmas.Bool.Decides.{nat_tests}
use Rattle.std.proofs.lemmas.Bool.{and_parts}
use Rattle.inp_actors.specs.Name.{is_name_byte, IsName}

byte_is_ascii : (b : ℕ) → is_name_byte b ≡ true → b < 128
byte_is_ascii b h = grind (arith, nat_tests)

-- a word whose bytes pass a test that only ASCII passes
pub bytes_are_ascii : (test : ℕ → Bool) → ((b : ℕ) → test b ≡ true → b < 128) → (word : List ℕ)
    → list_all test word ≡ true → IsAscii word
bytes_are_ascii test is [] h i = omega arith
bytes_are_ascii test is (b ∷ word) h zero = is b (and_parts _ _ h).0
bytes_are_ascii test is (b ∷ word) h (suc i) = bytes_are_ascii test is word (and_parts _ _ h).1 i

pub IsUtf8-from_name : (word : List ℕ) → IsName word → IsUtf8 word
IsUtf8-from_name word h =
    IsUtf8-from_ascii word (bytes_are_ascii is_name_byte byte_is_ascii word (and_parts _ _ h).1)

-- where no error fits, there is a value
pub is_ok_from_cases : {X E : Type 0} (r : Result X E) (P : X → Type 0) (Q : E → Type 0) → MatchResult r P Q
    → ((e : E) → Q e → ⊥) → IsOk r
is_ok_from_cases (Ok x) P Q h none = search rules
is_ok_from_cases (Err e) P Q h none = absurd (none e h)
