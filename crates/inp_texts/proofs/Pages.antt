-- What stands on a page: where it is cut off within what was written last, and after what a formatter writes.
use Rattle.std.proofs.Common.{◌≡◌, ℕ, ◌+◌, ◌<◌, ◌≤◌, List, [], ◌∷◌, ◌++◌, set, append_assoc, length, take}
use Rattle.std.proofs.Common.{drop, ap, sym, ◌∙◌, arith, Option, Some, None}
use Rattle.std.specs.Fmt.{WritesText, AppendsText}
use Rattle.std.proofs.lemmas.Fmt.{contents_after_writes}
use Rattle.std.proofs.lemmas.List.{take_more_set, take-append-le, length-append, length-take-le}
use Rattle.std.proofs.lemmas.List.{take-append-drop}
use Rattle.std.proofs.Math.Seq.{take-append-add}

take-of-take : (n m : ℕ) (xs : List ℕ) → n ≤ length (take m xs) → take n xs ≡ take n (take m xs)
take-of-take n m xs fits =
    ap (take n) (sym (take-append-drop m xs)) ∙ take-append-le n (take m xs) (drop m xs) fits

-- a beginning is no longer than the whole
begins-le : (words padded : List ℕ) (n : ℕ) → take n padded ≡ words → length words ≤ length padded
begins-le words padded n is =
    let whole : length (take n padded) + length (drop n padded) ≡ length padded =
    sym (length-append (take n padded) (drop n padded)) ∙ ap length (take-append-drop n padded) in
    omega (arith, ap length is)

pub cut_off : (bytes old padded words : List ℕ) (len start count : ℕ) → take len bytes ≡ old ++ padded
    → start ≡ length old → take count padded ≡ words → count ≡ length words
    → take (start + count) bytes ≡ old ++ words
cut_off bytes old padded words len start count written start-is words-are count-is =
    let whole : length (take len bytes) ≡ length old + length padded =
    ap length written ∙ length-append old padded in
    let fits : length words ≤ length padded = begins-le words padded count words-are in
    rw (
      take-of-take (start + count) len bytes (omega arith),
      written,
      start-is,
      take-append-add old padded count,
      words-are,
    )

-- the text of a page has as many bytes as the page says
pub written-length : (bytes text : List ℕ) (len : ℕ) → len ≤ length bytes → take len bytes ≡ text
    → len ≡ length text
written-length bytes text len fits is = sym (length-take-le len bytes fits) ∙ ap length is

-- the pieces that a formatter writes are appended one after another
pub appended-writes : (shown : Option (List ℕ)) (before after : List ℕ)
    → WritesText (λ (b w a : List ℕ). a ≡ b ++ w) before shown after → AppendsText before after shown
appended-writes None before after written = tt
appended-writes (Some words) before after written =
    contents_after_writes (λ (b w a : List ℕ). a ≡ b ++ w) (λ (l : List ℕ). l)
    (λ b w a more. more) before words after written

regrouped : (old first second number : List ℕ)
    → (((old ++ first) ++ second) ++ number) ++ 10 ∷ [] ≡ old ++ (first ++ (second ++ (number ++ 10 ∷ [])))
regrouped old first second number = simp append_assoc

-- what four stores behind each other make, where the last one is of a line feed
pub line-stored : (b₀ b₁ b₂ b₃ old first second number : List ℕ) (a₀ a₁ a₂ a₃ : ℕ) → take a₀ b₀ ≡ old
    → take a₁ b₁ ≡ take a₀ b₀ ++ first → take a₂ b₂ ≡ take a₁ b₁ ++ second → take a₃ b₃ ≡ take a₂ b₂ ++ number
    → a₃ < length b₃ → take (a₃ + 1) (set b₃ a₃ 10) ≡ old ++ (first ++ (second ++ (number ++ 10 ∷ [])))
line-stored b₀ b₁ b₂ b₃ old first second number a₀ a₁ a₂ a₃ e₀ e₁ e₂ e₃ inside =
    rw (take_more_set b₃ a₃ 10 inside, e₃, e₂, e₁, e₀) (regrouped old first second number)
