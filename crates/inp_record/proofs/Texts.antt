-- Words of text: ASCII, and text.
use Rattle.std.proofs.Common.{◌≡◌, ℕ, ◌<◌, ◌≤◌, Bor, Bool, true, false, length, List, [], ◌∷◌, refl, arith}
use Rattle.std.proofs.Common.{inl, inr}
use Rattle.std.specs.List.{list_all, slice_split, onto_first}
use Rattle.std.specs.Str.{IsUtf8}
use Rattle.std.proofs.lemmas.Str.{IsUtf8-from_ascii}
use Rattle.std.proofs.lemmas.Bool.Decides.{nat_tests}
use Rattle.std.proofs.lemmas.List.Elements.{All-filter}
use Rattle.std.proofs.lemmas.List.Sums.{AllPass-from_list_all, list_all-from_AllPass}
use Rattle.std.proofs.lemmas.Bool.{and_parts, cases_Bool}
use Rattle.inp_texts.specs.Line.{is_text, is_text_byte, is_blank, is_word, words_of, AreText}
use Rattle.inp_codes.specs.ByNumber.{texts}
use Rattle.inp_texts.proofs.NameWords.{bytes_are_ascii}

-- bytes of text are ASCII, and ASCII is UTF-8
pub IsUtf8-from_text : (word : List ℕ) → is_text word ≡ true → IsUtf8 word
IsUtf8-from_text word h =
    IsUtf8-from_ascii word (bytes_are_ascii is_text_byte (λ b t. grind (arith, nat_tests)) word h)

-- the words of a line have what its bytes have that are no blanks
module _ (p q : ℕ → Bool) (fits : (b : ℕ) → p b ≡ true → is_blank b ≡ false → q b ≡ true) where
  onto_all : (b : ℕ) (ws : List (List ℕ)) → q b ≡ true → list_all (λ w. list_all q w) ws ≡ true
      → list_all (λ w. list_all q w) (onto_first b ws) ≡ true
  onto_all b [] h k = rw h refl
  onto_all b (w ∷ ws) h k = let parts = and_parts (list_all q w) (list_all (λ v. list_all q v) ws) k in
      rw (h, parts.0, parts.1) refl

  pieces_all : (line : List ℕ) → list_all p line ≡ true
      → list_all (λ w. list_all q w) (slice_split is_blank line) ≡ true
  pieces_all [] h = refl
  pieces_all (b ∷ line) h =
      let parts = and_parts (p b) (list_all p line) h in
      elim (cases_Bool (is_blank b)) [
        | inl k ↦ rw k (pieces_all line parts.1)
        | inr k ↦ rw k (onto_all b (slice_split is_blank line) (fits b parts.0 k) (pieces_all line parts.1))
      ]

  -- the bytes of a word are bytes of the line that are no blanks
  pub words_all : (line : List ℕ) → list_all p line ≡ true
      → list_all (λ w. list_all q w) (words_of line) ≡ true
  words_all line h =
      let all = AllPass-from_list_all (λ w. list_all q w) (slice_split is_blank line) (pieces_all line h) in
      list_all-from_AllPass (λ w. list_all q w) (words_of line)
      (All-filter is_word (λ w. list_all q w ≡ true) (slice_split is_blank line) all)

-- the words of a line of text are text
pub words_are_text : (line : List ℕ) → is_text line ≡ true → AreText (words_of line)
words_are_text line h = words_all is_text_byte is_text_byte (λ b t k. t) line h

-- each word is one text
pub some_texts : (ws : List (Bor (List ℕ))) → 0 < length ws → 1 ≤ length (texts ws)
some_texts [] h = absurd (omega arith)
some_texts (w ∷ ws) h = omega arith
