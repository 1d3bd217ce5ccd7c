-- Lines of plain words, written and cut again.
use Rattle.std.proofs.Common.{◌≡◌, ℕ, zero, suc, Bool, true, false, ◌&&◌, nat_eq, nat_le, List, [], ◌∷◌, ◌++◌}
use Rattle.std.proofs.Common.{map, filter, get_or, refl, sym, ap, ◌∙◌, arith, append_assoc, append-nil}
use Rattle.std.specs.List.{list_all, slice_split}
use Rattle.std.specs.Str.Lines.{strip_carriage_return}
use Rattle.std.proofs.lemmas.Bool.Decides.{nat_tests}
use Rattle.std.proofs.lemmas.List.Folds.{list_all-append}
use Rattle.std.proofs.lemmas.Bool.{and_parts, and_from}
use Rattle.inp_texts.specs.Line.{lines_of as text_lines, words_of, is_line_feed, is_blank, is_comment}
use Rattle.inp_texts.specs.Line.{is_text, is_text_byte, is_word}
use Rattle.inp_record.specs.canon.Words.{Words, further_text, line_text, lines_text}

-- what passes one test passes a weaker one
pub all_weaker : {X : Type 0} (p q : X → Bool) → ((x : X) → p x ≡ true → q x ≡ true) → (xs : List X)
    → list_all p xs ≡ true → list_all q xs ≡ true
all_weaker p q fits [] h = refl
all_weaker p q fits (x ∷ xs) h = let parts =
    and_parts _ _ h in and_from _ _ (fits x parts.0) (all_weaker p q fits xs parts.1)

-- a word as a line of text has it: not empty, and each byte visible
abbrev pub is_visible : ℕ → Bool
is_visible b = nat_le 33 b && nat_le b 126

pub record IsPlainWord (w : List ℕ) : Type 0 where
  -- the word is not empty
  pub some : is_word w ≡ true
  -- each byte of the word is visible
  pub visible : list_all is_visible w ≡ true

-- the same as a test
abbrev pub is_plain : List ℕ → Bool
is_plain w = is_word w && list_all is_visible w

-- the first byte is a small letter
abbrev pub begins_small : List ℕ → Bool
begins_small [] = false
begins_small (b ∷ w) = nat_le 97 b && nat_le b 122

-- so is the first byte of the line
abbrev pub line_begins_small : Words → Bool
line_begins_small [] = false
line_begins_small (w ∷ ws) = begins_small w

-- words that make a line: all plain, and the first begins with a letter, so that the line is no comment
pub record IsPlainLine (ws : Words) : Type 0 where
  -- the line begins with a small letter
  pub first : line_begins_small ws ≡ true
  -- each word of the line is plain
  pub plain : list_all is_plain ws ≡ true

abbrev pub ArePlainLines : List Words → Type 0
ArePlainLines [] = Unit {0}
ArePlainLines (ws ∷ lines) = IsPlainLine ws × ArePlainLines lines

-- a line without its line feed
abbrev pub further_line : Words → List ℕ
further_line [] = []
further_line (w ∷ ws) = 32 ∷ (w ++ further_line ws)

abbrev pub line_of : Words → List ℕ
line_of [] = []
line_of (w ∷ ws) = w ++ further_line ws

-- each line has its line feed

further_ended : (ws : Words) → further_text ws ≡ further_line ws ++ 10 ∷ []
further_ended [] = refl
further_ended (w ∷ ws) = rw (further_ended ws, ← append_assoc)

line_ended : (ws : Words) → line_text ws ≡ line_of ws ++ 10 ∷ []
line_ended [] = refl
line_ended (w ∷ ws) = rw further_ended (sym (append_assoc w (further_line ws) (10 ∷ [])))

-- a space, or a visible byte
abbrev is_printed : ℕ → Bool
is_printed b = nat_le 32 b && nat_le b 126

append_printed : (v w : List ℕ) → list_all is_printed v ≡ true → list_all is_printed w ≡ true
    → list_all is_printed (v ++ w) ≡ true
append_printed v w h k = list_all-append is_printed v w ∙ and_from _ _ h k

plain_printed : (w : List ℕ) → is_plain w ≡ true → list_all is_printed w ≡ true
plain_printed w h = all_weaker is_visible is_printed (λ b v. grind (arith, nat_tests)) w (and_parts _ _ h).1

further_printed : (ws : Words) → list_all is_plain ws ≡ true → list_all is_printed (further_line ws) ≡ true
further_printed [] h = refl
further_printed (w ∷ ws) h =
    append_printed w (further_line ws) (plain_printed w (and_parts _ _ h).0)
    (further_printed ws (and_parts _ _ h).1)

-- a line of plain words has visible bytes and spaces alone
pub line_printed : (ws : Words) → list_all is_plain ws ≡ true → list_all is_printed (line_of ws) ≡ true
line_printed [] h = refl
line_printed (w ∷ ws) h =
    append_printed w (further_line ws) (plain_printed w (and_parts _ _ h).0)
    (further_printed ws (and_parts _ _ h).1)

-- what is printed has no line feed and no carriage return

printed_no_feed : (b : ℕ) → is_printed b ≡ true → is_line_feed b ≡ false
printed_no_feed b h = grind (arith, nat_tests)

printed_no_return : (b : ℕ) → is_printed b ≡ true → nat_eq b 13 ≡ false
printed_no_return b h = grind (arith, nat_tests)

printed_cut : (t more : List ℕ) → list_all is_printed t ≡ true
    → slice_split is_line_feed (t ++ 10 ∷ more) ≡ t ∷ slice_split is_line_feed more
printed_cut [] more h = refl
printed_cut (b ∷ t) more h = let g =
    and_parts _ _ h in rw (printed_no_feed b g.0, printed_cut t more g.1) refl

printed_at : (t : List ℕ) (i : ℕ) → list_all is_printed t ≡ true → nat_eq (get_or t i 0) 13 ≡ false
printed_at [] i h = refl
printed_at (b ∷ t) zero h = printed_no_return b (and_parts _ _ h).0
printed_at (b ∷ t) (suc i) h = printed_at t i (and_parts _ _ h).1

printed_kept : (t : List ℕ) → list_all is_printed t ≡ true → strip_carriage_return t ≡ t
printed_kept t h = rw printed_at refl

-- lines of plain words are cut as they were written, and an empty line is behind them
pub lines_cut : (lines : List Words) → ArePlainLines lines
    → text_lines (lines_text lines) ≡ map line_of lines ++ [] ∷ []
lines_cut [] h = refl
lines_cut (ws ∷ lines) h =
    let printed : list_all is_printed (line_of ws) ≡ true = line_printed ws h.0.plain in
    let cut : slice_split is_line_feed (line_text ws ++ lines_text lines) ≡ line_of ws
    ∷ slice_split is_line_feed (lines_text lines) =
    rw (line_ended, append_assoc) (printed_cut (line_of ws) (lines_text lines) printed) in
    rw (cut, printed_kept, lines_cut lines h.1)

-- the words of a line

visible_no_blank : (b : ℕ) → is_visible b ≡ true → is_blank b ≡ false
visible_no_blank b h = grind (arith, nat_tests)

word_cut : (w more : List ℕ) → list_all is_visible w ≡ true
    → slice_split is_blank (w ++ 32 ∷ more) ≡ w ∷ slice_split is_blank more
word_cut [] more h = refl
word_cut (b ∷ w) more h = let g = and_parts _ _ h in rw (visible_no_blank b g.0, word_cut w more g.1) refl

last_cut : (w : List ℕ) → list_all is_visible w ≡ true → slice_split is_blank w ≡ w ∷ []
last_cut [] h = refl
last_cut (b ∷ w) h = let g = and_parts _ _ h in rw (visible_no_blank b g.0, last_cut w g.1) refl

words_cut : (w : List ℕ) (ws : Words) → list_all is_plain (w ∷ ws) ≡ true
    → slice_split is_blank (w ++ further_line ws) ≡ w ∷ ws
words_cut w [] h = ap (slice_split is_blank) (append-nil w) ∙ last_cut w (and_parts _ _ (and_parts _ _ h).0).1
words_cut w (v ∷ ws) h =
    rw (
      word_cut w (v ++ further_line ws) (and_parts (is_word w) _ (and_parts (is_plain w) _ h).0).1,
      words_cut v ws (and_parts (is_plain w) _ h).1,
    )

all_kept : (ws : Words) → list_all is_plain ws ≡ true → filter is_word ws ≡ ws
all_kept [] h = refl
all_kept (w ∷ ws) h =
    rw (
      (and_parts (is_word w) _ (and_parts (is_plain w) _ h).0).0,
      all_kept ws (and_parts (is_plain w) _ h).1,
    ) refl

-- a plain word has no blank and is not empty, so the cut at blanks gives the words again
pub words_kept : (w : List ℕ) (ws : Words) → list_all is_plain (w ∷ ws) ≡ true
    → words_of (line_of (w ∷ ws)) ≡ w ∷ ws
words_kept w ws h = ap (filter is_word) (words_cut w ws h) ∙ all_kept (w ∷ ws) h

-- no comment, and text

-- a small letter is no blank and no #, so the line is no comment
pub no_comment : (w more : List ℕ) → begins_small w ≡ true → is_comment (w ++ more) ≡ false
no_comment [] more h = absurd (cc h)
no_comment (b ∷ w) more h =
    let letter : is_blank b ≡ false = grind (arith, nat_tests) in
    let other : nat_eq b 35 ≡ false = grind (arith, nat_tests) in
    rw (letter, other) refl

-- each printed byte is a byte of text
pub printed_text : (t : List ℕ) → list_all is_printed t ≡ true → is_text t ≡ true
printed_text t h = all_weaker is_printed is_text_byte (λ b p. grind (arith, nat_tests)) t h
