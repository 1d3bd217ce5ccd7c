-- Words of a line, piece by piece.
use Rattle.std.proofs.Common.{◌≡◌, ℕ, ◌+◌, ◌-◌, ◌<◌, ◌≤◌, Bool, true, false, List, [], ◌∷◌, ◌++◌, length}
use Rattle.std.proofs.Common.{take, drop, filter, get_or, cond, refl, sym, ap, ◌∙◌, append_assoc, arith, inl}
use Rattle.std.proofs.Common.{inr}
use Rattle.std.specs.List.{slice_split, list_all, All}
use Rattle.std.proofs.lemmas.Bool.Decides.{nat_tests}
use Rattle.std.proofs.lemmas.Bool.{cases_lt}
use Rattle.std.proofs.lemmas.List.{take_all, drop_all, take-append-drop, drop_more, get_or-drop, get_or-take}
use Rattle.std.proofs.lemmas.List.{get_or_default, drop-drop, take_rest, length-take}
use Rattle.std.proofs.lemmas.List.Sums.{list_all-from_AllPass}
use Rattle.std.proofs.lemmas.List.Splits.{slice_split_at, slice_split_none}
use Rattle.inp_texts.specs.Line.{is_blank, is_line_feed, is_printed, ArePrinted, is_text_byte, is_word}
use Rattle.inp_texts.specs.Line.{lines_behind, words_of, word_alone}

-- no byte between two places is blank
abbrev pub IsPlain : List ℕ → ℕ → ℕ → Type 0
IsPlain line from to = (k : ℕ) → from ≤ k → k < to → is_blank (get_or line k 0) ≡ false

-- so the piece there has none
piece_is_plain : (line : List ℕ) (from to : ℕ) → to ≤ length line → IsPlain line from to
    → All (λ b. is_blank b ≡ false) (take (to - from) (drop from line))
piece_is_plain line from to within plain k d lt =
    let below : k < to - from = omega (arith, length-take (to - from) (drop from line)) in
    let at =
    get_or-take (to - from) (drop from line) k d below ∙ get_or-drop from line k d
    ∙ get_or_default line (from + k) d 0 (omega arith) in
    ap is_blank at ∙ plain (from + k) (omega arith) (omega arith)

-- a printed byte is text, and no blank
pub printed_is_text : (b : ℕ) → is_printed b ≡ true → is_text_byte b ≡ true
printed_is_text b h = grind (arith, nat_tests)

printed_is_plain : (b : ℕ) → is_printed b ≡ true → is_blank b ≡ false
printed_is_plain b h = grind (arith, nat_tests)

pub blank_is_text : (b : ℕ) → is_blank b ≡ true → is_text_byte b ≡ true
blank_is_text b h = grind (arith, nat_tests)

-- any other byte is no text
pub other_is_no_text : (b : ℕ) → is_printed b ≡ false → is_blank b ≡ false → is_text_byte b ≡ false
other_is_no_text b h k = grind (arith, nat_tests)

-- printed bytes have no blank among them
pub printed_are_plain : (line : List ℕ) (from to : ℕ) → ArePrinted line from to → IsPlain line from to
printed_are_plain line from to printed k le lt = printed_is_plain (get_or line k 0) (printed k le lt)

-- each byte before a place is text
abbrev pub AreTextTo : List ℕ → ℕ → Type 0
AreTextTo line to = (k : ℕ) → k < to → is_text_byte (get_or line k 0) ≡ true

-- so it is behind printed bytes
pub text_to : (line : List ℕ) (from to : ℕ) → AreTextTo line from → ArePrinted line from to
    → AreTextTo line to
text_to line from to text printed k lt =
    elim (cases_lt k from)
    [ inl before ↦ text k before | inr behind ↦ printed_is_text (get_or line k 0) (printed k behind lt) ]

-- and behind one byte more
pub text_more : (line : List ℕ) (to : ℕ) → AreTextTo line to → is_text_byte (get_or line to 0) ≡ true
    → AreTextTo line (to + 1)
text_more line to text here k lt = elim (cases_lt k to) [
  | inl before ↦ text k before
  | inr behind ↦ let at : to ≡ k = omega arith in rw (← at) here
]

-- a line of which each byte is text
pub all_text : (line : List ℕ) → AreTextTo line (length line) → list_all is_text_byte line ≡ true
all_text line text =
    list_all-from_AllPass is_text_byte line
    (λ k d lt. ap is_text_byte (get_or_default line k d 0 lt) ∙ text k lt)

-- a piece before others
before_others : (piece : List ℕ) (parts : List (List ℕ))
    → filter is_word (piece ∷ parts) ≡ word_alone piece ++ filter is_word parts
before_others piece parts = by_word (is_word piece)
  where
    by_word : (is : Bool)
        → cond is (piece ∷ filter is_word parts) (filter is_word parts) ≡ cond is (piece ∷ []) []
        ++ filter is_word parts
    by_word true = refl
    by_word false = refl

-- a piece, the blank behind it, and what stands behind that
cut_at : (line : List ℕ) (from place : ℕ) → from ≤ place → place < length line
    → drop from line ≡ take (place - from) (drop from line) ++ get_or line place 0 ∷ drop (place + 1) line
cut_at line from place le lt =
    let there : from + (place - from) ≡ place = omega arith in
    let rest = rw (← there, ← drop-drop (place - from) from line) at (drop_more line place 0 lt) in
    cc (take-append-drop (place - from) (drop from line), rest)

pub words_at : (line : List ℕ) (from place : ℕ) (before all : List (List ℕ)) → from ≤ place
    → place < length line → IsPlain line from place → is_blank (get_or line place 0) ≡ true
    → all ≡ before ++ words_of (drop from line)
    → all ≡ (before ++ word_alone (take (place - from) (drop from line))) ++ words_of (drop (place + 1) line)
words_at line from place before all le lt plain blank e =
    let piece = take (place - from) (drop from line) in
    let split =
    ap (slice_split is_blank) (cut_at line from place le lt)
    ∙ slice_split_at is_blank piece (get_or line place 0) (drop (place + 1) line)
    (piece_is_plain line from place (omega arith) plain) blank in
    let words =
    ap (filter is_word) split ∙ before_others piece (slice_split is_blank (drop (place + 1) line)) in
    rw (e, words) (sym (append_assoc before (word_alone piece) (words_of (drop (place + 1) line))))

-- the last piece
pub words_last : (line : List ℕ) (from : ℕ) (before all : List (List ℕ)) → from ≤ length line
    → IsPlain line from (length line) → all ≡ before ++ words_of (drop from line)
    → all ≡ before ++ word_alone (take (length line - from) (drop from line))
words_last line from before all le plain e =
    let piece = take (length line - from) (drop from line) in
    let split =
    ap (slice_split is_blank) (sym (take_rest line from))
    ∙ slice_split_none is_blank piece (piece_is_plain line from (length line) (omega arith) plain) in
    rw (e, split)

-- The first line of a text.
-- a text with no line feed before a place, which is its end or has one
pub first_line : (text : List ℕ) (end : ℕ) → end < length text
    → ((k : ℕ) → k < end → is_line_feed (get_or text k 0) ≡ false) → is_line_feed (get_or text end 0) ≡ true
    → slice_split is_line_feed text ≡ take end text ∷ lines_behind (drop end text)
first_line text end within before here =
    let cut =
    sym (take-append-drop end text)
    ∙ ap (λ (xs : List ℕ). take end text ++ xs) (drop_more text end 0 within) in
    let plain : All (λ b. is_line_feed b ≡ false) (take end text) = λ k d lt.
    let below : k < end = omega (arith, length-take end text) in
    ap is_line_feed (get_or-take end text k d below ∙ get_or_default text k d 0 (omega arith))
    ∙ before k below in
    rw (
      drop_more text end 0 within,
      ← slice_split_at is_line_feed (take end text) (get_or text end 0) (drop (end + 1) text) plain here,
      ← cut,
    )

pub last_line : (text : List ℕ) → ((k : ℕ) → k < length text → is_line_feed (get_or text k 0) ≡ false)
    → slice_split is_line_feed text ≡ take (length text) text ∷ lines_behind (drop (length text) text)
last_line text before =
    let plain : All (λ b. is_line_feed b ≡ false) text =
    λ k d lt. ap is_line_feed (get_or_default text k d 0 lt) ∙ before k lt in
    rw (
      drop_all (length text) text (omega arith),
      take_all (length text) text (omega arith),
      ← slice_split_none is_line_feed text plain,
    )
