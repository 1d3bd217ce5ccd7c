-- The first piece of a line that is a word.
use Rattle.std.proofs.Common.{◌≡◌, ℕ, zero, suc, ◌+◌, ◌<◌, true, false, List, [], ◌∷◌, length, drop, filter}
use Rattle.std.proofs.Common.{get_or, arith}
use Rattle.inp_texts.specs.Line.{is_word}

-- the pieces from a place on
piece_at : (pieces : List (List ℕ)) (n : ℕ) (piece : List ℕ) → n < length pieces
    → piece ≡ get_or pieces n piece → drop n pieces ≡ piece ∷ drop (n + 1) pieces
piece_at [] n piece h e = absurd (omega arith)
piece_at (p ∷ pieces) zero piece h e = rw (← e)
piece_at (p ∷ pieces) (suc n) piece h e =
    let next : suc (n + 1) ≡ suc n + 1 = omega arith in
    rw (← next, ← piece_at pieces n piece (omega arith) e)

pub word_at : (pieces : List (List ℕ)) (n : ℕ) (piece : List ℕ) → n < length pieces
    → piece ≡ get_or pieces n piece → is_word piece ≡ true
    → filter is_word (drop n pieces) ≡ piece ∷ filter is_word (drop (n + 1) pieces)
word_at pieces n piece h e w = rw (piece_at pieces n piece h e, w)

pub none_at : (pieces : List (List ℕ)) (n : ℕ) (piece : List ℕ) → n < length pieces
    → piece ≡ get_or pieces n piece → is_word piece ≡ false
    → filter is_word (drop n pieces) ≡ filter is_word (drop (n + 1) pieces)
none_at pieces n piece h e w = rw (piece_at pieces n piece h e, w)
