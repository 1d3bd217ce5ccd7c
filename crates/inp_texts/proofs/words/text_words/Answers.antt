use Rattle.std.proofs.Common.{◌≡◌, ◌<◌, true, false, List, ℕ, map, length, get_or, sym, ◌∙◌, arith}
use Rattle.std.proofs.lemmas.List.Folds.{list_all_at}
use Rattle.inp_texts.specs.Line.{is_blank, is_text_byte, words_of}
use Rattle.inp_texts.proofs.Cuts.{other_is_no_text, blank_is_text, printed_are_plain, text_to, text_more}
use Rattle.inp_texts.proofs.Cuts.{all_text, words_at, words_last}
use Rattle.inp_texts.proofs.words.text_words.Goals as goal

pub returns-then-not-is_blank-clause-text : goal.returns-then-not-is_blank-clause-text
returns-then-not-is_blank-clause-text c =
    let end = c.piece_end-end.result in
    let b = get_or c.args.line.now end 0 in
    let more : end < length c.args.line.now = omega arith in
    let blank : is_blank b ≡ false = sym c.is_blank.ensures ∙ c.if-not-is_blank.true in
    sym (list_all_at is_text_byte c.args.line.now end 0 more
    (other_is_no_text b (c.piece_end-end.ensures.other more) blank))

pub returns-then-end-line-clause-text : goal.returns-then-end-line-clause-text
returns-then-end-line-clause-text c =
    let end = c.piece_end-end.result in
    let line = c.args.line.now in
    let at : end ≡ length line = omega arith in
    sym
    (all_text line
    (λ k lt. text_to line c.pieces.from end c.pieces.invariant.text c.piece_end-end.ensures.printed k
    (omega arith)))

pub returns-then-end-line-clause-words : goal.returns-then-end-line-clause-words
returns-then-end-line-clause-words c = λ is.
    let end = c.piece_end-end.result in
    let line = c.args.line.now in
    let at : end ≡ length line = omega arith in
    let before : List (List ℕ) = map (λ word. word.now) c.pieces.list.items in
    let plain = printed_are_plain line c.pieces.from end c.piece_end-end.ensures.printed in
    let now =
    words_last line c.pieces.from before (words_of line) c.pieces.invariant.within
    (λ k le lt. plain k le (omega arith)) c.pieces.invariant.read in
    rw (c.in_ok-add_piece.ensures.added, at) (sym now)

pub pieces-preserved : goal.pieces-preserved
pieces-preserved c =
    let end = c.piece_end-end.result in
    let line = c.args.line.now in
    let b = get_or line end 0 in
    let more : end < length line = omega (arith, c.piece_end-end.ensures.within) in
    let blank : is_blank b ≡ true = sym c.is_blank.ensures ∙ c.if-not-is_blank.false in
    let before : List (List ℕ) = map (λ word. word.now) c.pieces.list.items in
    let plain = printed_are_plain line c.pieces.from end c.piece_end-end.ensures.printed in
    let now =
    words_at line c.pieces.from end before
    (words_of line) c.piece_end-end.ensures.after more plain blank c.pieces.invariant.read in
    let text = text_to line c.pieces.from end c.pieces.invariant.text c.piece_end-end.ensures.printed in
    record {
      within = omega arith;
      text = text_more line end text (blank_is_text b blank);
      read = rw (now, ← c.in_ok-add_piece.ensures.added);
    }
