use Rattle.std.proofs.Common.{◌≡◌, length, drop, filter}
use Rattle.std.specs.List.{slice_split}
use Rattle.inp_texts.specs.Line.{is_blank, is_word, words_of}
use Rattle.inp_texts.proofs.words.first_word.Given as goal

abbrev pub invariant-loop-piece : goal.invariant-loop-piece
invariant-loop-piece l =
    words_of l.line ≡ filter is_word (drop (length l.yielded) (slice_split is_blank l.line))
