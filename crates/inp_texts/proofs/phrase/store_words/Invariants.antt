use Rattle.std.proofs.Common.{◌≡◌, ◌+◌, ◌++◌, take}
use Rattle.inp_texts.proofs.phrase.store_words.Given as goal

abbrev pub invariant-loop-index : goal.invariant-loop-index
invariant-loop-index l = take (l.at + l.index) l.bytes ≡ take l.at l.initial.bytes ++ take l.index l.words
