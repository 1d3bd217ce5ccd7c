use Rattle.std.proofs.Common.{◌≡◌, drop}
use Rattle.inp_texts.specs.Line.{is_comment}
use Rattle.inp_texts.proofs.words.is_comment.Given as goal

abbrev pub invariant-loop-byte : goal.invariant-loop-byte
invariant-loop-byte l = is_comment l.line ≡ is_comment (drop l.byte-index l.line)
