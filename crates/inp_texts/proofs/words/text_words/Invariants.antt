use Rattle.std.proofs.Common.{◌≡◌, ◌≤◌, ◌-◌, ◌++◌, map, length, drop}
use Rattle.inp_texts.specs.Line.{words_of}
use Rattle.inp_texts.proofs.Cuts.{AreTextTo}
use Rattle.inp_texts.proofs.words.text_words.Given as goal

abbrev pub invariant-pieces : goal.invariant-pieces
invariant-pieces l = record {
  within : l.from ≤ length l.line;
  text : AreTextTo l.line l.from;
  read : words_of l.line ≡ map (λ word. word.now) l.list.items ++ words_of (drop l.from l.line);
}

abbrev pub decreases-pieces : goal.decreases-pieces
decreases-pieces l = length l.line - l.from
