use Rattle.std.proofs.Common.{arith}
use Rattle.inp_device.proofs.WordLists.{word-values, no_words, more_words, words-values}
use Rattle.inp_device.proofs.bitmap.bitmap_of.Goals as goal

-- before the first word all twelve are 0
pub loop-index-init : goal.loop-index-init
loop-index-init g c = record { words = no_words c.args.bits.now; long = λ h. absurd (omega arith) }

-- the word has the list's next 64 values, and the words before it stay
pub loop-index-preserved : goal.loop-index-preserved
loop-index-preserved g c = record {
  words =
      more_words c.loop-index.index c.args.bits.now c.loop-index.words c.word.result
      (omega (arith, c.requires.1))
      (word-values c.args.bits.now c.loop-index.index c.word.result c.word.type_inv c.word.ensures.value)
      c.loop-index.invariant.words;
  long = λ h. c.word.ensures.len;
}

-- the words below the last index are the list's, and behind the list's end they are 0
pub returns : goal.returns
returns g c =
    let long = c.loop-index.invariant.long (omega (arith, c.requires.0)) in
    words-values c.loop-index.index c.args.bits.now c.loop-index.words
    (omega (arith, long)) c.loop-index.invariant.words
