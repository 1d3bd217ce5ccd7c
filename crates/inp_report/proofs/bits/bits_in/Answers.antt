use Rattle.std.proofs.Common.{◌≡◌, refl, arith}
use Rattle.inp_recon.proofs.Told.{AreToldBelow-more, bits_in-from_told}
use Rattle.inp_report.proofs.bits.bits_in.Goals as goal

-- the word at the index is written at its place, and those below it stay
pub loop-at-preserved : goal.loop-at-preserved
loop-at-preserved c =
    AreToldBelow-more 12 c.loop-at.at _ c.args.words.now c.loop-at.bits c.set_word.new.self
    (omega arith) c.loop-at.invariant refl c.set_word.ensures.written c.set_word.ensures.len

-- all twelve words are written, so the bits are all those of the words
pub returns : goal.returns
returns c =
    let all : c.loop-at.at ≡ 12 = omega arith in
    record {
      bits =
          bits_in-from_told 12 c.args.words.now c.loop-at.bits (omega arith) (rw all at c.loop-at.invariant);
    }
