use Rattle.std.proofs.Common.{◌≡◌, refl, arith}
use Rattle.inp_recon.proofs.Told.{AreToldBelow-more, bits_in-from_told}
use Rattle.inp_recon.proofs.flags.set_flags.Goals as goal

pub loop-at-preserved : goal.loop-at-preserved
loop-at-preserved g c =
    AreToldBelow-more g.row.W c.loop-at.at _ c.in-Bits.words c.loop-at.flags c.set_word.new.self
    (omega arith) c.loop-at.invariant refl c.set_word.ensures.written c.set_word.ensures.len

pub returns-after-loop-at : goal.returns-after-loop-at
returns-after-loop-at g c =
    let all : c.loop-at.at ≡ g.row.W = omega arith in
    rw (
      c.in-Bits.is,
      ← bits_in-from_told g.row.W c.in-Bits.words c.loop-at.flags (omega arith)
          (rw all at c.loop-at.invariant),
    )
