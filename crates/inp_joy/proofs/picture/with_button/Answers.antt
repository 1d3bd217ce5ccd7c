use Rattle.std.proofs.Common.{refl, ap, length, set}
use Rattle.inp_bits.specs.Bits.{word_bits}
use Rattle.inp_joy.proofs.Lists.{word-set}
use Rattle.inp_joy.proofs.picture.with_button.Goals as goal

-- the word is written to bits, one of them is set, and the word is read back
pub returns : goal.returns
unfolding word_bits
returns c =
    word-set (word_bits c.args.buttons) c.new-bits.result c.set_word.new.self c.set.new.self
    (word_bits c.word.result) c.args.number c.args.down
    (ap length c.new-bits.ensures.all_false) refl c.set_word.ensures.written
    (rw (c.set.ensures.written, c.from.ensures)) c.word.ensures.value
