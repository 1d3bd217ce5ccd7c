use Rattle.std.proofs.Common.{◌*◌, sym, ◌∙◌}
use Rattle.inp_model.specs.Past.{mask_bit}
use Rattle.inp_model.specs.Reply.{bitmap_word}
use Rattle.inp_device.proofs.QueryAnswers.{told_none, told_mask}
use Rattle.inp_device.proofs.present.Present.mask.Goals as goal

-- the client is not open, so no word is told
pub returns-then-not-is_open : goal.returns-then-not-is_open
returns-then-not-is_open c = record {
  mask = λ d past stands.
      told_none stands c.args.client
      (bitmap_word (mask_bit past c.args.client c.args.kind) (64 * c.args.word)) (sym c.is_open.ensures.«open»
      ∙ c.if-not-is_open.true);
}

-- the client is open, and the word of its mask is told
pub returns : goal.returns
returns c = record {
  mask = λ d past stands. told_mask stands c.args.client (sym c.is_open.ensures.«open»
      ∙ c.if-not-is_open.false) c.args.kind c.args.word c.mask_word.result
      c.requires.kind c.requires.word c.mask_word.type_inv c.mask_word.ensures.word;
}
