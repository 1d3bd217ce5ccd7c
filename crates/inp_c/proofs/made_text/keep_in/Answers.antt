use Rattle.std.proofs.Common.{ap, refl, arith, Some}
use Rattle.inp_c.proofs.made_text.keep_in.Goals as goal

-- the text that was made of the record is kept with it, and the record stays
pub returns-in-Ok-clause-made : goal.returns-in-Ok-clause-made
returns-in-Ok-clause-made c = λ _. record {
  old = c.in-Record.record;
  new = record { recorded = c.text_of.new.recorded; loaded = c.in-Record.record.loaded; text = c.in-Ok.text };
  kept = record {
    was = ap Some c.in-Record.is;
    is = refl;
    recorded = c.in-Ok.ensures.stays;
    loaded = refl;
    len_is = omega (arith, c.len.ensures, c.in-Ok.text.ok);
  };
  text = c.in-Ok.ensures.text;
}
