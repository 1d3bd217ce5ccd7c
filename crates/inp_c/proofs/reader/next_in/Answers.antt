use Rattle.std.proofs.Common.{ap, sym, refl, Some}
use Rattle.inp_c.proofs.reader.next_in.Goals as goal

-- the kept device's reader made the `next` of the mode that C gave
pub returns-clause-made : goal.returns-clause-made
returns-clause-made c = λ _. record {
  old = c.in-Device.device;
  new = c.next-next.new.self;
  mode = c.in-Some.mode;
  answer = c.next-next.result;
  was = ap Some c.in-Device.is;
  is = refl;
  reads = sym c.in-Some.ensures;
  went_on = c.next-next.ensures;
  event_is = c.next_event.ensures;
  told_is = c.next_number.ensures;
}
