use Rattle.std.proofs.Common.{ap, sym, refl, Some}
use Rattle.inp_c.proofs.loaded_streams.load_in.Goals as goal

-- the stream that the line takes has the events that were loaded, and is marked as loaded
pub returns-in-Ok-clause-made : goal.returns-in-Ok-clause-made
returns-in-Ok-clause-made c = λ _. record {
  old = c.in-Record.record;
  new = record { recorded = c.load.new.parsed; loaded = c.mark.new.loaded; text = c.in-Record.record.text };
  index = c.in-Some.index;
  stamps = c.in-Ok.ensures.loaded.0;
  was = ap Some c.in-Record.is;
  is = refl;
  takes = sym c.in-Some.ensures.index;
  events = c.in-Ok.ensures.loaded.1;
  recorded = c.in-Ok.ensures.loaded.2;
  marked = c.mark.ensures;
  text = refl;
}
