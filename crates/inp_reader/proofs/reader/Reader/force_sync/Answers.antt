use Rattle.std.proofs.Common.{length, ap, arith}
use Rattle.inp_reader.specs.declared.asker.Asker.{Asker}
use Rattle.inp_reader.proofs.reader.Reader.force_sync.Goals as goal

-- the view, the queue, the asker and the room stay as they were
pub invariant_of-self : goal.invariant_of-self
invariant_of-self c =
    let was = c.self.invariant in
    record {
      view = rw c.force_sync.ensures.view was.view;
      asked = rw c.force_sync.ensures.asker was.asked;
      cells = rw c.force_sync.ensures.asker was.cells;
      few = omega (arith, was.few, ap (λ (a : Asker). length a.made) c.force_sync.ensures.asker);
      slots = was.slots;
      room = omega (arith, was.room, c.force_sync.ensures.room);
      spare = rw c.force_sync.ensures.reading (record { view = was.spare.view; queue = was.spare.queue });
      described = was.described;
    }
