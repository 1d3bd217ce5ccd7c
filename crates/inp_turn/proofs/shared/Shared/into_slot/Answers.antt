use Rattle.std.specs.Mem.Slots.{slots_items}
use Rattle.inp_turn.proofs.shared.Shared.into_slot.Goals as goal

pub returns : goal.returns
returns g c = record {
  last = record {
    words = slots_items c.close_with-closed.result.words;
    slots = slots_items c.close_with-closed.result.slots;
    final = c.close_with-closed.ensures.values.2;
    slot = c.take-slot.ensures.value;
  };
}
