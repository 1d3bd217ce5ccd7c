use Rattle.std.proofs.Common.{reverse, refl, sym, subst}
use Rattle.inp_model.specs.Raw.{raw}
use Rattle.inp_slots.specs.Slots.{SlotsStandFor}
use Rattle.inp_model.specs.Reply.{column}
use Rattle.inp_device.proofs.StepParts.{called, cells_at, slots_kept, clients_same, holder_same}
use Rattle.inp_device.proofs.Growth.{stored_kept}
use Rattle.inp_device.proofs.present.Present.get_slots.Goals as goal

pub write_column-requires-clause-count : goal.write_column-requires-clause-count
write_column-requires-clause-count c =
    rw (slots_kept c.requires.ready c.slots-count.ensures.slots, ← c.slots.ensures.slots)

-- the axis's value of each slot is written to the caller's buffer, and no client changes
pub returns : goal.returns
returns c =
    let ready = c.requires.ready in
    let d = c.args.self.now.caps in
    let items = raw d (reverse c.args.history.now) in
    record {
      made = record {
        replied =
            cells_at ready (column d items c.args.code) c.tell_cells.ensures.told c.slots-count.ensures.slots;
        out_written = refl;
        cells_written = c.write_column.ensures.written d items
            (subst (SlotsStandFor d items) (sym c.slots.ensures.slots) ready.stands.core.raw_events.slots);
        stands = called ready refl refl refl refl refl refl refl refl (clients_same ready refl)
            (holder_same ready refl);
      };
      stored = stored_kept c.args.self.now.handler.clients _;
    }
