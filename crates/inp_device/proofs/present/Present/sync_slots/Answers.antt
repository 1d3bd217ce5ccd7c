use Rattle.std.proofs.Common.{reverse, refl, sym, subst}
use Rattle.inp_model.specs.Raw.{raw}
use Rattle.inp_slots.specs.Slots.{SlotsStandFor}
use Rattle.inp_model.specs.Reply.{rows}
use Rattle.inp_model.specs.Step.{Slots}
use Rattle.inp_client.proofs.OnClock.{on_flush}
use Rattle.inp_device.proofs.Calls.{clients_after-query}
use Rattle.inp_device.proofs.StepParts.{clients_called, named_there, called, cells_at, slots_kept}
use Rattle.inp_device.proofs.StepParts.{holder_same}
use Rattle.inp_device.proofs.Growth.{stored_flushed}
use Rattle.inp_device.proofs.present.Present.sync_slots.Goals as goal

-- an allowed step names a client that is open
pub flush_slots-requires : goal.flush_slots-requires
flush_slots-requires c = record { «open» = named_there c.requires.ready refl }

pub write_rows-requires-clause-count : goal.write_rows-requires-clause-count
write_rows-requires-clause-count c =
    rw (slots_kept c.requires.ready c.slots-count.ensures.slots, ← c.slots.ensures.slots)

-- all values of all slots are written, and the client's events of slots are flushed
pub returns : goal.returns
returns c =
    let ready = c.requires.ready in
    let d = c.args.self.now.caps in
    let items = raw d (reverse c.args.history.now) in
    record {
      made = record {
        replied = cells_at ready (rows d items) c.tell_cells.ensures.told
            (rw c.slots-count.ensures.slots);
        out_written = refl;
        cells_written = c.write_rows.ensures.written d items
            (subst (SlotsStandFor d items) (sym c.slots.ensures.slots) ready.stands.core.raw_events.slots);
        stands = called ready refl refl refl refl refl refl refl refl
            (clients_called ready c.args.client _ _ (on_flush d Slots) c.flush_slots.ensures.flushed
            (clients_after-query d _ _ c.args.client Slots refl refl))
            (holder_same ready refl);
      };
      stored =
          stored_flushed c.args.self.now.handler.clients c.flush_slots.new.self _ c.flush_slots.ensures.rings;
    }
