use Rattle.std.proofs.Common.{arith, ℕ, ◌/◌, refl, ap, sym, ◌≡◌, ◌++◌, [], List, length, length-append}
use Rattle.inp_model.specs.declared.event.Event.{Event}
use Rattle.inp_recon.specs.View.{view_after_events}
use Rattle.inp_reader.specs.Synthesis.{with_report, class_changes, slot_changes, lifts}
use Rattle.inp_reader.proofs.SynthesisedEvents.{IsFilled, length-with_report, group_behind, filled}
use Rattle.inp_reader.proofs.event_list.EventList.fill.Goals as goal

pub apply-requires-clause-within : goal.apply-requires-clause-within
apply-requires-clause-within c =
    let reported : c.push_report.new.self.events ≡ with_report c.push_lifts.new.self.events =
    c.push_report.ensures.reported [] c.push_lifts.new.self.events refl refl in
    omega (
      arith,
      c.len-ended.ensures,
      length-with_report c.push_lifts.new.self.events,
      ap length reported,
      ap length c.push_classes.ensures.pushed,
      length-append c.push_report.new.self.events (class_changes c.args.old.now c.args.new.now),
    )

pub returns-clause-synth : goal.returns-clause-synth
returns-clause-synth c =
    let old = c.args.old.now in
    let new = c.args.new.now in
    let w : IsFilled old new c.apply.new.view c.apply-2.new.view c.clear.new.self.events
    c.push_lifts.new.self.events c.push_report.new.self.events c.push_classes.new.self.events
    c.push_cells.new.self.events c.push_to_slot.new.self.events c.len-ended.result c.len-start.result
    c.len-first.result c.len-end.result = record {
      none = c.clear.ensures.none;
      lifted = c.push_lifts.ensures.pushed;
      is_ended = c.len-ended.ensures;
      reported = c.push_report.ensures.reported [] c.push_lifts.new.self.events refl refl;
      is_start = c.len-start.ensures;
      classes = c.push_classes.ensures.pushed;
      applied = c.apply.ensures.taken;
      is_first = c.len-first.ensures;
      cells = c.push_cells.ensures.pushed;
      is_end = c.len-end.ensures;
      applied_again = c.apply-2.ensures.taken;
      slot = rw (c.push_to_slot.ensures.pushed, c.event_of_current.ensures, c.event_of_current-2.ensures);
    } in
    let group : List Event =
    class_changes old new ++ slot_changes (view_after_events old (lifts old new)) new in
    filled w c.push_report-2.new.self.events
    (c.push_report-2.ensures.reported c.push_report.new.self.events group (group_behind w)
    (sym c.len-start.ensures))

pub push_cells-requires-clause-few : goal.push_cells-requires-clause-few
push_cells-requires-clause-few c =
    let reported : c.push_report.new.self.events ≡ with_report c.push_lifts.new.self.events =
    c.push_report.ensures.reported [] c.push_lifts.new.self.events refl refl in
    omega (
      arith,
      c.requires.room,
      ap length c.clear.ensures.none,
      c.clear.ensures.room,
      c.push_lifts.ensures.few,
      c.push_lifts.ensures.room,
      c.push_report.ensures.few,
      c.push_report.ensures.room,
      c.push_classes.ensures.few,
      c.push_classes.ensures.room,
      ap (λ (n : ℕ). n / 14) c.apply.ensures.cells,
    )

pub push_classes-requires : goal.push_classes-requires
push_classes-requires c = record {
  few =
      omega (
        arith,
        c.requires.room,
        ap length c.clear.ensures.none,
        c.clear.ensures.room,
        c.push_lifts.ensures.few,
        c.push_lifts.ensures.room,
        c.push_report.ensures.few,
        c.push_report.ensures.room,
      );
}
