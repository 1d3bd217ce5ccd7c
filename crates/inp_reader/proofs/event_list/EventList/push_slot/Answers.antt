use Rattle.std.proofs.Common.{◌≡◌, ◌≤◌, ◌∙◌, arith, ℕ, Bool}
use Rattle.inp_model.specs.declared.event.Event.{Event}
use Rattle.inp_reader.specs.Synthesis.{cell_event, cells_differ}
use Rattle.inp_reader.proofs.SynthesisedEvents.{events-next}
use Rattle.inp_reader.proofs.event_list.EventList.push_slot.Goals as goal

-- the next code adds its event where the slot's value differs
pub loop-code-preserved : goal.loop-code-preserved
loop-code-preserved c =
    let old = c.args.old.now.cells in
    let new = c.args.new.now.cells in
    let f : ℕ → Event = cell_event new c.args.slot in
    let test : ℕ → Bool = cells_differ old new c.args.slot in
    let from : 48 ≤ c.loop-code.code = omega arith in
    let is : c.values_differ-wanted.result ≡ test c.loop-code.code =
    rw (c.values_differ-wanted.ensures, c.cell_event.ensures, c.cell_event-event.ensures) in
    record {
      pushed =
          events-next f test 48 c.loop-code.code _ from c.push_if.ensures.pushed c.loop-code.invariant.pushed
          is c.cell_event-event.ensures;
      room = c.push_if.ensures.room ∙ c.loop-code.invariant.room;
      few = omega (arith, c.push_if.ensures.few, c.loop-code.invariant.few, from);
    }

-- behind the last code all changes of the slot were added
pub returns-clause-pushed : goal.returns-clause-pushed
returns-clause-pushed c =
    let old = c.args.old.now.cells in
    let new = c.args.new.now.cells in
    let all : c.loop-code.code ≡ 62 = omega (arith, c.loop-code-test.false, c.loop-code.auto.code-end) in
    rw (c.loop-code.invariant.pushed, all)
