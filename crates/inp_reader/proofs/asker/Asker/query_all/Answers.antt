use Rattle.std.proofs.Common.{sym, ◌∙◌, ◌++◌}
use Rattle.inp_model.specs.declared.step.Step.TheVariants.{SyncSlots}
use Rattle.inp_reader.specs.Reader.{queries, bit_queries, axis_queries, plain_axes, slot_queries}
use Rattle.inp_reader.proofs.TalksInTurn.{says-stop-if, says-go-on, says-only_if}
use Rattle.inp_reader.proofs.asker.Asker.query_all.Goals as goal

-- stopped at keys, LEDs or switches, it asks for no axis and no slot
pub returns-then-is_some-clause-says : goal.returns-then-is_some-clause-says
unfolding queries
returns-then-is_some-clause-says g c =
    let d = c.args.caps.now in
    let bits = bit_queries d c.args.client in
    let axes = axis_queries c.args.client (plain_axes d) in
    let view = c.args.self.now.view in
    let stopped = sym c.is_some.ensures ∙ c.if-is_some.true in
    says-stop-if (bits ++ axes)
    (slot_queries d c.args.client) view c.query_bits-stop.new.self.view c.query_bits-stop.result stopped
    (says-stop-if bits axes view c.query_bits-stop.new.self.view c.query_bits-stop.result stopped
    c.query_bits-stop.ensures.says)

-- stopped at an axis, it does not ask for the slots
pub returns-then-is_some-2-clause-says : goal.returns-then-is_some-2-clause-says
unfolding queries
returns-then-is_some-2-clause-says g c =
    let d = c.args.caps.now in
    let bits = bit_queries d c.args.client in
    let axes = axis_queries c.args.client (plain_axes d) in
    let view = c.args.self.now.view in
    says-stop-if (bits ++ axes) (slot_queries d c.args.client) view c.query_plain_axes-stop.new.self.view
    c.query_plain_axes-stop.result (sym c.is_some-2.ensures ∙ c.if-is_some-2.true)
    (says-go-on bits axes view c.query_bits-stop.new.self.view c.query_bits-stop.result _
    (sym c.is_some.ensures ∙ c.if-is_some.false) c.query_bits-stop.ensures.says
    c.query_plain_axes-stop.ensures.says)

-- keys, LEDs and switches, then the axes, and last the slots, where the device has any
pub returns-clause-says : goal.returns-clause-says
unfolding queries
returns-clause-says g c =
    let d = c.args.caps.now in
    let bits = bit_queries d c.args.client in
    let axes = axis_queries c.args.client (plain_axes d) in
    let view = c.args.self.now.view in
    let last =
    says-only_if _ _ (SyncSlots c.args.client) c.query_plain_axes-stop.new.self.view _
    (rw c.slots-has_slots.ensures.slots) c.query_if.ensures.says in
    says-go-on (bits ++ axes) (slot_queries d c.args.client) view c.query_plain_axes-stop.new.self.view
    c.query_plain_axes-stop.result _ (sym c.is_some-2.ensures ∙ c.if-is_some-2.false)
    (says-go-on bits axes view c.query_bits-stop.new.self.view c.query_bits-stop.result _
    (sym c.is_some.ensures ∙ c.if-is_some.false) c.query_bits-stop.ensures.says
    c.query_plain_axes-stop.ensures.says)
    last
