use Rattle.std.proofs.Common.{◌≡◌, true, Option, Some, None, sym, ◌∙◌, arith}
use Rattle.std.specs.Option.{option_map}
use Rattle.inp_model.specs.declared.event.Event.{Event}
use Rattle.inp_ring.specs.declared.cell.Cell.{Cell}
use Rattle.inp_ring.specs.Store.{cell_in, event_of_cell}
use Rattle.inp_ring.specs.Ring.{some_cell, cell_at}
use Rattle.inp_client.specs.Masks.{admits_of}
use Rattle.inp_client.specs.Client.{is_offered_to}
use Rattle.inp_client.specs.Member.{Member, client_in}
use Rattle.inp_client.specs.Numbers.{takes_event}
use Rattle.inp_client.proofs.Numbers.{ring_stored}
use Rattle.inp_client.proofs.client.Client.enter.Goals as goal

event_there : (o : Option Cell) (e : Event) → option_map event_of_cell o ≡ Some e → (some_cell o).event ≡ e
event_there None e h = cc
event_there (Some cell) e h = cc

-- the client is offered the event and admits it, so the number is put into its ring
pub returns-clause-stored : goal.returns-clause-stored
returns-clause-stored c =
    let m : Member = c.args.self.now in
    let s = c.args.store.now in
    let there : (cell_at s c.args.number).event ≡ c.args.event =
    event_there (cell_in s c.args.number) c.args.event c.requires.event in
    let offered : is_offered_to c.args.holder m ≡ true =
    sym c.is_offered_to.ensures ∙ c.if-not-is_offered_to.false in
    let admitted : admits_of m.masks (cell_at s c.args.number).event ≡ true =
    rw (there, ← c.admits.ensures.admits) c.if-not-admits.false in
    let takes : takes_event (cell_at s c.args.number) c.args.holder (client_in s m) ≡ true =
    rw offered admitted in
    rw (← c.self.view_is)
    (ring_stored c.args.number c.args.holder s c.enter-is_in.new.store _ _
    (omega (arith, c.sound.ensures.sound.least, c.enter-is_in.ensures.places))
    (rw (← c.self.view_is) at takes) c.enter-is_in.ensures.put c.enter-is_in.ensures.lost)
