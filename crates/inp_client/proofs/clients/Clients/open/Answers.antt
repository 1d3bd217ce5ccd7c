use Rattle.std.proofs.Common.{refl, arith}
use Rattle.std.proofs.lemmas.List.Edits.{length-insert}
use Rattle.inp_client.specs.Client.{new_client}
use Rattle.inp_client.proofs.Locations.{located_after_insert}
use Rattle.inp_client.proofs.OneClient.{call_closed}
use Rattle.inp_client.proofs.OpenClose.{new_ring, cells_few, stored_open, idle_open, counted_open, list_open}
use Rattle.inp_client.proofs.OpenClose.{numbers_open}
use Rattle.inp_client.proofs.clients.Clients.open.Goals as goal

pub overflow_add-cells : goal.overflow_add-cells
overflow_add-cells c = omega (arith, cells_few c.self.inside c.self.invariant, c.requires.ring.1)

pub overflow_add-cells-2 : goal.overflow_add-cells-2
overflow_add-cells-2 c = omega (arith, cells_few c.self.inside c.self.invariant, c.requires.ring.1)

pub invariant_of-self-2 : goal.invariant_of-self-2
invariant_of-self-2 c =
    let client = new_client c.args.number c.args.ring in
    let k = c.self.inside in
    let vacant = c.insert_reserved-key.ensures.was_vacant in
    let place = rw c.deref.ensures.value at c.place_for-place.ensures.place in
    let items = rw c.unwrap.ensures at c.insert.ensures.items in
    let updates = rw c.in_ok-client.ensures.new at c.insert_reserved-key.ensures.updates in
    record {
      located =
          rw items (located_after_insert c.self.invariant.located {new = client} vacant updates place
          (call_closed k c.args.number c.args.self.now c.self.view_is c.requires.unused)
          c.insert_reserved-key.ensures.len);
      few =
          rw items
          (omega (
            arith,
            length-insert k.locations.items c.place_for-place.result
                (record { number = c.args.number; key = c.insert_reserved-key.result }) place.within,
            c.self.invariant.few,
          ));
      slab_room = rw c.insert_reserved-key.ensures.capacity c.self.invariant.slab_room;
      location_room = omega (arith, c.insert.ensures.capacity, c.self.invariant.location_room);
      stored =
          rw items
          (stored_open c.self.invariant {new =
          client} vacant updates place c.grow.new.self c.grow.ensures.cells
          (omega (arith, c.in_ok-grow.ensures.room)) refl
          (new_ring c.args.number c.args.ring c.requires.ring.0 c.requires.ring.1));
      none_idle =
          idle_open c.self.invariant {new = client} vacant updates place c.grow.new.self c.grow.ensures.cells;
      counted = rw items (counted_open c.self.invariant {new = client} vacant updates place);
    }

-- the client came in behind those with lower numbers, and the others stay
pub returns-clause-ok : goal.returns-clause-ok
returns-clause-ok c =
    let place = rw c.deref.ensures.value at c.place_for-place.ensures.place in
    let items = rw c.unwrap.ensures at c.insert.ensures.items in
    let updates = rw c.in_ok-client.ensures.new at c.insert_reserved-key.ensures.updates in
    rw (items, ← c.self.view_is)
    (list_open c.self.invariant {new =
    new_client c.args.number c.args.ring} c.insert_reserved-key.ensures.was_vacant updates place
    c.grow.new.self c.grow.ensures.cells)

-- the ring of the new client is empty
pub returns-clause-numbers : goal.returns-clause-numbers
returns-clause-numbers c =
    let place = rw c.deref.ensures.value at c.place_for-place.ensures.place in
    let items = rw c.unwrap.ensures at c.insert.ensures.items in
    let updates = rw c.in_ok-client.ensures.new at c.insert_reserved-key.ensures.updates in
    rw (items, ← c.self.view_is)
    (numbers_open c.self.invariant {new =
    new_client c.args.number c.args.ring} c.insert_reserved-key.ensures.was_vacant updates place refl)
