use Rattle.std.proofs.Common.{◌≡◌, ◌+◌, sym, ◌∙◌, arith}
use Rattle.std.proofs.lemmas.List.Edits.{length-remove}
use Rattle.inp_client.proofs.Locations.{has_client-clients_in, key_in_slab, located_after_removal}
use Rattle.inp_client.proofs.Locations.{index_is_some, index_is}
use Rattle.inp_client.proofs.OneClient.{call_open}
use Rattle.inp_client.proofs.OpenClose.{close_held, close_cells, stored_close, idle_close, counted_close}
use Rattle.inp_client.proofs.OpenClose.{list_close, rings_close, named_close, within_close, removed_at}
use Rattle.inp_client.proofs.clients.Clients.close.Goals as goal

pub unwrap-index-requires : goal.unwrap-index-requires
unwrap-index-requires c =
    let found = rw c.deref.ensures.value at c.index_of.ensures.found in
    let none = rw c.deref.ensures.value at c.index_of.ensures.none in
    index_is_some c.self.inside.locations.items c.args.number c.index_of.result found none
    ∙ sym (has_client-clients_in c.self.invariant.located c.args.number)
    ∙ call_open c.self.inside c.args.number c.args.self.now c.self.view_is c.requires.«open»

pub remove-client-requires : goal.remove-client-requires
remove-client-requires c =
    let found = rw c.deref.ensures.value at c.index_of.ensures.found in
    let index = index_is _ c.args.number _ _ found c.unwrap-index.ensures in
    rw c.remove-location.ensures.value
    (key_in_slab c.self.invariant.located c.unwrap-index.result c.remove-location.result index.within)

pub clear-requires : goal.clear-requires
clear-requires c =
    let found = rw c.deref.ensures.value at c.index_of.ensures.found in
    let index = index_is _ c.args.number _ _ found c.unwrap-index.ensures in
    record {
      held =
          close_held c.self.invariant
          (removed_at index c.remove-location.ensures.value c.remove-client.ensures.value);
    }

pub overflow_sub-self : goal.overflow_sub-self
overflow_sub-self c =
    let found = rw c.deref.ensures.value at c.index_of.ensures.found in
    let index = index_is _ c.args.number _ _ found c.unwrap-index.ensures in
    omega (
      arith,
      c.places.ensures.places,
      c.clear.ensures.cleared.places,
      close_cells c.self.invariant
          (removed_at index c.remove-location.ensures.value c.remove-client.ensures.value),
    )

-- the client went with its location, its numbers and what its ring wanted, and nothing else did
pub invariant_of-self : goal.invariant_of-self
invariant_of-self c =
    let found = rw c.deref.ensures.value at c.index_of.ensures.found in
    let index = index_is _ c.args.number _ _ found c.unwrap-index.ensures in
    let at = removed_at index c.remove-location.ensures.value c.remove-client.ensures.value in
    let places : c.places.result + 1 ≡ c.remove-client.result.ring.places + 1 =
    rw (c.places.ensures.places, c.clear.ensures.cleared.places) in
    record {
      located =
          rw c.remove-location.ensures.items
          (located_after_removal c.self.invariant.located at c.remove-client.ensures.updates
          c.remove-client.ensures.len);
      few =
          rw c.remove-location.ensures.items
          (omega (
            arith,
            length-remove c.self.inside.locations.items c.unwrap-index.result index.within,
            c.self.invariant.few,
          ));
      slab_room = rw c.remove-client.ensures.capacity c.self.invariant.slab_room;
      location_room = rw c.remove-location.ensures.capacity c.self.invariant.location_room;
      stored =
          rw c.remove-location.ensures.items
          (stored_close c.self.invariant at c.remove-client.ensures.updates c.clear.ensures.cleared
          c.clear.ensures.none);
      none_idle =
          idle_close c.self.invariant at c.remove-client.ensures.updates c.clear.ensures.cleared
          c.clear.ensures.none;
      counted =
          rw (c.remove-location.ensures.items, places)
          (counted_close c.self.invariant at c.remove-client.ensures.updates c.clear.ensures.cleared
          c.clear.ensures.none);
    }

-- the client is left out with its ring, and the others stay
pub returns : goal.returns
returns c =
    let found = rw c.deref.ensures.value at c.index_of.ensures.found in
    let index = index_is _ c.args.number _ _ found c.unwrap-index.ensures in
    let at = removed_at index c.remove-location.ensures.value c.remove-client.ensures.value in
    record {
      closed =
          rw (c.remove-location.ensures.items, ← c.self.view_is, ← index.numbered c.remove-location.result)
          (list_close c.self.invariant at c.remove-client.ensures.updates c.clear.ensures.cleared
          c.clear.ensures.none);
      rings = rw (c.remove-location.ensures.items, ← c.self.view_is) (record {
        index = c.unwrap-index.result;
        within = within_close c.self.invariant at;
        named = named_close c.self.invariant at c.args.number (index.numbered c.remove-location.result);
        rings =
            rings_close c.self.invariant at c.remove-client.ensures.updates c.clear.ensures.cleared
            c.clear.ensures.none;
      });
    }
