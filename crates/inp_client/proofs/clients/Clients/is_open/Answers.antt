use Rattle.inp_client.specs.Locations.{clients_in}
use Rattle.inp_client.proofs.Locations.{has_client-clients_in, index_is_some}
use Rattle.inp_client.proofs.OneClient.{has_client-cells_in}
use Rattle.inp_client.proofs.clients.Clients.is_open.Goals as goal

-- a search for the number finds a location if the client is open, and only then
pub returns : goal.returns
returns c =
    let locations = c.self.inside.locations.items in
    let found = rw c.deref.ensures.value at c.index_of.ensures.found in
    let none = rw c.deref.ensures.value at c.index_of.ensures.none in
    record {
      «open» =
          rw (
            ← c.self.view_is,
            has_client-cells_in c.self.inside.store (clients_in locations c.self.inside.slab) c.args.number,
            has_client-clients_in c.self.invariant.located c.args.number,
            ← index_is_some locations c.args.number c.index_of.result found none,
            ← c.is_some.ensures,
          );
    }
