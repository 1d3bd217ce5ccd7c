-- What holds of clients as they are kept.
use Rattle.std.specs.Prelude.{◌≡◌, ◌≤◌, ℕ, length, vec_capacity}
use Rattle.inp_model.specs.declared.limits.TheConstants.{CLIENTS_MAX}
use Rattle.inp_ring.specs.Store.{IsIdle}
use Rattle.inp_client.specs.declared.clients.Clients.TheInside.{Inside}
use Rattle.inp_client.specs.Clients.{ClientsView}
use Rattle.inp_client.specs.Member.{clients_view_in, wanted, AreStored}
use Rattle.inp_client.specs.Locations.{clients_in, AreLocated}

-- the clients in their locations, with the cells of the store
abbrev pub kept_view : Inside → ClientsView
kept_view c = clients_view_in c.store (clients_in c.locations.items c.slab)

-- Each client has its location, there are at most as many as may be, and there is room for so many. The store has their
-- cells and no other, and room for as many as their rings can hold and one more for each.
pub record AreKept (c : Inside) : Type 0 where
  pub located : AreLocated c.locations.items c.slab
  pub few : length c.locations.items ≤ CLIENTS_MAX
  pub slab_room : CLIENTS_MAX ≤ c.slab.capacity
  pub location_room : CLIENTS_MAX ≤ vec_capacity c.locations
  pub stored : AreStored c.store (clients_in c.locations.items c.slab) (λ n. 0)
  pub none_idle : (n : ℕ) → IsIdle c.store n → ⊥
  pub counted : c.cells ≡ wanted (clients_in c.locations.items c.slab)
