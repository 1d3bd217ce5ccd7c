use Rattle.std.proofs.Common.{◌≡◌, ◌≤◌, length, take}
use Rattle.inp_model.specs.Reply.{written}
use Rattle.inp_client.specs.Locations.{clients_in}
use Rattle.inp_client.proofs.ReadableClients.{readable_of}
use Rattle.inp_client.proofs.readable.write_readable.Given as goal

-- those of the clients before the index were written, as many as fit
abbrev pub invariant-loop-location : goal.invariant-loop-location
invariant-loop-location l = record {
  count : l.count ≡ length (readable_of l.store (take l.location-index (clients_in l.locations l.slab)));
  few : l.count ≤ l.location-index;
  written : l.numbers ≡ written
      (take (length l.initial.numbers)
      (readable_of l.store (take l.location-index (clients_in l.locations l.slab)))) l.initial.numbers;
}
