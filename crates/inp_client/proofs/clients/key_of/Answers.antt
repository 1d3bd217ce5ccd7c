use Rattle.std.proofs.Common.{sym, ◌∙◌}
use Rattle.inp_client.proofs.Locations.{has_client-clients_in, key_in_slab, index_is_some, index_is}
use Rattle.inp_client.proofs.Locations.{location_at_index}
use Rattle.inp_client.proofs.clients.key_of.Goals as goal

-- the client is open, so it has a location, which the search finds
pub unwrap-requires : goal.unwrap-requires
unwrap-requires c =
    index_is_some c.args.locations.now c.args.number c.index_of.result c.index_of.ensures.found
    c.index_of.ensures.none
    ∙ sym (has_client-clients_in c.requires.located c.args.number) ∙ c.requires.«open»

pub returns-clause-location : goal.returns-clause-location
returns-clause-location c =
    let index = index_is _ c.args.number _ _ c.index_of.ensures.found c.unwrap.ensures in
    location_at_index c.args.locations.now c.args.number c.unwrap.result
    (record { number = 0; key = 0 }) index

pub returns-clause-there : goal.returns-clause-there
returns-clause-there c =
    let index = index_is _ c.args.number _ _ c.index_of.ensures.found c.unwrap.ensures in
    key_in_slab c.requires.located c.unwrap.result (record { number = 0; key = 0 }) index.within
