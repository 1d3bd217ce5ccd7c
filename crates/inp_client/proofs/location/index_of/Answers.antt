use Rattle.std.proofs.Common.{rules}
use Rattle.std.proofs.lemmas.List.Sorted.{answers_always}
use Rattle.inp_client.proofs.Locations.{index_found, no_index}
use Rattle.inp_client.proofs.location.index_of.Goals as goal

-- a search that ends in a find ends at a location with the number
pub returns-clause-found : goal.returns-clause-found
returns-clause-found c =
    rw c.ok.ensures.value
    (index_found c.args.locations.now c.args.number c.binary_search_by_key.result
    c.binary_search_by_key.ensures.bound
    (c.binary_search_by_key.ensures.position (λ s. s.number)
    (answers_always _ _ _ (λ f a r g h. search rules))))

-- all numbers before the end of the search are lower, and all behind it are higher
pub returns-clause-none : goal.returns-clause-none
returns-clause-none c =
    rw c.ok.ensures.value
    (no_index c.args.locations.now c.args.number c.binary_search_by_key.result c.requires.ascending
    (c.binary_search_by_key.ensures.position (λ s. s.number)
    (answers_always _ _ _ (λ f a r g h. search rules))))
