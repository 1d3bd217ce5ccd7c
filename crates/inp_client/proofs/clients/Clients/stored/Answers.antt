use Rattle.std.proofs.Common.{ap, ◌∙◌}
use Rattle.inp_client.specs.Numbers.{stored_of}
use Rattle.inp_client.proofs.Stored.{stored_exactly, stored_least, stored_most, stored_places}
use Rattle.inp_client.proofs.clients.Clients.stored.Goals as goal

-- each number of a ring has its cell, and each cell is in some ring
pub returns-clause-stored : goal.returns-clause-stored
returns-clause-stored c =
    c.count.ensures.count ∙ stored_exactly c.self.inside c.self.invariant ∙ ap stored_of c.self.view_is

-- no ring has a number twice, so it has no more of them than there are cells
pub returns-clause-least : goal.returns-clause-least
returns-clause-least c =
    rw (← c.self.view_is, c.count.ensures.count) (stored_least c.self.inside c.self.invariant)

-- each cell is in some ring, so all rings have no fewer numbers than there are cells
pub returns-clause-most : goal.returns-clause-most
returns-clause-most c =
    rw (← c.self.view_is, c.count.ensures.count) (stored_most c.self.inside c.self.invariant)

-- events of different places are different cells
pub returns-clause-places : goal.returns-clause-places
returns-clause-places c =
    rw (← c.self.view_is, c.count.ensures.count) (stored_places c.self.inside c.self.invariant)
