use Rattle.inp_device.proofs.Stored.{stored_least, stored_most, stored_places, stored_none}
use Rattle.inp_device.proofs.device.Device.stored.Goals as goal

-- each client's queue is kept as a whole, so none is longer than what is kept
pub returns-clause-least : goal.returns-clause-least
returns-clause-least c =
    rw (← c.self.view_is)
    (stored_least _ _ _ c.self.invariant.stands.handler c.stored.result
    (rw c.deref.ensures at c.stored.ensures.least))

-- each event that is kept is in some client's queue, so all queues have as many at least
pub returns-clause-most : goal.returns-clause-most
returns-clause-most c =
    rw (← c.self.view_is)
    (stored_most _ _ _ c.self.invariant.stands.handler c.stored.result
    (rw c.deref.ensures at c.stored.ensures.most))

-- nothing is kept where each open client's queue is empty, and there alone
pub returns-clause-none : goal.returns-clause-none
returns-clause-none c =
    let stands = c.self.invariant.stands.handler in
    let n = c.stored.result in
    rw (← c.self.view_is)
    (stored_none _ _ _ stands n (stored_least _ _ _ stands n (rw c.deref.ensures at c.stored.ensures.least))
    (stored_most _ _ _ stands n (rw c.deref.ensures at c.stored.ensures.most)))

-- events of different steps are different cells, so there are no more such steps
pub returns-clause-places : goal.returns-clause-places
returns-clause-places c =
    rw (← c.self.view_is)
    (stored_places _ _ _ c.self.invariant.stands.handler c.stored.result
    (rw c.deref.ensures at c.stored.ensures.places))
