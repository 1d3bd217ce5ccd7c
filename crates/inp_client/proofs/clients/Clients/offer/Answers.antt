use Rattle.std.proofs.Common.{arith}
use Rattle.std.proofs.lemmas.Grind.{common_steps}
use Rattle.inp_client.proofs.RingsLeft.{stored_after_offer, once_none}
use Rattle.inp_client.proofs.clients.Clients.offer.Goals as goal

pub returns-then-is_empty-clause-once : goal.returns-then-is_empty-clause-once
returns-then-is_empty-clause-once c =
    rw (← c.self.view_is)
    (once_none c.args.frame.now c.args.now c.args.place c.args.holder c.self.inside
    (grind (arith, common_steps)))

pub returns-in-Some-clause-once : goal.returns-in-Some-clause-once
returns-in-Some-clause-once c =
    rw (← c.self.view_is) (rw c.as_slice-locations.ensures.value at c.offer_run.ensures).once

pub returns-in-Some-clause-stored : goal.returns-in-Some-clause-stored
returns-in-Some-clause-stored c =
    rw (← c.self.view_is)
    (stored_after_offer c.self.inside c.offer_run.new.slab c.offer_run.new.store
    (rw c.as_slice-locations.ensures.value at c.offer_run.ensures))

pub returns-in-Some-2-clause-once : goal.returns-in-Some-2-clause-once
returns-in-Some-2-clause-once c =
    rw (← c.self.view_is) (rw c.as_slice-locations.ensures.value at c.offer_run-in-Some-2.ensures).once

pub returns-in-Some-2-clause-stored : goal.returns-in-Some-2-clause-stored
returns-in-Some-2-clause-stored c =
    rw (← c.self.view_is)
    (stored_after_offer c.self.inside c.offer_run-in-Some-2.new.slab c.offer_run-in-Some-2.new.store
    (rw c.as_slice-locations.ensures.value at c.offer_run-in-Some-2.ensures))

pub returns-in-None-clause-once : goal.returns-in-None-clause-once
returns-in-None-clause-once c =
    rw (← c.self.view_is) (rw c.as_slice-locations.ensures.value at c.offer_events.ensures).once

pub returns-in-None-clause-stored : goal.returns-in-None-clause-stored
returns-in-None-clause-stored c =
    rw (← c.self.view_is)
    (stored_after_offer c.self.inside c.offer_events.new.slab c.offer_events.new.store
    (rw c.as_slice-locations.ensures.value at c.offer_events.ensures))
