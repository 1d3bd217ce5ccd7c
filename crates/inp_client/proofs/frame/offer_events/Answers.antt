use Rattle.inp_client.proofs.Offers.{offered_more, all_offered}
use Rattle.inp_client.proofs.frame.offer_events.Goals as goal

-- the next event was offered, and the others are still to come
pub loop-event-preserved : goal.loop-event-preserved
loop-event-preserved c = offered_more c.loop-event.invariant _ c.loop-event-test.true c.offer_cell.ensures

-- no event of the frame is left
pub returns : goal.returns
returns c = all_offered c.loop-event.invariant c.loop-event-test.false
