use Rattle.inp_ring.proofs.Rings.{lost_push}
use Rattle.inp_ring.proofs.ring.Ring.enter.Goals as goal

pub returns-clause-lost : goal.returns-clause-lost
returns-clause-lost c =
    lost_push c.args.number c.make_room.new.store c.args.self.now c.make_room.new.self c.append.new.self
    c.make_room.ensures.lost (rw c.append.ensures.appended)
