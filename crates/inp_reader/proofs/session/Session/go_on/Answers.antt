use Rattle.inp_reader.specs.Session.{reading_of}
use Rattle.inp_reader.proofs.NextWalk.{handing-made}
use Rattle.inp_reader.proofs.TalksOfSessions.{says-still}
use Rattle.inp_reader.proofs.session.Session.go_on.Goals as goal

pub returns-in-Sync-clause-says : goal.returns-in-Sync-clause-says
returns-in-Sync-clause-says g c =
    says-still (rw c.hand_synthesised.ensures.asker)
    (rw (
      handing-made c.args.caps.now c.args.mode (reading_of c.args.self.now) c.in-Sync.is,
      ← c.hand_synthesised.ensures.handed,
    ))
