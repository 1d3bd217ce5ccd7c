use Rattle.std.proofs.Common.{refl}
use Rattle.inp_reader.specs.Session.{reading_of}
use Rattle.inp_reader.proofs.NextWalk.{plain-synced}
use Rattle.inp_reader.proofs.TalksOfSessions.{says-still}
use Rattle.inp_reader.proofs.session.Session.next.Goals as goal

pub returns-in-Plain-Sync-clause-says : goal.returns-in-Plain-Sync-clause-says
returns-in-Plain-Sync-clause-says g c =
    says-still refl
    (plain-synced c.args.caps.now c.args.mode
    (reading_of c.args.self.now) c.in-Plain-Sync.is-0 c.in-Plain-Sync.is-1)
