use Rattle.std.proofs.Common.{ap, arith, length}
use Rattle.inp_reader.specs.Session.{reading_of}
use Rattle.inp_reader.proofs.TalksKeepSpare.{says-keeps_next}
use Rattle.inp_reader.proofs.StandsByCalls.{next-stands, next-shows}
use Rattle.inp_reader.proofs.Calls.{says-anew, says-left}
use Rattle.inp_reader.proofs.AgainCounts.{says-agains}
use Rattle.inp_reader.proofs.LessEffort.{says-less}
use Rattle.inp_reader.proofs.reader.Reader.next.Goals as goal

-- the kept calls were cleared first, so those kept now are all of the call's own
pub returns-clause-left : goal.returns-clause-left
returns-clause-left g c = says-left (says-anew c.clear.ensures.none c.next.ensures.says)

-- the read alone can be answered Again, and then `next` is
pub returns-clause-agains : goal.returns-clause-agains
returns-clause-agains g c =
    says-agains _ c.args.mode _ (rw (c.requires.description, ← c.self.view_is))
    (says-anew c.clear.ensures.none c.next.ensures.says)

-- the session keeps its sizes, and the view what its devices cannot have
pub invariant_of-self : goal.invariant_of-self
invariant_of-self g c = record {
  view = c.next.ensures.session.view;
  asked = c.next.ensures.session.asked;
  cells = c.next.ensures.session.cells;
  few = omega (arith, c.next.ensures.few, ap length c.clear.ensures.none);
  slots = c.next.ensures.session.slots;
  room = c.next.ensures.session.room;
  described = c.self.invariant.described;
  spare =
      says-keeps_next _ c.args.mode (reading_of c.self.inside.session)
      (rw (c.requires.description, ← c.self.view_is)) c.self.invariant.spare c.next.ensures.says;
}

-- the calls are those of the talk, and nobody else used the client
pub returns-clause-stands : goal.returns-clause-stands
returns-clause-stands g c = λ stood alone.
    next-stands c.self.inside.caps c.args.mode (reading_of c.self.inside.session)
    (rw (c.requires.description, ← c.self.view_is)) c.self.invariant.spare
    (says-anew c.clear.ensures.none c.next.ensures.says)
    (rw (← c.self.view_is) at stood) alone

-- the event answered is the last one that a reader in step handed out
pub returns-clause-shows : goal.returns-clause-shows
returns-clause-shows g c = λ stood alone.
    next-shows c.self.inside.caps c.args.mode (reading_of c.self.inside.session)
    (rw (c.requires.description, ← c.self.view_is)) c.self.invariant.spare
    (says-anew c.clear.ensures.none c.next.ensures.says)
    (rw (← c.self.view_is) at stood) alone c.self.invariant.described

-- each answer but Again takes an event or a step from what is left
pub returns-clause-less : goal.returns-clause-less
returns-clause-less g c = λ busy.
    rw (← c.self.view_is)
    (says-less c.self.inside.caps c.args.mode (reading_of c.self.inside.session)
    (rw (c.requires.description, ← c.self.view_is)) c.self.invariant.spare.view.sized c.next.ensures.says
    (rw (← c.self.view_is) at busy))
