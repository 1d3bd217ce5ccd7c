use Rattle.std.proofs.Common.{ap, arith, length}
use Rattle.inp_reader.specs.Session.{reading_of}
use Rattle.inp_reader.proofs.StandsByCalls.{says-open_refused, says-query_refused, start-opens, start-stands}
use Rattle.inp_reader.proofs.TalksKeepSpare.{says-keeps_start}
use Rattle.inp_reader.proofs.Calls.{says-anew, says-left}
use Rattle.inp_reader.proofs.AgainCounts.{says-no_agains}
use Rattle.inp_reader.proofs.reader.Reader.start.Goals as goal

-- the kept calls were cleared first, so those kept now are all of the call's own
pub returns-clause-left : goal.returns-clause-left
returns-clause-left g c = says-left (says-anew c.clear.ensures.none c.start.ensures.says)

-- a start makes no read, so no call of it is answered Again
pub returns-clause-agains : goal.returns-clause-agains
returns-clause-agains g c =
    says-no_agains _ _ _ _ _ _ (rw (c.requires.description, ← c.self.view_is))
    (says-anew c.clear.ensures.none c.start.ensures.says)

-- the session keeps its sizes, and the view what its devices cannot have
pub invariant_of-self : goal.invariant_of-self
invariant_of-self g c = record {
  view = c.start.ensures.session.view;
  asked = c.start.ensures.session.asked;
  cells = c.start.ensures.session.cells;
  few = omega (arith, c.start.ensures.few, ap length c.clear.ensures.none);
  slots = c.start.ensures.session.slots;
  room = c.start.ensures.session.room;
  described = c.self.invariant.described;
  spare =
      says-keeps_start _ (reading_of c.self.inside.session)
      (rw (c.requires.description, ← c.self.view_is)) c.self.invariant.spare c.start.ensures.says;
}

pub returns-clause-opened : goal.returns-clause-opened
returns-clause-opened g c = λ opened alone.
    start-opens c.self.inside.caps (reading_of c.self.inside.session)
    (rw (c.requires.description, ← c.self.view_is)) c.self.invariant.spare
    (says-anew c.clear.ensures.none c.start.ensures.says) opened alone

-- a reader that stood stays with its client, or has a new one whose start is known
pub returns-clause-stands : goal.returns-clause-stands
returns-clause-stands g c = λ stood alone.
    start-stands c.self.inside.caps (reading_of c.self.inside.session)
    (rw (c.requires.description, ← c.self.view_is)) c.self.invariant.spare
    (says-anew c.clear.ensures.none c.start.ensures.says)
    (rw (← c.self.view_is) at stood) alone

pub returns-clause-open_refused : goal.returns-clause-open_refused
returns-clause-open_refused g c = λ none.
    rw (
      ← c.self.view_is,
      ← says-open_refused c.self.inside.caps (reading_of c.self.inside.session)
          (says-anew c.clear.ensures.none c.start.ensures.says) none,
    )

pub returns-clause-query_refused : goal.returns-clause-query_refused
returns-clause-query_refused g c = λ unopened.
    rw (← c.self.view_is)
    (says-query_refused c.self.inside.caps (reading_of c.self.inside.session)
    (says-anew c.clear.ensures.none c.start.ensures.says) unopened)
