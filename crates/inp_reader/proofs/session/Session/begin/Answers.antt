use Rattle.std.proofs.Common.{sym}
use Rattle.inp_reader.specs.declared.phase.Phase.TheVariants.{Plain, Needed}
use Rattle.inp_reader.specs.declared.started.Started.TheVariants.{Opened as StartedOn}
use Rattle.std.specs.Prelude.{Ok, Err}
use Rattle.inp_reader.specs.Reader.{queries}
use Rattle.inp_reader.specs.Session.{reading_of}
use Rattle.inp_reader.proofs.TalksOfSessions.{says-view, says-begun}
use Rattle.inp_reader.proofs.session.Session.begin.Goals as goal

-- a query was refused: the view stays, and the next call synchronises
pub returns-in-Some-clause-says : goal.returns-in-Some-clause-says
returns-in-Some-clause-says g c =
    says-begun (queries c.args.caps.now c.args.client) c.args.client c.args.ring
    (reading_of c.args.self.now) (Err c.in-Some.reply) _
    (says-view
    (queries c.args.caps.now c.args.client) c.copy_from.new.self c.args.self.now.view _
    c.copy_from.ensures.view c.in-Some.ensures.says)
    (λ i. (
      sym c.start_stop_of.ensures i,
      record {
        client = c.args.client;
        queue = sym c.clear.ensures i;
        view = c.args.self.now.view;
        phase = Needed;
        left = sym c.clear-2.ensures.none i;
      },
    ))

-- all queries were accepted: the view is what they told
pub returns-in-None-clause-says : goal.returns-in-None-clause-says
returns-in-None-clause-says g c =
    says-begun (queries c.args.caps.now c.args.client) c.args.client c.args.ring
    (reading_of c.args.self.now) (Ok c.query_all.new.self.view) _
    (says-view
    (queries c.args.caps.now c.args.client) c.copy_from.new.self c.args.self.now.view _
    c.copy_from.ensures.view c.in-None.ensures.says)
    (λ i. (
      StartedOn c.args.client c.args.ring,
      record {
        client = c.args.client;
        queue = sym c.clear.ensures i;
        view = sym c.copy_from-in-None.ensures.view i;
        phase = Plain;
        left = sym c.clear-2.ensures.none i;
      },
    ))
