use Rattle.std.proofs.Common.{arith}
use Rattle.inp_reader.specs.Session.{reading_of}
use Rattle.inp_reader.proofs.TalksOfSessions.{says-opened, says-not_opened}
use Rattle.inp_reader.proofs.session.Session.start.Goals as goal

pub returns-in-Opened-clause-says : goal.returns-in-Opened-clause-says
returns-in-Opened-clause-says g c =
    let a = c.in-Opened.ensures.asks in
    says-opened c.args.caps.now
    (reading_of c.args.self.now) _ _ a.answer a.replied a.is_call a.kept c.begin.ensures.says

-- an Open that opened no client ends the start, and the reader is as before
pub returns-in_default : goal.returns-in_default
returns-in_default g c =
    let a = c.ask-reply.ensures.asks in
    record {
      says =
          says-not_opened c.args.caps.now
          (reading_of c.args.self.now) c.ask-reply.result c.start_stop_of.result a.answer a.replied a.is_call
          a.kept c.in_default.not-Opened c.start_stop_of.ensures;
      session = record {
        description = c.ask-reply.ensures.ready.description;
        view = c.requires.session.view;
        asked = c.ask-reply.ensures.ready.view;
        cells = c.ask-reply.ensures.ready.cells;
        slots = c.requires.session.slots;
        room = c.requires.session.room;
      };
      few = omega (arith, c.ask-reply.ensures.few);
    }
