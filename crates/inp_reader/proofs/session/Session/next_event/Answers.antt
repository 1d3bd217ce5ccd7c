use Rattle.std.proofs.Common.{sym, ◌∙◌}
use Rattle.inp_reader.specs.Session.{reading_of}
use Rattle.inp_reader.proofs.ReadCounts.{some-queued}
use Rattle.inp_reader.proofs.TalksOfSessions.{says-queued, says-took, says-read_nothing}
use Rattle.inp_reader.proofs.session.Session.next_event.Goals as goal

pub returns-then-not-is_empty-clause-says : goal.returns-then-not-is_empty-clause-says
returns-then-not-is_empty-clause-says g c =
    says-queued (reading_of c.args.self.now) _ (λ e. let h = c.is_empty.ensures.1 e in cc)
    (rw c.hand_out.ensures.asker) c.hand_out.ensures.handed

pub hand_out-requires-then-is_accepted : goal.hand_out-requires-then-is_accepted
hand_out-requires-then-is_accepted g c =
    record {
      some =
          some-queued _ _ _ c.read-call.result.reply c.read-call.new.self c.read-call.ensures.reads
          (sym c.is_accepted.ensures.accepted ∙ c.if-is_accepted.true);
    }

pub returns-then-is_accepted-clause-says : goal.returns-then-is_accepted-clause-says
returns-then-is_accepted-clause-says g c =
    says-took (reading_of c.args.self.now) c.read-call.result.reply c.read-call.new.self _
    (c.is_empty.ensures.0 c.if-not-is_empty.false) c.read-call.ensures.reads
    (rw (c.hand_out-then-is_accepted.ensures.asker, rw c.read-call.ensures.step at c.keep.ensures.kept))
    (sym c.is_accepted.ensures.accepted ∙ c.if-is_accepted.true) c.hand_out-then-is_accepted.ensures.handed

pub returns-else-is_accepted-clause-says : goal.returns-else-is_accepted-clause-says
returns-else-is_accepted-clause-says g c =
    says-read_nothing (reading_of c.args.self.now) c.read-call.result.reply c.read-call.new.self
    c.stop_of.result (c.is_empty.ensures.0 c.if-not-is_empty.false) c.read-call.ensures.reads
    (rw (rw c.read-call.ensures.step at c.keep.ensures.kept))
    (sym c.is_accepted.ensures.accepted ∙ c.if-is_accepted.false) c.stop_of.ensures
