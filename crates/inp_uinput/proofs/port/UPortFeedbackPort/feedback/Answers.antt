use Rattle.std.proofs.Common.{◌≡◌, sym, ◌∙◌, length, Some}
use Rattle.inp_turn.specs.Shared.{shared_id}
use Rattle.inp_turn.specs.Pass.{view_of}
use Rattle.inp_uinput.proofs.ServedEntries.{feedback-begins, feedback-turn, feedback-told}
use Rattle.inp_uinput.proofs.port.UPortFeedbackPort.feedback.Goals as goal

-- a call adds an entry behind those that were found, or none
pub give-requires-clause-grown : goal.give-requires-clause-grown
give-requires-clause-grown g c =
    let held = c.take-held.result.state in
    let now = c.feedback-fed.new.self.kept in
    rw c.take-held.ensures.view
    (feedback-begins held.description held.kept now (length c.args.out.now) (rw c.feedback-fed.ensures.kept))

pub returns-clause-fed : goal.returns-clause-fed
returns-clause-fed g c =
    let held = c.take-held.result.state in
    let now = c.feedback-fed.new.self.kept in
    let is : Some held.description ≡ Some c.args.self.now.caps =
    sym c.take-held.ensures.base ∙ c.requires.ready.described in
    feedback-turn c.args.self.now.caps held.description (view_of c.args.pass.now)
    (view_of c.give.new.pass) held.kept now c.feedback-fed.result c.args.out.now c.feedback-fed.new.out
    (cc is) c.take-held.ensures.begins
    c.feedback-fed.ensures.answer c.feedback-fed.ensures.written (rw c.feedback-fed.ensures.kept)
    (rw (c.give.ensures.view, c.take-held.ensures.view))

-- what the caller is told follows from what the turn left of its pass
pub returns-clause-told : goal.returns-clause-told
returns-clause-told g c =
    feedback-told c.args.self.now.caps (shared_id c.args.self.now.shared) (view_of c.args.pass.now)
    (view_of c.give.new.pass) c.feedback-fed.result c.args.out.now c.feedback-fed.new.out
    c.args.pass.now.owns_seen
    (returns-clause-fed g c)
