use Rattle.std.proofs.Common.{rules, ap, ◌∙◌, ◌≡◌, false, true, List, ℤ}
use Rattle.inp_model.specs.Reply.{is_accepted}
use Rattle.inp_recon.specs.declared.view.View.{View}
use Rattle.inp_recon.specs.View.{view_after_answer}
use Rattle.inp_reader.proofs.TalksInTurn.{says-accepted, says-refused}
use Rattle.inp_reader.proofs.asker.Asker.query.Goals as goal

pub returns-then-not-is_accepted-clause-says : goal.returns-then-not-is_accepted-clause-says
returns-then-not-is_accepted-clause-says g c =
    says-refused c.args.step c.ask-reply.result _ _ c.args.self.now.view c.ask-reply.ensures.asks
    (let h : is_accepted c.ask-reply.result ≡ false = search rules in h)

-- an accepted answer sets the view, by the buffer that the call wrote to
pub returns-clause-says : goal.returns-clause-says
returns-clause-says g c =
    let accepted : is_accepted c.ask-reply.result ≡ true = search rules in
    says-accepted c.args.caps.now _ _ _ _ c.args.step c.ask-reply.result _ _ c.args.self.now.view
    c.answer.new.self
    c.requires.ready.description c.requires.ready.view c.ask-reply.ensures.asks accepted
    (c.answer.ensures.view
    ∙ ap (λ (v : View). view_after_answer v c.args.step c.ask-reply.result c.as_slice.result.now)
    c.ask-reply.ensures.view
    ∙ ap (λ (cells : List ℤ). view_after_answer c.args.self.now.view c.args.step c.ask-reply.result cells)
    c.as_slice.ensures)
