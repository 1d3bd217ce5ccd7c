use Rattle.std.proofs.Common.{sym, ◌∙◌, [], ◌∷◌}
use Rattle.inp_model.specs.declared.step.Step.TheVariants.{Discard}
use Rattle.inp_reader.specs.Reader.{queries}
use Rattle.inp_reader.proofs.TalksInTurn.{says-stop-if, says-go-on}
use Rattle.inp_reader.proofs.asker.Asker.discard_and_query.Goals as goal

-- a Discard that is not accepted ends the talk, and no query follows
pub returns-then-is_some-clause-says : goal.returns-then-is_some-clause-says
returns-then-is_some-clause-says g c =
    says-stop-if (Discard c.args.client ∷ [])
    (queries c.args.caps.now c.args.client) c.args.self.now.view c.query-stop.new.self.view
    c.query-stop.result (sym c.is_some.ensures ∙ c.if-is_some.true) c.query-stop.ensures.says

-- the Discard was accepted, so the queries follow it
pub returns-clause-says : goal.returns-clause-says
returns-clause-says g c =
    says-go-on (Discard c.args.client ∷ [])
    (queries c.args.caps.now c.args.client) c.args.self.now.view c.query-stop.new.self.view
    c.query-stop.result _ (sym c.is_some.ensures
    ∙ c.if-is_some.false) c.query-stop.ensures.says c.query_all.ensures.says
