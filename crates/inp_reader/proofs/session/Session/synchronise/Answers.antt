use Rattle.std.proofs.Common.{◌∷◌, sym, ◌∙◌, arith}
use Rattle.inp_model.specs.declared.step.Step.TheVariants.{Discard}
use Rattle.inp_reader.specs.Reader.{queries, sync_talk}
use Rattle.inp_reader.proofs.TalksOfSessions.{says-view}
use Rattle.inp_reader.specs.Session.{reading_of}
use Rattle.inp_reader.specs.Spare.{IsSpare}
use Rattle.inp_reader.proofs.Classes.{slots-of}
use Rattle.inp_reader.proofs.Counts.{classes_few}
use Rattle.inp_reader.proofs.TalksKeepSpare.{spare-synced}
use Rattle.inp_reader.proofs.session.Session.synchronise.Goals as goal

-- stopped at a step: the steps were asked for from a copy of the reader's view
pub returns-then-is_some-clause-says : goal.returns-then-is_some-clause-says
unfolding sync_talk
returns-then-is_some-clause-says g c =
    says-view (Discard c.args.self.now.client ∷ queries c.args.caps.now c.args.self.now.client)
    c.copy_from.new.self c.args.self.now.view _ c.copy_from.ensures.view c.discard_and_query-stop.ensures.says

-- all were accepted: the steps were asked for from a copy of the reader's view
pub returns-clause-says : goal.returns-clause-says
unfolding sync_talk
returns-clause-says g c =
    says-view (Discard c.args.self.now.client ∷ queries c.args.caps.now c.args.self.now.client)
    c.copy_from.new.self c.args.self.now.view _ c.copy_from.ensures.view c.discard_and_query-stop.ensures.says

pub fill-requires-clause-room : goal.fill-requires-clause-room
unfolding sync_talk
fill-requires-clause-room g c =
    let d = c.args.caps.now in
    let old = c.args.self.now.view in
    let new = c.discard_and_query-stop.new.self.view in
    let says =
    says-view (Discard c.args.self.now.client ∷ queries d c.args.self.now.client) c.copy_from.new.self old _
    c.copy_from.ensures.view c.discard_and_query-stop.ensures.says in
    let spare : IsSpare d new =
    spare-synced d _ _ _ _ (reading_of c.args.self.now) c.discard_and_query-stop.result new
    c.requires.session.description c.requires.spare says (sym c.is_some.ensures ∙ c.if-is_some.false) in
    omega (
      arith,
      slots-of d.slots old.cells c.requires.session.view,
      c.requires.session.room,
      classes_few d old new c.requires.spare spare,
    )
