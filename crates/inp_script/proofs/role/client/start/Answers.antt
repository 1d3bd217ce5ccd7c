use Rattle.std.proofs.lemmas.Result.{on_ok_weaker}
use Rattle.inp_script.proofs.Noted.{start-noted, start-begun}
use Rattle.inp_script.proofs.role.client.start.Goals as goal

-- the calls of the reader's start are noted, with what it answered
pub returns-clause-done : goal.returns-clause-done
returns-clause-done g c =
    on_ok_weaker c.note_start.result
    (λ noted. start-noted _ _ c.args.reader.now.description c.args.reader.now.reading
    c.start-started.new.self.reading c.args.notes.now c.note_start.new.self c.start-started.new.self.made
    c.made.result.now c.start-started.result c.start-started.ensures.says c.made.ensures.made noted)
    c.note_start.ensures

-- the calls of the reader's start are the first of the line
pub returns-clause-begun : goal.returns-clause-begun
returns-clause-begun g c =
    start-begun _ _ c.args.reader.now.description c.args.reader.now.reading _ c.args.notes.now _ _
    c.start-started.ensures.says
