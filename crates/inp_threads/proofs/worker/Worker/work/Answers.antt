use Rattle.std.proofs.Common.{arith}
use Rattle.std.proofs.lemmas.Option.{slice_get_within}
use Rattle.inp_threads.proofs.worker.Worker.work.Goals as goal

-- the worker's actor is one of the record, and each of those has a list of lines
pub get-requires : goal.get-requires
get-requires g c =
    let ready = c.requires.ready in
    let has = ready.start.actor in
    let within = slice_get_within c.args.rec.now.actors c.args.self.now.actor.actor has.text has.is_text in
    omega (arith, within, ready.number, c.requires.lines.count)
