use Rattle.std.proofs.Common.{◌∙◌, length, refl, sym, ap, arith}
use Rattle.std.proofs.lemmas.Bool.Decides.{nat_tests}
use Rattle.inp_reader.proofs.Runs.{queued-many}
use Rattle.inp_script.proofs.QueuedRuns.{hands-run}
use Rattle.inp_script.proofs.role.client.hand_queued.Goals as goal

pub take_queued-requires : goal.take_queued-requires
take_queued-requires c = record {
  queued =
      ap length
      (queued-many c.most_of.result
      (length c.queued-run.result.now) c.args.reader.now.reading c.queued-run.result.now
      c.queued-run.ensures.run refl)
      ∙ ap length (sym c.queued-run.ensures.run);
}

pub returns-clause-some : goal.returns-clause-some
returns-clause-some c =
    hands-run c.args.left c.args.reader.now.reading c.take_queued.new.self.reading c.args.notes.now
    (record c.args.notes.now { sight = c.push_taken.new.self }) c.queued-run.result.now
    (length c.queued-run.result.now) c.handed_run.result
    (rw (c.queued-run.ensures.run, c.most_of.ensures)) refl
    (let h = c.if-is_empty.false in grind (arith, nat_tests, h, c.is_empty.ensures))
    c.take_queued.ensures.reading
    (rw c.in_ok-push_taken.ensures) c.handed_run.ensures.turn c.handed_run.ensures.patient
    c.handed_run.ensures.anew
