use Rattle.std.proofs.Common.{◌≡◌, ◌<◌, ◌^◌}
use Rattle.inp_script.proofs.Common.{total_effort, going, job_of, effort}
use Rattle.inp_script.proofs.Rounds.{Passed}
use Rattle.inp_script.proofs.role.client.hand_out.Given as goal

abbrev pub invariant-loop-next : goal.invariant-loop-next
invariant-loop-next g l = record {
  passed : Passed l.initial.reader.description l.wait l.skips (g.E.Evdev.told l.initial.dev)
      (g.E.Evdev.told l.dev) (going l.initial.progress (job_of l.initial.reader.reading l.initial.notes))
      (going l.progress (job_of l.reader.reading l.notes));
  patient : l.progress.agains < 2 ^ 32;
  reader : l.reader.description ≡ l.initial.reader.description;
}

abbrev pub decreases-loop-next : goal.decreases-loop-next
decreases-loop-next g l =
    total_effort l.wait (effort (g.E.Evdev.told l.dev) l.reader.reading) l.progress.agains
