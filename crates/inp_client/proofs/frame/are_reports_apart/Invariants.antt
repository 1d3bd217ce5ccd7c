use Rattle.std.proofs.Common.{◌≡◌, true, drop}
use Rattle.inp_client.specs.Offered.{are_reports_apart}
use Rattle.inp_client.proofs.frame.are_reports_apart.Given as goal

abbrev pub invariant-loop-event : goal.invariant-loop-event
invariant-loop-event l =
    are_reports_apart true l.frame ≡ are_reports_apart l.behind (drop l.event-index l.frame)
