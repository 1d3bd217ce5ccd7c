use Rattle.std.proofs.Common.{◌≡◌, take, true}
use Rattle.inp_c.specs.Injection.{are_timely}
use Rattle.inp_c.proofs.injection.are_timely.Given as goal

abbrev pub invariant-loop-event : goal.invariant-loop-event
invariant-loop-event l = are_timely (take l.event-index l.events) ≡ true
