use Rattle.std.proofs.Common.{◌≡◌, drop}
use Rattle.inp_model.specs.Timer.{timer_at_events}
use Rattle.inp_frames.proofs.autorepeat.timer_at_events.Given as goal

abbrev pub invariant-loop-event : goal.invariant-loop-event
invariant-loop-event l =
    timer_at_events l.now l.delay l.period (drop l.event-index l.frame) l.after
    ≡ timer_at_events l.now l.delay l.period l.frame l.fn.timer
