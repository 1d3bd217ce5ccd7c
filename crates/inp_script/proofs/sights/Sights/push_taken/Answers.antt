use Rattle.std.proofs.Common.{take, arith}
use Rattle.std.proofs.lemmas.List.{take_all}
use Rattle.inp_script.specs.Sights.{AreWithin}
use Rattle.inp_script.proofs.SightLists.{within-taken, sights-taken}
use Rattle.inp_script.proofs.sights.Sights.push_taken.Goals as goal

-- events that were taken are kept without an index, so all that is kept stays within
pub invariant_of-self : goal.invariant_of-self
invariant_of-self c = rw c.loop-event.invariant
    (within-taken c.self.inside.calls c.self.inside.kept
    (take c.loop-event.event-index c.args.events.now) c.self.invariant)

pub invariant_of-self-in_err-push : goal.invariant_of-self-in_err-push
invariant_of-self-in_err-push c =
    let within : AreWithin c.loop-event.self-inside = rw c.loop-event.invariant
    (within-taken c.self.inside.calls c.self.inside.kept
    (take c.loop-event.event-index c.args.events.now) c.self.invariant) in
    rw c.in_err-push.ensures.err within

-- each event was kept behind the others, and it is its own entry
pub returns : goal.returns
returns c =
    rw (
      c.loop-event.invariant,
      sights-taken,
      take_all c.loop-event.event-index c.args.events.now (omega (arith, c.loop-event-test.false)),
      c.self.view_is,
    )
