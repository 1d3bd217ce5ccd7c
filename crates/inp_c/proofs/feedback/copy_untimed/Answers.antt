use Rattle.std.proofs.Common.{ap, ◌∙◌, set, pos, arith}
use Rattle.inp_model.specs.declared.event.Event.{Event}
use Rattle.inp_c.specs.Told.{told_untimed}
use Rattle.inp_c.proofs.Copies.{copy_more}
use Rattle.inp_c.proofs.feedback.copy_untimed.Goals as goal

-- what stands past the end of a list of events
abbrev past_end : Event
past_end = record { kind = 0; code = 0; value = pos 0 }

-- the next event is written just behind the copied ones, without a time
pub loop-at-preserved : goal.loop-at-preserved
loop-at-preserved c =
    ap (λ x. set c.loop-at.events c.loop-at.at x) c.untimed.ensures
    ∙ copy_more told_untimed c.args.taken.now c.args.events.now c.loop-at.events c.loop-at.at past_end
    c.loop-at.invariant c.loop-at-test.true (omega arith)
