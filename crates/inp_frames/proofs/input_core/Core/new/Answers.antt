use Rattle.std.proofs.Common.{refl, sym, ◌∙◌}
use Rattle.inp_frames.proofs.HandledEvents.{stands-first}
use Rattle.inp_frames.proofs.input_core.Core.new.Goals as goal

pub returns : goal.returns
returns c =
    let fresh =
    stands-first c.args.caps.now c.new.result c.in_ok-new.field-0 c.in_ok-new-2.field-0 c.first_timer.result
    c.new.ensures.fresh (c.in_ok-new.ensures.fresh c.args.caps.now (sym c.slots.ensures.slots))
    c.in_ok-new.ensures.at_frame c.in_ok-new-2.ensures.empty (c.in_ok-new-2.ensures.hint
    ∙ c.hint.ensures.hint) c.first_timer.ensures in
    record { fresh = fresh; made = fresh.raw_events.made; sends = refl }
