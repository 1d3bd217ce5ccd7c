use Rattle.std.proofs.Common.{[], ◌∷◌, ◌∙◌}
use Rattle.inp_model.specs.RawItem.{Occurred}
use Rattle.inp_frames.proofs.HandledEvents.{Handles-append}
use Rattle.inp_frames.proofs.input_core.Core.inject_two.Goals as goal

pub returns-clause-handled : goal.returns-clause-handled
returns-clause-handled g c = λ awake r h.
    let first = c.inject.ensures.handled awake r h in
    Handles-append c.args.caps.now r (c.args.first ∷ [])
    (c.args.second ∷ []) c.args.now g.F.Frames.takes c.args.self.now c.inject.new.self c.inject-2.new.self
    c.args.to.now c.inject.new.to c.inject-2.new.to first
    (c.inject-2.ensures.handled (first.inhibited ∙ awake) (Occurred c.args.first ∷ r) first.stands_after)
