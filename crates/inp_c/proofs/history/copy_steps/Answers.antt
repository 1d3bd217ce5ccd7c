use Rattle.std.proofs.Common.{ap, ◌∙◌, set, pos, arith}
use Rattle.inp_model.specs.declared.step.Step.{Step}
use Rattle.inp_model.specs.declared.step.Step.TheVariants.{Inject}
use Rattle.inp_c.specs.ToldStep.{told_step}
use Rattle.inp_c.proofs.Copies.{copy_more}
use Rattle.inp_c.proofs.history.copy_steps.Goals as goal

-- what stands past the end of a list of steps
abbrev past_end : Step
past_end = Inject (record { kind = 0; code = 0; value = pos 0 }) 0

-- the next step is written just behind the copied ones, as C is told it
pub loop-at-preserved : goal.loop-at-preserved
loop-at-preserved c =
    ap (λ x. set c.loop-at.steps c.loop-at.at x) c.c_step.ensures
    ∙ copy_more told_step c.args.made.now c.args.steps.now c.loop-at.steps c.loop-at.at past_end
    c.loop-at.invariant c.loop-at-test.true (omega arith)
