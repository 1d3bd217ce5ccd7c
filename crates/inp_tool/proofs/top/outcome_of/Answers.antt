use Rattle.std.proofs.Common.{Some, refl, ap, ◌∙◌}
use Rattle.inp_args.specs.declared.request.Request.{Request}
use Rattle.inp_tool.proofs.top.outcome_of.Goals as goal

pub returns-in-Ok-Make-clause-cause : goal.returns-in-Ok-Make-clause-cause
returns-in-Ok-Make-clause-cause g c =
    let asked = c.in-Ok-Make.ensures.request ∙ ap (λ (r : Request). Some r) c.in-Ok-Make.field-0-is in
    c.play_made.ensures.cause _ _ asked refl
