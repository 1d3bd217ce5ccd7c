use Rattle.std.proofs.Common.{Bool, ap, ◌∙◌, is_some, Option, ℤ}
use Rattle.inp_state.specs.State.{flags_by}
use Rattle.inp_state.proofs.Flags.{flags-other}
use Rattle.inp_state.proofs.state.State.apply.Goals as goal

pub returns-clause-disposition : goal.returns-clause-disposition
returns-clause-disposition c =
    λ r h. c.disposition.ensures
    ∙ ap (λ (b : Bool). flags_by b c.args.event) c.is_some.ensures
    ∙ ap (λ (o : Option ℤ). flags_by (is_some o) c.args.event) (c.change-passed.ensures.passes r h)
    ∙ flags-other c.args.caps.now r c.args.event c.requires.no_slot
