-- Which lists of steps are histories (docs/RULES.md, "Places and moments").
use Rattle.std.specs.Prelude.{◌≡◌, List, [], ◌∷◌, None}
use Rattle.inp_model.specs.declared.step.Step.{Step}
use Rattle.inp_model.specs.Description.{Description}
use Rattle.inp_model.specs.Left.{Eats, eaten}
use Rattle.inp_model.specs.Reply.{refused_with}

-- A history, written newest first, holds accepted steps only: nothing refuses a step after the past before it.
abbrev pub IsHistoryWith : Eats → Description → List Step → Type 0
IsHistoryWith eats d [] = Unit {0}
IsHistoryWith eats d (x ∷ past) = IsHistoryWith eats d past × (refused_with eats d past x ≡ None)

abbrev pub IsHistory : Description → List Step → Type 0
IsHistory d past = IsHistoryWith (eaten d) d past
