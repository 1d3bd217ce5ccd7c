-- The result of an owner on a short row of steps and calls that was worked out by hand (docs/RULES.md,
-- "Devices made by requests").
use Rattle.std.specs.Prelude.{pos, List, [], ◌∷◌, ◌++◌, None, Some}
use Rattle.inp_model.specs.declared.step.Step.{Step}
use Rattle.inp_model.specs.declared.step.Step.TheVariants.{Inject}
use Rattle.inp_feedback.specs.declared.fed.Fed.TheVariants.{Took, Full}
use Rattle.inp_feedback.specs.Examples.{keyboard, bell}
use Rattle.inp_script.specs.declared.fed_sight.FedSight.{FedSight}
use Rattle.inp_script.specs.declared.fed_sight.FedSight.TheVariants.{Answer, Event}
use Rattle.inp_script.specs.declared.stop.Stop.TheVariants.{Full as FullList}
use Rattle.inp_runs.specs.Owner.{HasOwned}

-- the bell was rung
abbrev pub rung : List Step
rung = Inject (bell (pos 1)) 0 ∷ []

-- the answer to the call that took it, and what it took
abbrev pub told_of_the_bell : List FedSight
told_of_the_bell = Answer (Took 1 1) ∷ Event (bell (pos 1)) ∷ []

-- an owner's first call takes the bell, and its second one takes nothing
abbrev pub TakesTheBellOnce : Type 0
TakesTheBellOnce =
    HasOwned keyboard rung (8 ∷ 8 ∷ []) (record { fed = told_of_the_bell ++ Answer (Took 1 0) ∷ []; stop = None })

-- where one call is kept at most, the second one is refused, and there is no third one
abbrev pub StopsAtItsLimit : Type 0
StopsAtItsLimit =
    HasOwned (record keyboard { log_limit = 1 }) rung (8 ∷ 8 ∷ 8 ∷ []) (record { fed = told_of_the_bell ++ Answer (Full 1) ∷ []; stop = Some (FullList 1) })
