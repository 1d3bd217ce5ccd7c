-- The steps among the entries of a kept value.
use Rattle.std.specs.Prelude.{◌≡◌, ℕ, Bool, true, false, not, List, [], ◌∷◌, ◌++◌, length, take, map, reverse, filter, slice_get, Option, Some, is_some}
use Rattle.std.specs.List.{filter_map}
use Rattle.std.specs.Option.{option_and_then}
use Rattle.inp_model.specs.declared.step.Step.{Step}

module _ {E : Type 0} (made : E → Option Step) where
  -- the steps among entries, in order
  abbrev pub steps_among : List E → List Step
  steps_among entries = filter_map made entries

  -- the same, newest first
  abbrev pub past_of : List E → List Step
  past_of entries = reverse (steps_among entries)

  -- whether a step stands at a place among entries
  abbrev pub is_step_at : List E → ℕ → Bool
  is_step_at entries place = is_some (option_and_then made (slice_get entries place))

  -- how many steps stand before a place among entries
  abbrev pub steps_before : List E → ℕ → ℕ
  steps_before entries place = length (steps_among (take place entries))

  -- the places among the steps, of those places among entries where a step stands
  abbrev pub step_places : List E → List ℕ → List ℕ
  step_places entries places = map (steps_before entries) (filter (is_step_at entries) places)

  -- those places among entries where no step stands
  abbrev pub other_places : List E → List ℕ → List ℕ
  other_places entries places = filter (λ place. not (is_step_at entries place)) places

  -- the entries after a step: where it was accepted it is the last one, and else nothing is entered
  abbrev pub Grown : List E → Step → Bool → List E → Type 0
  Grown entries x true now = (e : E) × (made e ≡ Some x) × (now ≡ entries ++ e ∷ [])
  Grown entries x false now = now ≡ entries

  -- the entries after these steps, which are the last ones, in order and with nothing between
  abbrev pub GrownBy : List E → List Step → List E → Type 0
  GrownBy entries steps now = (more : List E) × (now ≡ entries ++ more) × (map made more ≡ map Some steps)
