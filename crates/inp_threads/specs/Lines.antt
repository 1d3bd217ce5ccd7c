-- What it means that the lines of a record are dealt to its actors (docs/RUNS.md, "Playing a record").
use Rattle.std.specs.Prelude.{◌≡◌, ℕ, List, [], ◌∷◌, ◌++◌, length, slice_get, slice_set, Some}
use Rattle.inp_actors.specs.Record.{RecordView}
use Rattle.inp_runs.specs.DoingAll.{AreNumbersOf}

-- Each actor has a list of the numbers of its lines, in file order.
pub record AreLinesDealt (r : RecordView) (lists : List (List ℕ)) : Type 0 where
  pub count : length lists ≡ length r.actors
  pub each : (actor : ℕ) (numbers : List ℕ) → slice_get lists actor ≡ Some numbers → AreNumbersOf r actor numbers

-- The line of this number was dealt to this actor, after its other ones.
abbrev pub HasLineMore : List (List ℕ) → List (List ℕ) → ℕ → ℕ → Type 0
HasLineMore old new actor line = (numbers : List ℕ) → slice_get old actor ≡ Some numbers → new ≡ slice_set old actor (numbers ++ line ∷ [])
