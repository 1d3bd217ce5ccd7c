use Rattle.std.proofs.Common.{◌≡◌, ℕ, Bool, true, false, List, [], ◌∷◌, ◌++◌, sym, ◌∙◌, if◌then◌else◌}
use Rattle.std.proofs.lemmas.List.{append-nil}
use mathlib.Core.List.{IsPrefix}
use Rattle.tests_device.proofs.turn.Tally.add.Goals as goal

-- a list with one number more, or the same, begins with the list
prefix_push : (xs ys : List ℕ) (x : ℕ) (b : Bool) → ys ≡ (if b then xs ++ x ∷ [] else xs) → IsPrefix xs ys
prefix_push xs ys x true e = (x ∷ [], sym e)
prefix_push xs ys x false e = ([], append-nil xs ∙ sym e)

pub returns-clause-grown : goal.returns-clause-grown
returns-clause-grown c = prefix_push _ _ _ _ c.push.ensures.items
