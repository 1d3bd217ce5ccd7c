-- The rest of a list behind a place, as a slice to its end is one.
use Rattle.std.proofs.Common.{◌≡◌, ℕ, ◌-◌, List, length, take, drop, sym, ap, ◌∙◌}
use Rattle.std.proofs.lemmas.List.{length-drop}
use Rattle.std.proofs.Math.Seq.{take-length}

-- behind a place there are as many items as the length leaves, so taking so many leaves out none
pub rest_is : {X : Type 0} (xs : List X) (from : ℕ) → take (length xs - from) (drop from xs) ≡ drop from xs
rest_is xs from =
    ap (λ (n : ℕ). take n (drop from xs)) (sym (length-drop from xs)) ∙ take-length (drop from xs)
