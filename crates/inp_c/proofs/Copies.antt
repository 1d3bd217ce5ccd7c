-- A list that is copied to the front of a buffer, one item after another.
use Rattle.std.proofs.Common.{◌≡◌, ◌<◌, ℕ, ◌+◌, ◌-◌, List, [], ◌∷◌, ◌++◌, length, map, take, drop, get_or}
use Rattle.std.proofs.Common.{set, sym, ap, ◌∙◌, arith}
use Rattle.std.proofs.lemmas.List.{drop_more, length-map, length-take-le, set-append_right, map_more}
use Rattle.std.proofs.lemmas.List.{append_assoc}

module _ {X Y : Type 0} (f : X → Y) (xs : List X) (first : List Y) where
  -- the next item is written just behind the copied ones, and what is after it stays
  pub copy_more : (out : List Y) (at : ℕ) (d : X) → out ≡ map f (take at xs) ++ drop at first → at < length xs
      → at < length first →
      set out at (f (get_or xs at d)) ≡ map f (take (at + 1) xs) ++ drop (at + 1) first
  copy_more out at d e h room =
      let front = map f (take at xs) in
      let x = f (get_or xs at d) in
      let long : length front ≡ at =
      omega (arith, length-map (take at xs) f, length-take-le at xs (omega arith)) in
      let none : at - at ≡ 0 = omega arith in
      ap (λ r. set r at x) e
      ∙ set-append_right front (drop at first) at at x long (omega arith)
      ∙ ap (λ j. front ++ set (drop at first) j x) none
      ∙ ap (λ r. front ++ set r 0 x) (drop_more first at x room)
      ∙ sym (append_assoc front (x ∷ []) (drop (at + 1) first))
      ∙ ap (λ r. r ++ drop (at + 1) first) (sym (map_more f xs at d h))
