-- Lines that were pushed one after another.
use Rattle.std.proofs.Common.{◌≡◌, ◌∙◌, ℕ, ◌+◌, sym, ap, List, [], ◌∷◌, ◌++◌, map, append_assoc}
use Rattle.std.specs.List.{range_with_len, flat_map}
use Rattle.std.proofs.lemmas.List.{map-append}
use Rattle.inp_make.proofs.Ranges.{flat_map-more}

module _ {X Y : Type 0} where
  -- an item, some more, and two items
  pub pushed_in_turn : (g : X → Y) (l₀ l₁ l₂ l₃ l₄ : List Y) (a x y : X) (more all : List X)
      → l₁ ≡ l₀ ++ g a ∷ [] → l₂ ≡ l₁ ++ map g more → l₃ ≡ l₂ ++ g x ∷ []
      → l₄ ≡ l₃ ++ g y ∷ [] → a ∷ more ++ x ∷ y ∷ [] ≡ all → l₄ ≡ l₀ ++ map g all
  pushed_in_turn g l₀ l₁ l₂ l₃ l₄ a x y more all e₁ e₂ e₃ e₄ e₅ =
      rw (← e₅) (simp (e₄, e₃, e₂, e₁, append_assoc, map-append))

  -- some items, some more, one, and then others
  pub pushed_with_others : (g : X → Y) (l₀ l₁ l₂ l₃ l₄ : List Y) (some more : List X) (x : X)
      (others : List Y) → l₁ ≡ l₀ ++ map g some → l₂ ≡ l₁ ++ map g more → l₃ ≡ l₂ ++ g x ∷ []
      → l₄ ≡ l₃ ++ others → l₄ ≡ l₀ ++ (map g (some ++ more ++ x ∷ []) ++ others)
  pushed_with_others g l₀ l₁ l₂ l₃ l₄ some more x others e₁ e₂ e₃ e₄ =
      simp (e₄, e₃, e₂, e₁, append_assoc, map-append)

  -- the same as `pushed_more`, each item changed
  pub mapped_more : (g : X → Y) (f : ℕ → List X) (l₀ l₁ l₂ : List Y) (n : ℕ)
      → l₁ ≡ l₀ ++ map g (flat_map f (range_with_len 0 n)) → l₂ ≡ l₁ ++ map g (f n)
      → l₂ ≡ l₀ ++ map g (flat_map f (range_with_len 0 (n + 1)))
  mapped_more g f l₀ l₁ l₂ n e₁ e₂ =
      e₂ ∙ ap (λ l. l ++ map g (f n)) e₁
      ∙ append_assoc l₀ (map g (flat_map f (range_with_len 0 n))) (map g (f n))
      ∙ ap (λ l. l₀ ++ l) (sym (map-append g (flat_map f (range_with_len 0 n)) (f n))
      ∙ ap (map g) (flat_map-more f n))

-- what f gives of one number more
pub pushed_more : {X : Type 0} (f : ℕ → List X) (l₀ l₁ l₂ : List X) (n : ℕ)
    → l₁ ≡ l₀ ++ flat_map f (range_with_len 0 n) → l₂ ≡ l₁ ++ f n
    → l₂ ≡ l₀ ++ flat_map f (range_with_len 0 (n + 1))
pushed_more f l₀ l₁ l₂ n e₁ e₂ =
    e₂ ∙ ap (λ l. l ++ f n) e₁ ∙ append_assoc l₀ (flat_map f (range_with_len 0 n)) (f n)
    ∙ ap (λ l. l₀ ++ l) (flat_map-more f n)
