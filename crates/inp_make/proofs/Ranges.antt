-- Lists over the numbers from 0, one number more.
use Rattle.std.proofs.Common.{◌≡◌, ◌∙◌, ℕ, zero, suc, ◌+◌, sym, ap, arith, List, [], ◌∷◌, ◌++◌, add-one}
use Rattle.std.specs.List.{range_with_len, flat_map}
use Rattle.std.proofs.lemmas.List.{flat_map_more}

range_suc : (a n : ℕ) → range_with_len a (suc n) ≡ range_with_len a n ++ (a + n) ∷ []
range_suc a zero = ap (λ k. k ∷ []) (omega arith)
range_suc a (suc n) =
    let moved : (a + 1) + n ≡ a + suc n = omega arith in
    ap (λ ks. a ∷ ks) (range_suc (a + 1) n ∙ ap (λ k. range_with_len (a + 1) n ++ k ∷ []) moved)

pub range_more : (n : ℕ) → range_with_len 0 (n + 1) ≡ range_with_len 0 n ++ n ∷ []
range_more n =
    let front : 0 + n ≡ n = omega arith in
    ap (range_with_len 0) (add-one n) ∙ range_suc 0 n ∙ ap (λ k. range_with_len 0 n ++ k ∷ []) front

-- what f gives of one number more
pub flat_map-more : {X : Type 0} (f : ℕ → List X) (n : ℕ)
    → flat_map f (range_with_len 0 n) ++ f n ≡ flat_map f (range_with_len 0 (n + 1))
flat_map-more f n = flat_map_more f [] (range_with_len 0 n) n ∙ ap (flat_map f) (sym (range_more n))
