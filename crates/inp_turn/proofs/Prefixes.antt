-- Lists that begin other lists.
use Rattle.std.proofs.Common.{◌≡◌, ℕ, ◌<◌, ◌≤◌, Bool, true, false, nat_lt, List, [], ◌∷◌, ◌++◌, length, refl}
use Rattle.std.proofs.Common.{sym, ap, ◌∙◌, append_assoc, length-append, arith}
use Rattle.std.proofs.lemmas.List.{append-nil}
use Rattle.std.proofs.lemmas.Bool.Decides.{Decides-ltb, nat_tests}
use mathlib.Core.List.{IsPrefix}
use Rattle.inp_turn.specs.PassView.{longer}

not_below : (m n : ℕ) → nat_lt m n ≡ false → n ≤ m
not_below m n e = grind (arith, nat_tests)

module _ {A : Type 0} where
  pub prefix-refl : (xs : List A) → IsPrefix xs xs
  prefix-refl xs = ([], append-nil xs)

  pub prefix-trans : (xs ys zs : List A) → IsPrefix xs ys → IsPrefix ys zs → IsPrefix xs zs
  prefix-trans xs ys zs h k = (h.0 ++ k.0, sym (append_assoc xs h.0 k.0) ∙ (rw h.1 k.1))

  pub prefix-length : (xs ys : List A) → IsPrefix xs ys → length xs ≤ length ys
  prefix-length xs ys h = let e : length (xs ++ h.0) ≡ length ys =
      ap length h.1 in omega (arith, length-append xs h.0)

  abbrev tail : List A → List A
  tail [] = []
  tail (x ∷ xs) = xs

  abbrev head : A → List A → A
  head d [] = d
  head d (x ∷ xs) = x

  -- of two beginnings of one list the shorter begins the longer
  pub prefix_shorter : (xs ys zs : List A) → IsPrefix xs zs → IsPrefix ys zs → length xs ≤ length ys
      → IsPrefix xs ys
  prefix_shorter [] ys zs h k l = (ys, refl)
  prefix_shorter (x ∷ xs) [] zs h k l = absurd (omega arith)
  prefix_shorter (x ∷ xs) (y ∷ ys) zs h k l = let e : x ≡ y = ap (head x) (h.1 ∙ sym k.1) in
      let t = prefix_shorter xs ys (tail zs) (h.0, ap tail h.1) (k.0, ap tail k.1) (omega arith) in
      (t.0, λ i. e i ∷ t.1 i)

  -- a beginning that is as long is the whole
  pub prefix_whole : (xs ys : List A) → IsPrefix xs ys → length ys ≤ length xs → xs ≡ ys
  prefix_whole xs ys h l = let t = prefix_shorter ys xs ys (prefix-refl ys) h l in same xs ys h t
    where
      same : (xs ys : List A) → IsPrefix xs ys → IsPrefix ys xs → xs ≡ ys
      same [] [] h k = refl
      same [] (y ∷ ys) h k = absurd (omega (arith, prefix-length (y ∷ ys) [] k))
      same (x ∷ xs) [] h k = absurd (omega (arith, prefix-length (x ∷ xs) [] h))
      same (x ∷ xs) (y ∷ ys) h k = let e : x ≡ y = ap (head x) h.1 in let t =
          same xs ys (h.0, ap tail h.1) (k.0, ap tail k.1) in λ i. e i ∷ t i

  -- the longer of two beginnings of one list begins it, and is begun by both
  pub record IsLonger (xs ys zs both : List A) : Type 0 where
    pub whole : IsPrefix both zs
    pub left : IsPrefix xs both
    pub right : IsPrefix ys both
    pub length_left : length xs ≤ length both
    pub length_right : length ys ≤ length both

  longer_by : (xs ys zs : List A) → IsPrefix xs zs → IsPrefix ys zs → (b : Bool)
      → nat_lt (length xs) (length ys) ≡ b → IsLonger xs ys zs (longer xs ys)
  longer_by xs ys zs h k true e = let l : length xs < length ys = (Decides-ltb (length xs) (length ys)).0 e in
      rw e record {
        whole = k;
        left = prefix_shorter xs ys zs h k (omega arith);
        right = prefix-refl ys;
        length_left = omega arith;
        length_right = omega arith;
      }
  longer_by xs ys zs h k false e = let l : length ys ≤ length xs = not_below (length xs) (length ys) e in
      rw e record {
        whole = h;
        left = prefix-refl xs;
        right = prefix_shorter ys xs zs k h l;
        length_left = omega arith;
        length_right = omega arith;
      }

  pub longer_is : (xs ys zs : List A) → IsPrefix xs zs → IsPrefix ys zs → IsLonger xs ys zs (longer xs ys)
  longer_is xs ys zs h k = longer_by xs ys zs h k (nat_lt (length xs) (length ys)) refl
