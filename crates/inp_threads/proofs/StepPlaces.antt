-- Where each place of the entries is owned once, so is each place of the steps among them.
use Rattle.std.proofs.Common.{◌≡◌, ℕ, zero, suc, ◌+◌, ◌<◌, Bool, true, false, ◌&&◌, not, cond, nat_eq, ne_eqb}
use Rattle.std.proofs.Common.{List, [], ◌∷◌, length, take, refl, sym, ap, ◌∙◌, arith, Option, Some, None}
use Rattle.std.specs.Prelude.{map, filter, flat_map, is_some}
use Rattle.std.specs.List.{count_by, cons_option}
use Rattle.std.proofs.lemmas.Bool.Decides.{nat_tests}
use Rattle.inp_model.specs.declared.step.Step.{Step}
use Rattle.inp_turn.proofs.Places.{here-other, count-cons}
use Rattle.inp_port.specs.Entries.{steps_among, is_step_at, steps_before, step_places, other_places}
use Rattle.inp_port.proofs.Places.{step_places-append}

module _ {E : Type 0} (made : E → Option Step) where
  -- the place at which a step stands among the entries
  pub record IsPlaceOfStep (entries : List E) (n : ℕ) : Type 0 where
    -- where the step stands among the entries
    pub place : ℕ
    -- that place is one of the entries
    pub within : place < length entries
    -- no other place has the step of that number
    pub alone : (p : ℕ) → (is_step_at made entries p && nat_eq n (steps_before made entries p))
        ≡ nat_eq place p

  flat : (b : Bool) → (b && false) ≡ false
  flat true = refl
  flat false = refl

  next-number : (m n : ℕ) → nat_eq (suc m) (suc n) ≡ nat_eq m n
  next-number m n = grind (arith, nat_tests)

  -- the steps before a place that is not the first one
  before : (e : E) (entries : List E) (o : Option Step) (p : ℕ) → made e ≡ o
      → steps_before made (e ∷ entries) (suc p) ≡ length (cons_option o (steps_among made (take p entries)))
  before e entries o p is = rw is

  first-step : (e : E) (entries : List E) (x : Step) → made e ≡ Some x → (p : ℕ)
      → (is_step_at made (e ∷ entries) p && nat_eq 0 (steps_before made (e ∷ entries) p)) ≡ nat_eq 0 p
  first-step e entries x is zero = rw is
  first-step e entries x is (suc p) =
      rw (
        before e entries (Some x) p is,
        ne_eqb 0 (suc (steps_before made entries p)) (λ e. omega (arith, e)),
        flat (is_step_at made entries p),
      )
      (sym (ne_eqb 0 (suc p) (λ e. omega (arith, e))))

  next-step : (e : E) (entries : List E) (x : Step) (n place : ℕ) → made e ≡ Some x
      → ((p : ℕ) → (is_step_at made entries p && nat_eq n (steps_before made entries p)) ≡ nat_eq place p)
      → (p : ℕ) → (is_step_at made (e ∷ entries) p && nat_eq (suc n) (steps_before made (e ∷ entries) p))
      ≡ nat_eq (suc place) p
  next-step e entries x n place is alone zero =
      rw (ne_eqb (suc n) 0 (λ e. omega (arith, e)), flat (is_some (made e)))
      (sym (ne_eqb (suc place) 0 (λ e. omega (arith, e))))
  next-step e entries x n place is alone (suc p) =
      rw (before e entries (Some x) p is, next-number n (steps_before made entries p), alone p)
      (sym (next-number place p))

  next-other : (e : E) (entries : List E) (n place : ℕ) → made e ≡ None
      → ((p : ℕ) → (is_step_at made entries p && nat_eq n (steps_before made entries p)) ≡ nat_eq place p)
      → (p : ℕ) → (is_step_at made (e ∷ entries) p && nat_eq n (steps_before made (e ∷ entries) p))
      ≡ nat_eq (suc place) p
  next-other e entries n place none alone zero = rw none (sym (ne_eqb (suc place) 0 (λ e. omega (arith, e))))
  next-other e entries n place none alone (suc p) =
      rw (before e entries None p none, alone p) (sym (next-number place p))

  after-step : (e : E) (entries : List E) (x : Step) (n : ℕ) → made e ≡ Some x
      → ((m : ℕ) → n ≡ suc m → IsPlaceOfStep entries m) → IsPlaceOfStep (e ∷ entries) n
  after-step e entries x zero is later =
      record { place = 0; within = omega arith; alone = first-step e entries x is }
  after-step e entries x (suc n) is later =
      let there : IsPlaceOfStep entries n = later n refl in
      record {
        place = suc there.place;
        within = omega (arith, there.within);
        alone = next-step e entries x n there.place is there.alone;
      }

  after-other : (e : E) (entries : List E) (n : ℕ) → made e ≡ None → IsPlaceOfStep entries n
      → IsPlaceOfStep (e ∷ entries) n
  after-other e entries n none there =
      record {
        place = suc there.place;
        within = omega (arith, there.within);
        alone = next-other e entries n there.place none there.alone;
      }

  pub step-stands : (entries : List E) (n : ℕ) → n < length (steps_among made entries)
      → IsPlaceOfStep entries n
  step-stands [] n l = absurd (omega (arith, l))
  step-stands (e ∷ entries) n l =
      let fewer = λ (o : Option Step) (is : made e ≡ o). ap
      (λ (s : Option Step). length (cons_option s (steps_among made entries))) is in
      (elim (made e) as (λ (o : Option Step). made e ≡ o → IsPlaceOfStep (e ∷ entries) n) [
        | None ↦ λ is. after-other e entries n is (step-stands entries n (omega (arith, l, fewer None is)))
        | Some x ↦ λ is. after-step e entries x n is
            (λ m same. step-stands entries m (omega (arith, l, same, fewer (Some x) is)))
      ]) refl

  -- how often a step's place is among those of places of entries
  one-place : (n m count rest place p : ℕ) (b : Bool) → (b && nat_eq n m) ≡ nat_eq place p
      → count ≡ cond b (cond (nat_eq n m) 1 0 + rest) rest → count ≡ cond (nat_eq place p) 1 0 + rest
  one-place n m count rest place p true e h = omega (arith, h, ap {B = ℕ} (λ (c : Bool). cond c 1 0) e)
  one-place n m count rest place p false e h = omega (arith, h, ap {B = ℕ} (λ (c : Bool). cond c 1 0) e)

  first-count : (f : ℕ → ℕ) (n p : ℕ) (b : Bool) (rest : List ℕ)
      → count_by (nat_eq n) (map f (cond b (p ∷ rest) rest))
      ≡ cond b (cond (nat_eq n (f p)) 1 0 + count_by (nat_eq n) (map f rest))
      (count_by (nat_eq n) (map f rest))
  first-count f n p true rest = count-cons n (f p) (map f rest)
  first-count f n p false rest = refl

  count-steps : (test : ℕ → Bool) (f : ℕ → ℕ) (place n : ℕ) (own : List ℕ)
      → ((p : ℕ) → (test p && nat_eq n (f p)) ≡ nat_eq place p)
      → count_by (nat_eq n) (map f (filter test own)) ≡ count_by (nat_eq place) own
  count-steps test f place n [] same = refl
  count-steps test f place n (p ∷ own) same =
      let rest : ℕ = count_by (nat_eq n) (map f (filter test own)) in
      let here : count_by (nat_eq n) (map f (filter test (p ∷ own))) ≡ cond (nat_eq place p) 1 0 + rest =
      one-place n (f p) (count_by (nat_eq n) (map f (filter test (p ∷ own)))) rest place p (test p) (same p)
      (first-count f n p (test p) (filter test own)) in
      omega (arith, here, count-steps test f place n own same, count-cons place p own)

  -- a step stands at one place of the entries, which is owned once
  pub steps-once : (entries : List E) (own : List ℕ)
      → ((place : ℕ) → place < length entries → count_by (nat_eq place) own ≡ 1)
      → (n : ℕ) → n < length (steps_among made entries)
      → count_by (nat_eq n) (step_places made entries own) ≡ 1
  steps-once entries own once n l =
      let there : IsPlaceOfStep entries n = step-stands entries n l in
      count-steps (is_step_at made entries) (steps_before made entries) there.place n own there.alone
      ∙ once there.place there.within

  -- a place without a step is not owned by whom no such place is
  pub no-others : (entries : List E) (own : List ℕ) (place : ℕ) → other_places made entries own ≡ []
      → is_step_at made entries place ≡ false → count_by (nat_eq place) own ≡ 0
  no-others entries [] place none away = refl
  no-others entries (p ∷ own) place none away =
      by (is_step_at made entries p) refl none (λ e. no-others entries own place e away)
    where
      by : (b : Bool) → is_step_at made entries p ≡ b
          → cond (not b) (p ∷ other_places made entries own) (other_places made entries own) ≡ []
          → (other_places made entries own ≡ [] → count_by (nat_eq place) own ≡ 0)
          → count_by (nat_eq place) (p ∷ own) ≡ 0
      by true is e later =
          omega (
            arith,
            count-cons place p own,
            later e,
            here-other place p (λ same. let never : true ≡ false = sym is
                ∙ ap (is_step_at made entries) (sym same) ∙ away in cc),
          )
      by false is e later = absurd (cc)

  -- of many owners
  pub steps-of-all : {W : Type 0} (entries : List E) (own : W → List ℕ) (ws : List W)
      → step_places made entries (flat_map own ws) ≡ flat_map (λ (w : W). step_places made entries (own w)) ws
  steps-of-all entries own [] = refl
  steps-of-all entries own (w ∷ ws) =
      rw (step_places-append made entries (own w) (flat_map own ws), steps-of-all entries own ws)
