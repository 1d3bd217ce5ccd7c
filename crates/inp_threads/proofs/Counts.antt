-- How often a place stands among those of calls and of many callers, and a number among theirs.
use Rattle.std.proofs.Common.{◌≡◌, ℕ, zero, suc, ◌+◌, ◌≤◌, Bool, true, false, cond, nat_eq, List, [], ◌∷◌}
use Rattle.std.proofs.Common.{refl, sym, ap, ◌∙◌, arith, inl, inr, eq-eqb, Some, ◌&&◌, if◌then◌else◌, ◌++◌}
use Rattle.std.proofs.Common.{zero-add}
use Rattle.std.specs.Prelude.{slice_get, map, filter, flat_map}
use Rattle.std.specs.List.{count_by, range_with_len, sum_by}
use Rattle.std.proofs.lemmas.Bool.{cases_lt}
use Rattle.inp_turn.proofs.Places.{count-append, count-behind, count-cons, count-within}
use Rattle.std.proofs.lemmas.Bool.Decides.{nat_tests}
use Rattle.std.proofs.lemmas.List.Sums.{sum_by-cons}
use Rattle.inp_model.specs.Evdev.{own_after}
use Rattle.inp_script.proofs.Common.{Reply, is_accepted, Call, place_of, ActorView, sight_of_calls}
use Rattle.inp_runs.specs.Job.{calls_at}
use Rattle.inp_runs.proofs.Entries.{entries, entries-cons_call}
use Rattle.inp_model.specs.Leaves.{places_of}

-- Numbers, and who has a place

first-kept : (n : ℕ) (b : Bool) (m : ℕ) (ns : List ℕ)
    → count_by (nat_eq n) (cond b (m ∷ ns) ns) ≤ cond (nat_eq n m) 1 0 + count_by (nat_eq n) ns
first-kept n true m ns = omega (arith, count-cons n m ns)
first-kept n false m ns = omega arith

kept-counted : (n : ℕ) (p : ℕ → Bool) (ns : List ℕ)
    → count_by (nat_eq n) (filter p ns) ≤ count_by (nat_eq n) ns
kept-counted n p [] = omega arith
kept-counted n p (m ∷ ns) =
    omega (arith, first-kept n (p m) m (filter p ns), kept-counted n p ns, count-cons n m ns)

in-range : (n most : ℕ) → count_by (nat_eq n) (range_with_len 0 most) ≤ 1
in-range n most = elim (cases_lt n most) [
  | inl below ↦ omega (arith, count-within n 0 most (omega arith) (omega (arith, below)))
  | inr above ↦ omega (arith, count-behind n 0 most (omega (arith, above)))
]

abbrev weight : Bool → ℕ
weight b = cond b 1 0

module _ {W : Type 0} where
  -- one of them has the place
  pub record HasIn (own : W → List ℕ) (place : ℕ) (ws : List W) : Type 0 where
    -- where it stands among them
    pub index : ℕ
    -- who has the place
    pub item : W
    -- it stands there
    pub is : slice_get ws index ≡ Some item
    -- the place is among its own
    pub some : 1 ≤ count_by (nat_eq place) (own item)

  -- the own places of all are those of each, one after another, so one of them has it
  pub one-has : (own : W → List ℕ) (place : ℕ) (ws : List W) → 1 ≤ count_by (nat_eq place) (flat_map own ws)
      → HasIn own place ws
  one-has own place [] h = absurd (omega (arith, h))
  one-has own place (w ∷ ws) h = elim (cases_lt 0 (count_by (nat_eq place) (own w))) [
    | inl some ↦ record { index = 0; item = w; is = refl; some = omega (arith, some) }
    | inr none ↦
        (let later : HasIn own place ws =
        one-has own place ws (omega (arith, h, none, count-append place (own w) (flat_map own ws))) in
        record { index = suc later.index; item = later.item; is = later.is; some = later.some })
  ]

  -- a number that stands in the list is counted
  counted : (number : W → ℕ) (ws : List W) (k : ℕ) (w : W) → slice_get ws k ≡ Some w
      → 1 ≤ count_by (nat_eq (number w)) (map number ws)
  counted number [] k w at = absurd cc
  counted number (v ∷ ws) zero w at =
      let same : v ≡ w = cc in
      let flag : cond (nat_eq (number w) (number v)) 1 0 ≡ 1 =
      ap weight (eq-eqb (number w) (number v) (ap number (sym same))) in
      omega (arith, flag, count-cons (number w) (number v) (map number ws))
  counted number (v ∷ ws) (suc k) w at =
      omega (arith, counted number ws k w at, count-cons (number w) (number v) (map number ws))

  -- and one behind a worker with its number makes it stand twice
  twice : (number : W → ℕ) (v : W) (ws : List W) (m : ℕ) (u : W)
      → count_by (nat_eq (number u)) (map number (v ∷ ws)) ≤ 1 → slice_get ws m ≡ Some u
      → number v ≡ number u → ⊥
  twice number v ws m u few there same =
      let flag : cond (nat_eq (number u) (number v)) 1 0 ≡ 1 =
      ap weight (eq-eqb (number u) (number v) (sym same)) in
      omega (arith, few, flag, counted number ws m u there, count-cons (number u) (number v) (map number ws))

  -- two with the same number are one
  pub same-worker : (number : W → ℕ) (ws : List W) (k m : ℕ) (w u : W) → slice_get ws k ≡ Some w
      → slice_get ws m ≡ Some u → number w ≡ number u
      → ((n : ℕ) → count_by (nat_eq n) (map number ws) ≤ 1) → w ≡ u
  same-worker number [] k m w u at there same few = absurd cc
  same-worker number (v ∷ ws) zero zero w u at there same few = cc
  same-worker number (v ∷ ws) zero (suc m) w u at there same few =
      let first : v ≡ w = cc in
      absurd (twice number v ws m u (few (number u)) there (ap number first ∙ same))
  same-worker number (v ∷ ws) (suc k) zero w u at there same few =
      let first : v ≡ u = cc in
      absurd (twice number v ws k w (few (number w)) at (ap number first ∙ sym same))
  same-worker number (v ∷ ws) (suc k) (suc m) w u at there same few =
      same-worker number ws k m w u at there same
      (λ n. omega (arith, few n, count-cons n (number v) (map number ws)))

  -- no number stands twice among ascending ones
  pub few-numbers : (number : W → ℕ) (p : ℕ → Bool) (most : ℕ) (ws : List W)
      → map number ws ≡ filter p (range_with_len 0 most) → (n : ℕ) → count_by (nat_eq n) (map number ws) ≤ 1
  few-numbers number p most ws is n =
      omega (arith, ap (count_by (nat_eq n)) is, kept-counted n p (range_with_len 0 most), in-range n most)

-- Places of calls

-- how often a place stands in a list
abbrev pub times : ℕ → List ℕ → ℕ
times place places = count_by (nat_eq place) places

either_way : (m n : ℕ) → nat_eq m n ≡ nat_eq n m
either_way m n = grind (arith, nat_tests)

-- one call
times-call : (place : ℕ) (reply : Reply)
    → times place (own_after reply []) ≡ (if is_accepted reply && nat_eq (place_of reply) place then 1 else 0)
times-call place reply =
    let one : times place (place_of reply ∷ []) ≡ (if nat_eq (place_of reply) place then 1 else 0) =
    rw (zero-add (if nat_eq place (place_of reply) then 1 else 0), either_way place (place_of reply)) in
    elim (is_accepted reply) as (λ b. times place (if b then [] ++ place_of reply ∷ [] else []) ≡
    (if b && nat_eq (place_of reply) place then 1 else 0)) [ true ↦ one | false ↦ refl ]

-- an accepted call has one place and one entry there, and any other call has neither
pub times-calls : (place : ℕ) (calls : List Call)
    → times place (places_of calls) ≡ entries place (sight_of_calls calls)
times-calls place [] = refl
times-calls place (call ∷ calls) =
    rw (
      count-append place (own_after call.answer.reply []) (places_of calls),
      times-call place call.answer.reply,
      times-calls place calls,
    ) (sym (entries-cons_call place call calls))

-- Many callers

module _ {W : Type 0} where
  -- where each has as many accepted calls at a place as it owns it, so have all together
  pub sum-places : (own : W → List ℕ) (actor : W → ActorView) (place : ℕ) (ws : List W)
      → ((k : ℕ) (w : W) → slice_get ws k ≡ Some w → calls_at place (actor w) ≡ times place (own w))
      → sum_by (calls_at place) (map actor ws) ≡ times place (flat_map own ws)
  sum-places own actor place [] each = refl
  sum-places own actor place (w ∷ ws) each =
      rw (
        sum_by-cons (calls_at place) (actor w) (map actor ws),
        each 0 w refl,
        sum-places own actor place ws (λ k v h. each (suc k) v h),
      )
      (sym (count-append place (own w) (flat_map own ws)))
