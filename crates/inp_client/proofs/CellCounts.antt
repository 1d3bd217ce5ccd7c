-- How many cells a store has, by the numbers that name them.
use Rattle.std.proofs.Common.{◌≡◌, ◌≤◌, ◌<◌, ℕ, zero, suc, ◌+◌, ◌*◌, cond, if◌then◌else◌, nat_lt, List, []}
use Rattle.std.proofs.Common.{◌∷◌, length, map, get_or, Option, Some, None, is_some, IsSome, refl, sym, ap}
use Rattle.std.proofs.Common.{inl, inr, arith, zero-add}
use Rattle.std.specs.Prelude.{count_by, sum_by, flat_map, All}
use Rattle.std.proofs.lemmas.Bool.{cases_eq, cases_lt, lt-ltb, le-ltb}
use Rattle.std.proofs.lemmas.List.{get_or_past, length-append, length-map}
use Rattle.std.proofs.lemmas.List.Sums.{sum_by-cons}
use Rattle.std.proofs.lemmas.List.Elements.{All-head, All-tail}
use Rattle.inp_ring.specs.declared.cell.Held.{Held}
use Rattle.inp_ring.specs.Store.{StoreView, held_under, cell_count, HasCell}
use Rattle.inp_ring.specs.Ring.{times, AreDifferent, IsRing}
use Rattle.inp_ring.proofs.Times.{once, once_same, once_other, times_first, times-append}
use Rattle.inp_client.specs.Clients.{distinct}
use Rattle.inp_client.specs.Member.{Member, ring_of, clients_view_in, numbers_in, times_in, wanted}
use Rattle.inp_client.specs.Numbers.{held_numbers}

-- the sum of f over so many numbers from k on
abbrev upto : (ℕ → ℕ) → ℕ → ℕ → ℕ
upto f k zero = 0
upto f k (suc l) = f k + upto f (k + 1) l

upto-add : (f g : ℕ → ℕ) (k l : ℕ) → upto (λ n. f n + g n) k l ≡ upto f k l + upto g k l
upto-add f g k zero = omega arith
upto-add f g k (suc l) = omega (arith, upto-add f g (k + 1) l)

upto-none : (k l : ℕ) → upto (λ n. 0) k l ≡ 0
upto-none k zero = refl
upto-none k (suc l) = omega (arith, upto-none (k + 1) l)

-- a number counts once where it is in the range, and else not
once_below : (m k l : ℕ) → m < k → upto (λ n. once n m) k l ≡ 0
once_below m k zero h = refl
once_below m k (suc l) h =
    omega (arith, once_other k m (λ e. omega (arith, e)), once_below m (k + 1) l (omega arith))

once_within : (m k l : ℕ) → k ≤ m → m < k + l → upto (λ n. once n m) k l ≡ 1
once_within m k zero h w = absurd (omega arith)
once_within m k (suc l) h w = elim (cases_eq m k) [
  | inl e ↦ omega (arith, once_same k, ap (λ j. once k j) e, once_below m (k + 1) l (omega (arith, e)))
  | inr d ↦ omega (arith, once_other k m d, once_within m (k + 1) l (omega (arith, d)) (omega arith))
]

once_at_most : (m k l : ℕ) → upto (λ n. once n m) k l ≤ 1
once_at_most m k l = grind (arith, once_below m k l, once_within m k l, once_past m k l)
  where
    once_past : (m k l : ℕ) → k + l ≤ m → upto (λ n. once n m) k l ≡ 0
    once_past m k zero h = refl
    once_past m k (suc l) h =
        omega (arith, once_other k m (λ e. omega (arith, e)), once_past m (k + 1) l (omega arith))

times_at_most : (q : List ℕ) (k l : ℕ) → upto (λ n. times n q) k l ≤ length q
times_at_most [] k l = omega (arith, upto-none k l)
times_at_most (m ∷ q) k l =
    omega (arith, upto-add (λ n. once n m) (λ n. times n q) k l, once_at_most m k l, times_at_most q k l)

times_exactly : (q : List ℕ) (l : ℕ) → ((n : ℕ) → 1 ≤ times n q → n < l)
    → upto (λ n. times n q) 0 l ≡ length q
times_exactly [] l h = upto-none 0 l
times_exactly (m ∷ q) l h =
    omega (
      arith,
      upto-add (λ n. once n m) (λ n. times n q) 0 l,
      once_within m 0 l (omega arith) (omega (arith, h m (omega (arith, once_same m)))),
      times_exactly q l (λ n t. h n (omega (arith, t))),
    )

apart : (o : Option Held) → IsSome o → o ≡ None → ⊥
apart None there e = cc
apart (Some x) there e = cc

module _ (f : ℕ → ℕ) where
  some_at_most : (slots : List (Option Held)) (k : ℕ)
      → ((j : ℕ) → IsSome (get_or slots j None) → 1 ≤ f (k + j))
      → count_by is_some slots ≤ upto f k (length slots)
  some_at_most [] k h = omega arith
  some_at_most (x ∷ slots) k h =
      let at : (j : ℕ) → k + suc j ≡ k + 1 + j = λ j. omega arith in
      let here : k + 0 ≡ k = omega arith in
      omega (
        arith,
        sum_by-cons (λ (o : Option Held). cond (is_some o) 1 0) x slots,
        one x (λ s. omega (arith, h 0 s, ap f here)),
        some_at_most slots (k + 1) (λ j s. omega (arith, h (suc j) s, ap f (at j))),
      )
    where
      one : (x : Option Held) → (IsSome x → 1 ≤ f k) → cond (is_some x) 1 0 ≤ f k
      one None h = omega arith
      one (Some x) h = h refl

  some_at_least : (slots : List (Option Held)) (k : ℕ) → ((j : ℕ) → f (k + j) ≤ 1)
      → ((j : ℕ) → 1 ≤ f (k + j) → IsSome (get_or slots j None))
      → upto f k (length slots) ≤ count_by is_some slots
  some_at_least [] k le h = omega arith
  some_at_least (x ∷ slots) k le h =
      let at : (j : ℕ) → k + suc j ≡ k + 1 + j = λ j. omega arith in
      let here : k + 0 ≡ k = omega arith in
      omega (
        arith,
        sum_by-cons (λ (o : Option Held). cond (is_some o) 1 0) x slots,
        one x (omega (arith, le 0, ap f here)) (λ s. h 0 (omega (arith, s, ap f here))),
        some_at_least slots (k + 1) (λ j. omega (arith, le (suc j), ap f (at j)))
            (λ j s. h (suc j) (omega (arith, s, ap f (at j)))),
      )
    where
      one : (x : Option Held) → f k ≤ 1 → (1 ≤ f k → IsSome x) → f k ≤ cond (is_some x) 1 0
      one None le h =
          elim (cases_lt 0 (f k)) [ inl some ↦ absurd (apart None (h (omega arith)) refl) | inr none ↦ none ]
      one (Some x) le h = le

-- no more cells than numbers, where each cell has one
pub cells_few : (s : StoreView) (q : List ℕ) → ((n : ℕ) → HasCell s n → 1 ≤ times n q)
    → cell_count s ≤ length q
cells_few s q h =
    omega (
      arith,
      some_at_most (λ n. times n q) s.slots 0 (λ j there. rw zero-add (h j there)),
      times_at_most q 0 (length s.slots),
    )

-- no more numbers than cells, where they are different and each has a cell
pub cells_many : (s : StoreView) (q : List ℕ) → AreDifferent q → ((n : ℕ) → 1 ≤ times n q → HasCell s n)
    → length q ≤ cell_count s
cells_many s q different h =
    omega (
      arith,
      times_exactly q (length s.slots) (λ n t. within n (h n t)),
      some_at_least (λ n. times n q) s.slots 0 (λ j. different (0 + j)) (λ j t. h j (rw zero-add at t)),
    )
  where
    within : (n : ℕ) → HasCell s n → n < length s.slots
    within n there = elim (cases_lt n (length s.slots)) [
      | inl lt ↦ lt
      | inr past ↦ let none : held_under s n ≡ None =
          get_or_past s.slots n None past in absurd (apart (held_under s n) there none)
    ]

-- each number once
record IsDistinct (n : ℕ) (q d : List ℕ) : Type 0 where
  pub once_at_most : times n d ≤ 1
  -- a number of the list is among the different ones
  pub there : 1 ≤ times n q → 1 ≤ times n d
  -- a number stands there no more often than in the list
  pub no_more : times n d ≤ times n q

distinct_more : (n m : ℕ) (q d : List ℕ) → IsDistinct n q d
    → IsDistinct n (m ∷ q) (if nat_lt 0 (times m q) then d else m ∷ d)
distinct_more n m q d rest = elim (cases_lt 0 (times m q)) [
  | inl there ↦
      rw lt-ltb (record {
        once_at_most = rest.once_at_most;
        there = λ h. grind (arith, there, h, rest.there, once_other n m);
        no_more = omega (arith, rest.no_more);
      })
  | inr none ↦
      rw le-ltb (record {
        once_at_most = grind (arith, rest.no_more, rest.once_at_most, none, once_same m, once_other n m);
        there = λ h. grind (arith, h, rest.there);
        no_more = omega (arith, rest.no_more);
      })
]

distinct_times : (n : ℕ) (q : List ℕ) → IsDistinct n q (distinct q)
distinct_times n [] = record { once_at_most = omega arith; there = λ h. h; no_more = omega arith }
distinct_times n (m ∷ q) = distinct_more n m q (distinct q) (distinct_times n q)

-- as many cells as there are different numbers
pub cells_exactly : (s : StoreView) (q : List ℕ) → ((n : ℕ) → HasCell s n → 1 ≤ times n q)
    → ((n : ℕ) → 1 ≤ times n q → HasCell s n) → cell_count s ≡ length (distinct q)
cells_exactly s q some all =
    omega (
      arith,
      cells_few s (distinct q) (λ n h. (distinct_times n q).there (some n h)),
      cells_many s (distinct q) (λ n. (distinct_times n q).once_at_most)
          (λ n h. all n (omega (arith, h, (distinct_times n q).no_more))),
    )

-- No more different numbers than there are in a list that has them all

bound : List ℕ → ℕ
bound [] = 0
bound (m ∷ q) = m + 1 + bound q

below_bound : (n : ℕ) (q : List ℕ) → 1 ≤ times n q → n < bound q
unfolding bound
below_bound n [] h = absurd (omega arith)
below_bound n (m ∷ q) h = elim (cases_eq n m) [
  | inl e ↦ omega (arith, e)
  | inr d ↦ omega (arith, below_bound n q (omega (arith, h, once_other n m (λ e. d (sym e)))))
]

upto-le : (f g : ℕ → ℕ) (k l : ℕ) → ((n : ℕ) → f n ≤ g n) → upto f k l ≤ upto g k l
upto-le f g k zero h = omega arith
upto-le f g k (suc l) h = omega (arith, h k, upto-le f g (k + 1) l h)

different_few : (q r : List ℕ) → AreDifferent q → ((n : ℕ) → 1 ≤ times n q → 1 ≤ times n r)
    → length q ≤ length r
different_few q r different h =
    omega (
      arith,
      times_exactly q (bound q) (λ n t. below_bound n q t),
      upto-le (λ n. times n q) (λ n. times n r) 0 (bound q) le,
      times_at_most r 0 (bound q),
    )
  where
    le : (n : ℕ) → times n q ≤ times n r
    le n = grind (arith, h n, different n)

-- each number of the first list is in the second one, where it stands once at least
pub distinct_few : (q r : List ℕ) → ((n : ℕ) → 1 ≤ times n q → 1 ≤ times n r) → length (distinct q) ≤ length r
distinct_few q r h =
    different_few (distinct q) r (λ n. (distinct_times n q).once_at_most)
    (λ n t. h n (omega (arith, t, (distinct_times n q).no_more)))

-- a number is among the different ones
pub distinct_there : (n : ℕ) (q : List ℕ) → 1 ≤ times n q → 1 ≤ times n (distinct q)
distinct_there n q there = (distinct_times n q).there there

-- No more values than numbers that they come from

module _ (f : ℕ → ℕ) where
  comes_from : (n : ℕ) (q : List ℕ) → 1 ≤ times n (map f q) → (m : ℕ) × (f m ≡ n) × (1 ≤ times m q)
  comes_from n [] there = absurd (omega arith)
  comes_from n (x ∷ q) there = elim (cases_eq n (f x)) [
    | inl e ↦ (x, sym e, times_first x q)
    | inr d ↦ let rest =
        comes_from n q (omega (arith, there, once_other n (f x) (λ e. d (sym e)))) in
        (rest.0, rest.1, omega (arith, rest.2))
  ]

  goes_to : (m : ℕ) (q : List ℕ) → 1 ≤ times m q → 1 ≤ times (f m) (map f q)
  goes_to m [] there = absurd (omega arith)
  goes_to m (x ∷ q) there = elim (cases_eq m x) [
    | inl e ↦ omega (arith, times_first (f x) (map f q), ap (λ k. times (f k) (map f (x ∷ q))) e)
    | inr d ↦ omega (arith, goes_to m q (omega (arith, there, once_other m x (λ e. d (sym e)))))
  ]

  -- each value comes from one of the different numbers, so no more values differ
  pub distinct-map : (q : List ℕ) → length (distinct (map f q)) ≤ length (distinct q)
  distinct-map q = omega (arith, distinct_few (map f q) (map f (distinct q)) among, length-map (distinct q) f)
    where
      among : (n : ℕ) → 1 ≤ times n (map f q) → 1 ≤ times n (map f (distinct q))
      among n there =
          let from = comes_from n q there in
          rw from.1 at (goes_to from.0 (distinct q) (distinct_there from.0 q from.2))

-- how often a client's ring has a number, and how many cells it wants
abbrev pub times_of : ℕ → Member → ℕ
times_of n m = times n m.ring.events

abbrev pub wanted_of : Member → ℕ
wanted_of m = m.ring.places + 1

-- how often a number is in all rings
pub times-numbers_in : (n : ℕ) (ms : List Member) → times n (numbers_in ms) ≡ times_in n ms
times-numbers_in n [] = refl
times-numbers_in n (m ∷ ms) =
    omega (
      arith,
      times-append n m.ring.events (numbers_in ms),
      sum_by-cons (times_of n) m ms,
      times-numbers_in n ms,
    )

-- how many numbers there are in all rings
pub length-numbers_in : (ms : List Member) → length (numbers_in ms) ≡ sum_by (λ m. length m.ring.events) ms
length-numbers_in [] = refl
length-numbers_in (m ∷ ms) =
    omega (
      arith,
      length-append m.ring.events (numbers_in ms),
      sum_by-cons (λ (m : Member). length m.ring.events) m ms,
      length-numbers_in ms,
    )

-- a ring wants two cells more than it can have numbers
pub numbers_fit : (ms : List Member) → All (λ m. IsRing (ring_of m)) ms
    → length (numbers_in ms) + 2 * length ms ≤ wanted ms
numbers_fit [] rings = omega arith
numbers_fit (m ∷ ms) rings =
    let first = All-head (λ m. IsRing (ring_of m)) m ms rings in
    omega (
      arith,
      first.room,
      length-append m.ring.events (numbers_in ms),
      sum_by-cons wanted_of m ms,
      numbers_fit ms (All-tail (λ m. IsRing (ring_of m)) m ms rings),
    )

-- what the rings want in all
pub wanted_few : (ms : List Member) → All (λ m. IsRing (ring_of m)) ms → wanted ms ≤ 4097 * length ms
wanted_few [] rings = omega arith
wanted_few (m ∷ ms) rings =
    let first = All-head (λ m. IsRing (ring_of m)) m ms rings in
    omega (
      arith,
      first.most,
      sum_by-cons wanted_of m ms,
      wanted_few ms (All-tail (λ m. IsRing (ring_of m)) m ms rings),
    )

-- The numbers of all rings

abbrev pub rings_of : List Member → List (List ℕ)
rings_of ms = map (λ (m : Member). m.ring.events) ms

-- the rings of the clients, one after the other, have all numbers
pub held_numbers-rings : (ms : List Member) → flat_map (λ (q : List ℕ). q) (rings_of ms) ≡ numbers_in ms
held_numbers-rings [] = refl
held_numbers-rings (m ∷ ms) = rw (held_numbers-rings ms)

-- the rings of the view are those of the clients
pub times-clients_view_in : (n : ℕ) (s : StoreView) (ms : List Member)
    → times n (held_numbers (clients_view_in s ms)) ≡ times_in n ms
times-clients_view_in n s ms = omega (arith, ap (times n) (held_numbers-rings ms), times-numbers_in n ms)
