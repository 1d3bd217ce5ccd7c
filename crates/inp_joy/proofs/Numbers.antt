-- The codes of a device, one more at a time and how many there are; codes that occur once, by their
-- numbers, and what a function of them is that changes at one.
use Rattle.std.proofs.Common.{◌≡◌, ℕ, zero, suc, ◌+◌, ◌-◌, ◌<◌, ◌≤◌, Bool, true, false, cond, nat_eq, List}
use Rattle.std.proofs.Common.{[], ◌∷◌, ◌++◌, length, map, take, set, get_or, replicate, Some, None, refl, sym}
use Rattle.std.proofs.Common.{ap, ◌∙◌, arith, inl, inr, ◌⊎◌, append_assoc, append-nil, length-append}
use Rattle.std.proofs.Common.{length-take, nat_le}
use Rattle.std.specs.List.{range_with_len, filter, position_from}
use Rattle.std.proofs.lemmas.Bool.Decides.{nat_tests}
use Rattle.std.proofs.lemmas.Iterator.Adapters.{position_from-zero}
use Rattle.std.proofs.lemmas.List.{set-append_left, length-set, take_all, take_at}
use Rattle.std.proofs.lemmas.Bool.{cond_both, cases_lt, and_left, and_right, lt-leb}
use Rattle.inp_model.specs.declared.event.TheConstants.{EV_KEY, EV_ABS}
use Rattle.inp_model.specs.Description.{Description, supports, is_multi_touch_code}
use Rattle.inp_joy.specs.Codes.{codes_among, buttons, axes, number_among}
use Rattle.inp_joy.specs.Picture.{up_to_64}
use Rattle.inp_reader.specs.Reader.{axes_among}
use Rattle.inp_reader.proofs.SynthesisedEvents.{passing-more}

-- Lists of at most 64

-- what a full list gains is cut off
pub cut-full : (xs ys : List ℕ) → length xs ≡ 64 → take 64 (xs ++ ys) ≡ xs
cut-full xs ys h = take_at xs ys 64 h

-- a list of at most 64 is not cut
pub cut-few : (xs : List ℕ) → length xs ≤ 64 → take 64 xs ≡ xs
cut-few xs h = take_all 64 xs h

pub length-cut : (xs : List ℕ) → length (take 64 xs) ≤ 64
length-cut xs = omega (arith, length-take 64 xs)

-- a list may be cut before it gains more, too
cut-again : (n : ℕ) (xs ys : List ℕ) → take n (take n xs ++ ys) ≡ take n (xs ++ ys)
cut-again zero xs ys = refl
cut-again (suc n) [] ys = refl
cut-again (suc n) (x ∷ xs) ys = rw (cut-again n xs ys)

-- Codes

codes_among-more : (d : Description) (kind first code : ℕ) → first ≤ code
    → codes_among d kind first (code + 1 - first) ≡ codes_among d kind first (code - first)
    ++ cond (supports d kind code) (code ∷ []) []
unfolding codes_among
codes_among-more d kind first code h = passing-more first code (supports d kind) h

-- none yet
pub codes-none : (d : Description) (kind first : ℕ) (xs : List ℕ) → length xs ≤ 64
    → xs ≡ take 64 (xs ++ codes_among d kind first (first - first))
unfolding codes_among
codes-none d kind first xs few =
    let e : first - first ≡ 0 = omega arith in
    sym (rw (e, append-nil) (cut-few xs few))

-- a supported code more
pub codes-more : (d : Description) (kind first code : ℕ) (xs list new : List ℕ) → first ≤ code
    → supports d kind code ≡ true → list ≡ take 64 (xs ++ codes_among d kind first (code - first))
    → new ≡ take 64 (list ++ code ∷ []) → new ≡ take 64 (xs ++ codes_among d kind first (code + 1 - first))
codes-more d kind first code xs list new h is before added =
    let codes : List ℕ = codes_among d kind first (code - first) in
    rw (codes_among-more, is, ← append_assoc, ← cut-again, ← before, ← added)

-- one that is not
pub codes-skip : (d : Description) (kind first code : ℕ) (xs list : List ℕ) → first ≤ code
    → supports d kind code ≡ false → list ≡ take 64 (xs ++ codes_among d kind first (code - first))
    → list ≡ take 64 (xs ++ codes_among d kind first (code + 1 - first))
codes-skip d kind first code xs list h is before =
    let codes : List ℕ = codes_among d kind first (code - first) in
    rw (codes_among-more, is, append-nil, ← before)

-- an axis outside those of slots is no axis of them
pub single : (code : ℕ) → (code < 47) ⊎ ((62 ≤ code) × (code < 64)) → is_multi_touch_code code ≡ false
single code (inl h) = and_left (nat_le 47 code) (nat_le code 61) (lt-leb 47 code h)
single code (inr h) = and_right (nat_le 47 code) (nat_le code 61) (lt-leb code 61 h.0)

-- How many there are

length-if : (b : Bool) (x : ℕ) (xs : List ℕ) (n : ℕ) → length xs ≤ n → length (cond b (x ∷ xs) xs) ≤ suc n
length-if true x xs n h = omega (arith, h)
length-if false x xs n h = omega (arith, h)

length-among : (d : Description) (kind first count : ℕ) → length (codes_among d kind first count) ≤ count
unfolding codes_among
length-among d kind first zero = omega arith
length-among d kind first (suc count) =
    length-if (supports d kind first) first
    (filter (supports d kind) (range_with_len (first + 1) count)) count
    (length-among d kind (first + 1) count)

-- the list of buttons is cut at 64
pub length-buttons : (d : Description) → length (buttons d) ≤ 64
unfolding buttons
length-buttons d = length-cut _

-- the axes are codes of one type
pub axes-are : (d : Description) → axes d ≡ codes_among d EV_ABS 0 47 ++ codes_among d EV_ABS 62 2
unfolding axes_among codes_among
axes-are d = refl

-- the axes are among 47 codes and two more
pub length-axes : (d : Description) → length (axes d) ≤ 49
length-axes d =
    omega (
      arith,
      ap length (axes-are d),
      length-append (codes_among d EV_ABS 0 47) (codes_among d EV_ABS 62 2),
      length-among d EV_ABS 0 47,
      length-among d EV_ABS 62 2,
    )

-- Both lists, as they are made

-- cutting the first codes before the others are added gives the same as cutting once at the end
pub buttons-made : (d : Description) (first all : List ℕ)
    → first ≡ take 64 ([] ++ codes_among d EV_KEY 288 (768 - 288))
    → all ≡ take 64 (first ++ codes_among d EV_KEY 256 (288 - 256)) → all ≡ buttons d
unfolding buttons
buttons-made d first all h k =
    rw (k, h) (cut-again 64 (codes_among d EV_KEY 288 480) (codes_among d EV_KEY 256 32))

-- there are fewer than 64 axes, so the cuts leave both ranges whole
pub axes-made : (d : Description) (first all : List ℕ)
    → first ≡ take 64 ([] ++ codes_among d EV_ABS 0 (47 - 0))
    → all ≡ take 64 (first ++ codes_among d EV_ABS 62 (64 - 62)) → all ≡ axes d
axes-made d first all h k = rw (k, h, cut-again, ← axes-are) (cut-few (axes d) (omega (arith, length-axes d)))

-- How often a code occurs

abbrev pub occurs : ℕ → List ℕ → ℕ
occurs code [] = 0
occurs code (c ∷ cs) = cond (nat_eq c code) (suc (occurs code cs)) (occurs code cs)

occurs-append : (code : ℕ) (xs ys : List ℕ) → occurs code (xs ++ ys) ≡ occurs code xs + occurs code ys
occurs-append code [] ys = omega arith
occurs-append code (x ∷ xs) ys = by_flag (nat_eq x code) (occurs-append code xs ys)
  where
    by_flag : (b : Bool) → occurs code (xs ++ ys) ≡ occurs code xs + occurs code ys
        → cond b (suc (occurs code (xs ++ ys))) (occurs code (xs ++ ys))
        ≡ cond b (suc (occurs code xs)) (occurs code xs) + occurs code ys
    by_flag true h = omega (arith, h)
    by_flag false h = h

-- one more of both, or of the greater alone
more-if : (b : Bool) (m n : ℕ) → m ≤ n → cond b (suc m) m ≤ cond b (suc n) n
more-if true m n h = omega (arith, h)
more-if false m n h = h

at_most-if : (b : Bool) (m n : ℕ) → m ≤ n → m ≤ cond b (suc n) n
at_most-if true m n h = omega (arith, h)
at_most-if false m n h = h

occurs-take : (code n : ℕ) (xs : List ℕ) → occurs code (take n xs) ≤ occurs code xs
occurs-take code zero xs = omega arith
occurs-take code (suc n) [] = omega arith
occurs-take code (suc n) (x ∷ xs) =
    more-if (nat_eq x code) (occurs code (take n xs)) (occurs code xs) (occurs-take code n xs)

occurs-filter : (code : ℕ) (test : ℕ → Bool) (xs : List ℕ) → occurs code (filter test xs) ≤ occurs code xs
occurs-filter code test [] = omega arith
occurs-filter code test (x ∷ xs) =
    let some : ℕ = occurs code (filter test xs) in
    cond_both (test x) (x ∷ filter test xs) (filter test xs)
    (λ (ks : List ℕ). occurs code ks ≤ occurs code (x ∷ xs))
    (λ _. more-if (nat_eq x code) some (occurs code xs) (occurs-filter code test xs))
    (λ _. at_most-if (nat_eq x code) some (occurs code xs) (occurs-filter code test xs))

none-if : (code x : ℕ) (n : ℕ) → (x ≡ code → ⊥) → cond (nat_eq x code) (suc n) n ≡ n
none-if code x n apart =
    cond_both (nat_eq x code) _ _ (λ x. x ≡ n)
    (λ is. absurd (apart (grind (arith, nat_tests, is)))) (λ is. refl)

-- none is in a range that is past it
occurs-past : (code first n : ℕ) → code < first → occurs code (range_with_len first n) ≡ 0
occurs-past code first zero h = refl
occurs-past code first (suc n) h =
    none-if code first (occurs code (range_with_len (first + 1) n)) (λ e. omega (arith, h, e))
    ∙ occurs-past code (first + 1) n (omega (arith, h))

-- nor in one that is before it
occurs-before : (code first n : ℕ) → first + n ≤ code → occurs code (range_with_len first n) ≡ 0
occurs-before code first zero h = refl
occurs-before code first (suc n) h =
    none-if code first (occurs code (range_with_len (first + 1) n)) (λ e. omega (arith, h, e))
    ∙ occurs-before code (first + 1) n (omega (arith, h))

occurs-range : (code first n : ℕ) → occurs code (range_with_len first n) ≤ 1
occurs-range code first zero = omega arith
occurs-range code first (suc n) =
    let rest : ℕ = occurs code (range_with_len (first + 1) n) in
    cond_both (nat_eq first code) (suc rest) rest (λ (k : ℕ). k ≤ 1)
    (λ is. let e : first ≡ code = grind (arith, nat_tests, is) in
    omega (arith, occurs-past code (first + 1) n (omega (arith, e))))
    (λ _. occurs-range code (first + 1) n)

among-past : (d : Description) (kind code first n : ℕ) → code < first
    → occurs code (codes_among d kind first n) ≡ 0
unfolding codes_among
among-past d kind code first n h =
    omega (arith, occurs-filter code (supports d kind) (range_with_len first n), occurs-past code first n h)

among-before : (d : Description) (kind code first n : ℕ) → first + n ≤ code
    → occurs code (codes_among d kind first n) ≡ 0
unfolding codes_among
among-before d kind code first n h =
    omega (arith, occurs-filter code (supports d kind) (range_with_len first n), occurs-before code first n h)

among-once : (d : Description) (kind code first n : ℕ) → occurs code (codes_among d kind first n) ≤ 1
unfolding codes_among
among-once d kind code first n =
    omega (arith, occurs-filter code (supports d kind) (range_with_len first n), occurs-range code first n)

buttons-most : (d : Description) (code : ℕ)
    → occurs code (buttons d) ≤ occurs code (codes_among d EV_KEY 288 480) + occurs code
    (codes_among d EV_KEY 256 32)
unfolding buttons
buttons-most d code =
    let all : List ℕ = codes_among d EV_KEY 288 480 ++ codes_among d EV_KEY 256 32 in
    omega (
      arith,
      occurs-take code 64 all,
      occurs-append code (codes_among d EV_KEY 288 480) (codes_among d EV_KEY 256 32),
    )

-- each button occurs once
pub buttons-once : (d : Description) (code : ℕ) → occurs code (buttons d) ≤ 1
buttons-once d code = elim (cases_lt code 288) [
  | inl h ↦ omega (
    arith,
    buttons-most d code,
    among-past d EV_KEY code 288 480 h,
    among-once d EV_KEY code 256 32,
  )
  | inr h ↦ omega (
    arith,
    buttons-most d code,
    among-before d EV_KEY code 256 32 h,
    among-once d EV_KEY code 288 480,
  )
]

-- and is a key that there is
pub buttons-within : (d : Description) (code : ℕ) → 1 ≤ occurs code (buttons d) → code < 768
buttons-within d code h = elim (cases_lt code 768) [
  | inl k ↦ k
  | inr k ↦ (let past : 256 + 32 ≤ code =
      omega (arith, k) in
      absurd
      (omega (
        arith,
        h,
        buttons-most d code,
        among-before d EV_KEY code 288 480 k,
        among-before d EV_KEY code 256 32 past,
      )))
]

axes-all : (d : Description) (code : ℕ)
    → occurs code (axes d) ≡ occurs code (codes_among d EV_ABS 0 47) + occurs code (codes_among d EV_ABS 62 2)
axes-all d code = rw axes-are (occurs-append code (codes_among d EV_ABS 0 47) (codes_among d EV_ABS 62 2))

-- the two ranges of axes have no code in common, and each has a code once
pub axes-once : (d : Description) (code : ℕ) → occurs code (axes d) ≤ 1
axes-once d code = elim (cases_lt code 62) [
  | inl h ↦ omega (arith, axes-all d code, among-past d EV_ABS code 62 2 h, among-once d EV_ABS code 0 47)
  | inr h ↦ (let past : 0 + 47 ≤ code =
      omega (arith, h) in
      omega (arith, axes-all d code, among-before d EV_ABS code 0 47 past, among-once d EV_ABS code 62 2))
]

-- each axis has a value of its own
pub axes-within : (d : Description) (code : ℕ) → 1 ≤ occurs code (axes d)
    → (code < 47) ⊎ ((62 ≤ code) × (code < 64))
axes-within d code h = by (cases_lt code 47) (cases_lt code 62) (cases_lt code 64)
  where
    by : (code < 47) ⊎ (47 ≤ code) → (code < 62) ⊎ (62 ≤ code) → (code < 64) ⊎ (64 ≤ code)
        → (code < 47) ⊎ ((62 ≤ code) × (code < 64))
    by (inl k) l m = inl k
    by (inr k) (inl l) m =
        absurd
        (omega (
          arith,
          h,
          axes-all d code,
          among-before d EV_ABS code 0 47 k,
          among-past d EV_ABS code 62 2 l,
        ))
    by (inr k) (inr l) (inl m) = inr (l, m)
    by (inr k) (inr l) (inr m) =
        absurd
        (omega (
          arith,
          h,
          axes-all d code,
          among-before d EV_ABS code 0 47 k,
          among-before d EV_ABS code 62 2 m,
        ))

-- A function of codes, and one that may differ from it at one code

-- where the code does not occur, the functions agree at each code of the list
pub map-same : {X : Type 0} (f g : ℕ → X) (code : ℕ) (codes : List ℕ) → occurs code codes ≡ 0
    → ((c : ℕ) → nat_eq c code ≡ false → g c ≡ f c) → map g codes ≡ map f codes
map-same f g code [] none same = refl
map-same f g code (c ∷ cs) none same =
    (cond_both (nat_eq c code) _ _ (λ x. x ≡ 0 → (occurs code cs ≡ 0 → map g cs ≡ map f cs)
    → g c ∷ map g cs ≡ f c ∷ map f cs)
    (λ is k rest. absurd (omega (arith, k)))
    (λ is k rest. cc (same c is, rest k))) none (λ k. map-same f g code cs k same)

-- at the number of the code it is set
pub record IsSetAt {X : Type 0} (f g : ℕ → X) (code : ℕ) (codes : List ℕ) (k : ℕ) : Type 0 where
  -- the number is one of the list's places
  pub within : k < length codes
  -- the code is in the list
  pub occurring : 1 ≤ occurs code codes
  -- the second function's list is the first one's with one place set
  pub is_set_at : map g codes ≡ set (map f codes) k (g code)
  -- at that place the first function's list has its value at the code
  pub before : (filler : X) → get_or (map f codes) k filler ≡ f code

set-from : {X : Type 0} (f g : ℕ → X) (code : ℕ) (codes : List ℕ) (i n : ℕ) → occurs code codes ≤ 1
    → ((c : ℕ) → nat_eq c code ≡ false → g c ≡ f c) → position_from (λ c. nat_eq c code) i codes ≡ Some n
    → (k : ℕ) × (n ≡ i + k) × IsSetAt f g code codes k
set-from f g code [] i n once same h = absurd cc
set-from {X = X} f g code (c ∷ cs) i n once same h =
    by_flag (nat_eq c code) refl once h (λ o k. set-from f g code cs (i + 1) n o same k)
  where
    by_flag : (b : Bool) → nat_eq c code ≡ b → cond b (suc (occurs code cs)) (occurs code cs) ≤ 1
        → cond b (Some i) (position_from (λ x. nat_eq x code) (i + 1) cs) ≡ Some n
        → (occurs code cs ≤ 1 → position_from (λ x. nat_eq x code) (i + 1) cs ≡ Some n
        → (k : ℕ) × (n ≡ i + 1 + k) × IsSetAt f g code cs k)
        → (k : ℕ) × (n ≡ i + k) × IsSetAt f g code (c ∷ cs) k
    by_flag true is o k rest =
        let here : c ≡ code = grind (arith, nat_tests, is) in
        let at : i ≡ n = cc in (
          0,
          omega (arith, at),
          record {
            within = omega arith;
            occurring = rw is (omega arith);
            is_set_at = rw (here, map-same f g code cs (omega (arith, o)) same);
            before = λ filler. ap f here;
          },
        )
    by_flag false is o k rest =
        let r : (m : ℕ) × (n ≡ i + 1 + m) × IsSetAt f g code cs m = rest o k in (
          suc r.0,
          omega (arith, r.1),
          record {
            within = let w : r.0 < length cs = r.2.within in omega (arith, w);
            occurring = rw is r.2.occurring;
            is_set_at = rw (same, r.2.is_set_at);
            before = λ filler. r.2.before filler;
          },
        )

none-from : (code : ℕ) (codes : List ℕ) (i : ℕ) → position_from (λ c. nat_eq c code) i codes ≡ None
    → occurs code codes ≡ 0
none-from code [] i h = refl
none-from code (c ∷ cs) i h =
    cond_both (nat_eq c code) (suc (occurs code cs)) (occurs code cs) (λ (n : ℕ). n ≡ 0)
    (λ is. absurd
    (let some : Some i ≡ None = sym
    (rw is) ∙ h in cc))
    (λ is. none-from code cs (i + 1)
    (sym (rw is) ∙ h))

number-from : (code : ℕ) (codes : List ℕ)
    → number_among code codes ≡ position_from (λ c. nat_eq c code) 0 codes
number-from code codes = position_from-zero (λ c. nat_eq c code) codes

-- a code that occurs once is at one place alone, so only there the lists differ
pub number-set : {X : Type 0} (f g : ℕ → X) (code number : ℕ) (codes : List ℕ) → occurs code codes ≤ 1
    → ((c : ℕ) → nat_eq c code ≡ false → g c ≡ f c) → number_among code codes ≡ Some number
    → IsSetAt f g code codes number
number-set f g code number codes once same h =
    let r : (k : ℕ) × (number ≡ 0 + k) × IsSetAt f g code codes k =
    set-from f g code codes 0 number once same (sym (number-from code codes) ∙ h) in
    let e : r.0 ≡ number = omega (arith, r.1) in
    rw e at r.2

-- a code without a number is not in the list
pub number-none : (code : ℕ) (codes : List ℕ) → number_among code codes ≡ None → occurs code codes ≡ 0
number-none code codes h = none-from code codes 0 (sym (number-from code codes) ∙ h)

-- The same of a list that is filled up

-- a place within the list is set before the filling or after it, with the same result
pub fill-set : {X : Type 0} (filler x : X) (xs ys : List X) (k : ℕ) → k < length xs → ys ≡ set xs k x
    → up_to_64 filler ys ≡ set (up_to_64 filler xs) k x
fill-set filler x xs ys k h is =
    rw (is, length-set) (sym (set-append_left xs (replicate (64 - length xs) filler) k x h))
