-- Numbers whose holders are let go one by one, from the first one on.
use Rattle.std.proofs.Common.{◌≡◌, ◌≤◌, ◌<◌, ℕ, zero, suc, ◌+◌, Bool, true, false, if◌then◌else◌, List, []}
use Rattle.std.proofs.Common.{◌∷◌, ◌++◌, length, map, take, drop, get_or, None, set, ◌-◌, refl, sym, ap, ◌∙◌}
use Rattle.std.proofs.Common.{subst, inl, inr, arith}
use Rattle.std.specs.Prelude.{min}
use Rattle.std.proofs.lemmas.Bool.{cases_lt}
use Rattle.std.proofs.Math.Seq.{drop-append-add, take-length, take-append_seam, drop-append_seam}
use Rattle.std.proofs.lemmas.List.{drop_more, length-append, length-map, length-take, length-take-le}
use Rattle.std.proofs.lemmas.List.{append-nil, set-append_right, map_more, get_or-map, append_assoc}
use Rattle.std.proofs.lemmas.List.{take-append-le, take-append-drop}
use Rattle.std.proofs.lemmas.List.Elements.{All-get_or, All-nil, All-cons, All-head, All-tail}
use Rattle.inp_model.specs.declared.stamped.TheConstants.{MOMENT_MAX}
use Rattle.inp_model.specs.declared.taken.Taken.{Taken}
use Rattle.inp_model.specs.Reply.{written}
use Rattle.inp_ring.specs.declared.cell.Cell.{Cell}
use Rattle.inp_ring.specs.Store.{StoreView, held_under, cell_count, held_less, IsPut}
use Rattle.inp_ring.specs.Ring.{times, AreFit, AreHeld, IsTakenOut, cell_at, some_cell, queue_in}
use Rattle.inp_ring.proofs.Times.{times_first, times-drop-le, times-append}
use Rattle.circular_buffer.specs.Buffer.{keep_last}
use Rattle.inp_ring.proofs.Rings.{queue_stays}
use Rattle.inp_ring.proofs.Moves.{held_moved, taken_none, taken_then, idle_out, taken_first, taken_beside}

-- the holders of so many of the numbers were let go, from the first one on
pub record IsLetGo (first : StoreView) (q : List ℕ) (s : StoreView) (at : ℕ) : Type 0 where
  pub taken : IsTakenOut first s q (drop at q)
  pub held : AreHeld first q

pub let_go_none : (s : StoreView) (q : List ℕ) → AreHeld s q → IsLetGo s q s 0
let_go_none s q h = record { taken = taken_none s q; held = h }

module _ {first s : StoreView} {q : List ℕ} {at : ℕ} (r : IsLetGo first q s at) (in_q : at < length q) where
  abbrev next : ℕ
  next = get_or q at 0

  -- it stands first in what is left
  left_is : drop at q ≡ next ∷ drop (at + 1) q
  left_is = drop_more q at 0 in_q

  left_held : AreHeld s (drop at q)
  left_held = held_moved r.taken.moved r.held

  there : 1 ≤ times next (drop at q)
  there = omega (arith, ap (times next) left_is, times_first next (drop (at + 1) q))

  -- its cell is as it was at first
  pub let_go_cell : cell_at s next ≡ cell_at first next
  let_go_cell = ap some_cell (r.taken.stay next there)

  -- one more is let go
  pub let_go_more : (new : StoreView) → IsPut s new next (held_less (held_under s next)) → s.spare ≤ new.spare
      → cell_count s + s.spare ≤ cell_count new + new.spare → IsLetGo first q new (at + 1)
  let_go_more new put spare room =
      let subset : (n : ℕ) → times n (drop at q) ≤ times n q = λ n. times-drop-le n at q in
      let P : List ℕ → Type 0 = λ l. IsTakenOut s new l (drop (at + 1) q) in
      let H : List ℕ → Type 0 = λ l. AreHeld s l in
      let one : IsTakenOut s new (drop at q) (drop (at + 1) q) =
      subst P (sym left_is) (taken_first next (drop (at + 1) q) (subst H left_is left_held) put spare room) in
      record {
        taken = taken_then r.taken one (λ n i. omega (arith, subset n, idle_out first q n r.held i));
        held = r.held;
      }

-- the parts of a queue that is fit are fit
abbrev Timed : Cell → Type 0
Timed cell = cell.now ≤ MOMENT_MAX

fit_first : (s : StoreView) (p r : List ℕ) → AreFit (queue_in s (p ++ r)) → AreFit (queue_in s p)
fit_first s [] r fit = All-nil Timed
fit_first s (x ∷ p) r fit =
    All-cons Timed (cell_at s x) (queue_in s p) (All-head Timed (cell_at s x) (queue_in s (p ++ r)) fit)
    (fit_first s p r (All-tail Timed (cell_at s x) (queue_in s (p ++ r)) fit))

fit_last : (s : StoreView) (p r : List ℕ) → AreFit (queue_in s (p ++ r)) → AreFit (queue_in s r)
fit_last s [] r fit = fit
fit_last s (x ∷ p) r fit = fit_last s p r (All-tail Timed (cell_at s x) (queue_in s (p ++ r)) fit)

-- The numbers that lie in the front and in the back slice of a buffer, and what is left of it.
module _ (front back q : List ℕ) (all : front ++ back ≡ q) (count in_front : ℕ)
    (in_is : in_front ≡ min count (length front)) (within : count ≤ length q) where
  pub in_parts : q ≡ take in_front front ++ (take (count - in_front) back ++ drop count q)
  in_parts = elim (cases_lt (length front) count) [
    | inl past ↦
        let more = count - in_front in
        let whole : in_front ≡ length front = omega arith in
        let long : count ≡ length front + more = omega arith in
        let dropped : drop count q ≡ drop more back = rw (← long, all) at (drop-append-add front back more) in
        cc (all, take-append-drop more back, dropped, take-length front, whole)
    | inr inside ↦
        let same : count ≡ in_front = omega arith in
        let none : 0 ≡ count - in_front = omega arith in
        rw (← none, ← same, ← take-append-le count front back inside, all, take-append-drop count q)
  ]

  abbrev first_part : List ℕ
  first_part = take in_front front

  abbrev second_part : List ℕ
  second_part = take (count - in_front) back

  pub take_parts : take count q ≡ first_part ++ second_part
  take_parts =
      let long : length (first_part ++ second_part) ≡ count =
      omega (
        arith,
        length-append first_part second_part,
        length-take in_front front,
        length-take (count - in_front) back,
        ap length all,
        length-append front back,
      ) in
      rw (
        long,
        append_assoc first_part second_part (drop count q),
        ← in_parts,
      ) at (take-append_seam (first_part ++ second_part) (drop count q))

  module _ (s : StoreView) (held : AreHeld s q) where
    pub first_held : AreHeld s first_part
    first_held n =
        omega (arith, held n, ap (times n) in_parts, times-append n first_part (second_part ++ drop count q))

    module _ {t : StoreView} (first_out : IsTakenOut s t first_part []) where
      beside : IsTakenOut s t (first_part ++ (second_part ++ drop count q)) (second_part ++ drop count q)
      beside = let P : List ℕ → Type 0 =
          λ l. AreHeld s l in
          taken_beside first_part (second_part ++ drop count q) (subst P in_parts held) first_out

      rest_held : AreHeld t (second_part ++ drop count q)
      rest_held = let P : List ℕ → Type 0 =
          λ l. AreHeld s l in held_moved beside.moved (subst P in_parts held)

      pub second_held : AreHeld t second_part
      second_held n = omega (arith, rest_held n, times-append n second_part (drop count q))

      pub second_stays : queue_in t second_part ≡ queue_in s second_part
      second_stays =
          queue_stays s t second_part
          (λ n there. beside.stay n (omega (arith, there, times-append n second_part (drop count q))))

      pub both_out : {u : StoreView} (rest : List ℕ) → IsTakenOut t u second_part [] → rest ≡ drop count q
          → IsTakenOut s u q rest
      both_out {u} rest second_out e =
          let P : List ℕ → Type 0 = λ l. IsTakenOut s u l (drop count q) in
          let Q : List ℕ → Type 0 = λ l. IsTakenOut s u q l in
          subst Q (sym e) (subst P (sym in_parts) (
          taken_then beside (taken_beside second_part (drop count q) rest_held second_out)
          (λ n i. omega (
            arith,
            idle_out s q n held i,
            ap (times n) in_parts,
            times-append n first_part (second_part ++ drop count q),
          ))))

  module _ (s : StoreView) (fit : AreFit (queue_in s q)) where
    pub first_fit : AreFit (queue_in s first_part)
    first_fit =
        fit_first s first_part (second_part ++ drop count q) (let P : List ℕ → Type 0 =
        λ l. AreFit (queue_in s l) in subst P in_parts fit)

    pub second_fit : AreFit (queue_in s second_part)
    second_fit =
        fit_first s second_part (drop count q)
        (fit_last s first_part (second_part ++ drop count q) (let P : List ℕ → Type 0 =
        λ l. AreFit (queue_in s l) in subst P in_parts fit))

-- what is left where all but the oldest numbers stay
pub left_is_rest : (q : List ℕ) (count : ℕ) → count ≤ length q → keep_last (length q - count) q ≡ drop count q
left_is_rest q count within = let e : length q - (length q - count) ≡ count = omega arith in rw e

-- no less is spare where a cell may go
pub spare_less : (b : Bool) (s n : ℕ) → n ≡ (if b then s + 1 else s) → s ≤ n
spare_less true s n e = omega (arith, e)
spare_less false s n e = omega (arith, e)

-- a cell of a queue that is fit
pub fit_cell : (s : StoreView) (q : List ℕ) (at : ℕ) → AreFit (queue_in s q) → at < length q
    → (cell_at s (get_or q at 0)).now ≤ MOMENT_MAX
fit_cell s q at fit h =
    let long : at < length (queue_in s q) = omega (arith, length-map q (cell_at s)) in
    let now : ℕ → ℕ = λ n. n in
    omega (
      arith,
      All-get_or (λ (cell : Cell). cell.now ≤ MOMENT_MAX)
          (queue_in s q) at (some_cell None) long fit,
      ap (λ (c : Cell). c.now) (get_or-map (cell_at s) q at 0 (some_cell None) h),
    )

nothing : (k : ℕ) → let none : List Taken = [] in none ≡ drop k none
nothing zero = refl
nothing (suc k) = refl

dropped_twice : (m n : ℕ) (l : List Taken) → drop m (drop n l) ≡ drop (n + m) l
dropped_twice m zero l = let e : m ≡ 0 + m = omega arith in rw (← e)
dropped_twice m (suc n) [] = sym (nothing m) ∙ nothing (suc n + m)
dropped_twice m (suc n) (x ∷ l) = let e : suc (n + m) ≡ suc n + m =
    omega arith in rw (← e, ← dropped_twice m n l)

-- Events of so many cells were written to a buffer, from an index on.
module _ (f : Cell → Taken) (cells : List Cell) (first : List Taken) (from : ℕ) where
  pub read_none : first ≡ (take from first ++ map f (take 0 cells)) ++ drop (from + 0) first
  read_none =
      let e : from ≡ from + 0 = omega arith in
      rw (← e, append-nil (take from first), take-append-drop from first)

  pub read_more : (out : List Taken) (at : ℕ) (d : Cell)
      → out ≡ (take from first ++ map f (take at cells)) ++ drop (from + at) first → at < length cells
      → from + at < length first →
      set out (from + at) (f (get_or cells at d)) ≡ (take from first ++ map f (take (at + 1) cells))
      ++ drop (from + (at + 1)) first
  read_more out at d e h room =
      let front = take from first ++ map f (take at cells) in
      let k = from + at in
      let x = f (get_or cells at d) in
      let long : length front ≡ k =
      omega (
        arith,
        length-append (take from first) (map f (take at cells)),
        length-take-le from first (omega arith),
        length-map (take at cells) f,
        length-take-le at cells (omega arith),
      ) in
      let none : k - k ≡ 0 = omega arith in
      let next : k + 1 ≡ from + (at + 1) = omega arith in
      rw (
        e,
        set-append_right front (drop k first) k k x long (omega arith),
        none,
        drop_more first k x room,
        ← append_assoc front (x ∷ []) (drop (k + 1) first),
        append_assoc (take from first) (map f (take at cells)) (x ∷ []),
        ← map_more f cells at d h,
        next,
      )

  pub read_all : (out : List Taken) (at : ℕ)
      → out ≡ (take from first ++ map f (take at cells)) ++ drop (from + at) first → at ≡ length cells
      → out ≡ take from first ++ written (map f cells) (drop from first)
  read_all out at e past =
      let all : take at cells ≡ cells = rw past (take-length cells) in
      let long : at ≡ length (map f cells) = past ∙ sym (length-map cells f) in
      rw (
        e,
        append_assoc (take from first) (map f (take at cells)) (drop (from + at) first),
        all,
        long,
        ← dropped_twice (length (map f cells)) from first,
      )

-- written in two parts
pub read_parts : (xs ys first : List Taken) (at : ℕ) → length xs ≡ at
    → take at (written xs first) ++ written ys (drop at (written xs first)) ≡ written (xs ++ ys) first
read_parts xs ys first at long =
    let rest = drop (length xs) first in
    rw (
      ← long,
      take-append_seam xs rest,
      drop-append_seam xs rest,
      dropped_twice (length ys) (length xs) first,
      ← append_assoc xs ys (drop (length xs + length ys) first),
      ← length-append xs ys,
    )
