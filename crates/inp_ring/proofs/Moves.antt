-- What becomes of a store as a ring's numbers change, step by step.
use Rattle.std.proofs.Common.{◌≡◌, ◌≤◌, ◌<◌, ℕ, zero, suc, ◌+◌, ◌-◌, true, nat_eq, List, [], ◌∷◌, ◌++◌}
use Rattle.std.proofs.Common.{Option, Some, None, IsSome, refl, sym, ap, ap₂, ◌∙◌, subst, inl, inr, slice_get}
use Rattle.std.proofs.Common.{arith}
use Rattle.std.proofs.lemmas.Bool.{cases_eq, eq-eqb, ne_eqb, cond-true, cond-false}
use Rattle.inp_ring.specs.declared.cell.Cell.{Cell}
use Rattle.inp_ring.specs.declared.cell.Held.{Held}
use Rattle.inp_ring.specs.Store.{StoreView, held_under, cell_in, holders, holders_of, held_cell, cell_count}
use Rattle.inp_ring.specs.Store.{held_more, held_less, held_by, HasCell, IsIdle, IsIdleSlot, IsPut}
use Rattle.inp_ring.specs.Ring.{times, AreHeld, IsMoved, IsTakenOut, IsPutAtEnd}
use Rattle.inp_ring.proofs.Times.{at_each, once, once_same, once_other, times-append, times_push}

-- Nothing moves.
pub moved_none : (s : StoreView) (q : List ℕ) → IsMoved s s q q
moved_none s q =
    record { held = λ n. refl; kept = λ n h. refl; idle = λ n h. h; rest = λ n h e. refl; room = omega arith }

pub taken_none : (s : StoreView) (q : List ℕ) → IsTakenOut s s q q
taken_none s q =
    record { moved = moved_none s q; fewer = λ n. omega arith; spare = omega arith; stay = λ n h. refl }

-- The ring stays held.
pub held_moved : {old new : StoreView} {from to : List ℕ} → IsMoved old new from to → AreHeld old from
    → AreHeld new to
held_moved {old} {new} {from} {to} m h n = omega (arith, m.held n, h n)

-- Two moves make one, where no cell without holders comes in between.
pub moved_then : {a b c : StoreView} {p q r : List ℕ} → IsMoved a b p q → IsMoved b c q r
    → ((n : ℕ) → IsIdle a n → times n r ≡ 0 → times n q ≡ 0) → IsMoved a c p r
moved_then {a} {b} {c} {p} {q} {r} m k none = record {
  held = λ n. omega (arith, m.held n, k.held n);
  kept = λ n h. let less : times n q < holders b n = omega (arith, m.held n) in k.kept n less ∙ m.kept n h;
  idle = λ n h. m.idle n (k.idle n h);
  rest = λ n i e.
      let same : held_under b n ≡ held_under a n = m.rest n i (none n i e) in
      let idle : IsIdle b n = subst IsIdleSlot (sym same) i in
      k.rest n idle e ∙ same;
  room = omega (arith, m.room, k.room);
}

pub taken_then : {a b c : StoreView} {p q r : List ℕ} → IsTakenOut a b p q → IsTakenOut b c q r
    → ((n : ℕ) → IsIdle a n → times n q ≡ 0) → IsTakenOut a c p r
taken_then {a} {b} {c} {p} {q} {r} m k none = record {
  moved = moved_then m.moved k.moved (λ n i e. none n i);
  fewer = λ n. omega (arith, m.fewer n, k.fewer n);
  spare = omega (arith, m.spare, k.spare);
  stay = λ n h. let also : 1 ≤ times n q = omega (arith, k.fewer n) in k.stay n h ∙ m.stay n also;
}

-- A cell without holders has none.
pub idle_none : (s : StoreView) (n : ℕ) → IsIdle s n → holders s n ≡ 0
idle_none s n h = none (held_under s n) h
  where
    none : (o : Option Held) → IsIdleSlot o → holders_of o ≡ 0
    none None i = refl
    none (Some x) i = i

-- It is in no ring.
pub idle_out : (s : StoreView) (q : List ℕ) (n : ℕ) → AreHeld s q → IsIdle s n → times n q ≡ 0
idle_out s q n h i = omega (arith, h n, idle_none s n i)

-- A new cell comes with its one holder.
pub moved_add : {s new : StoreView} (m : ℕ) (cell : Cell) → held_under s m ≡ None
    → IsPut s new m (held_by 1 cell) → cell_count s + s.spare ≤ cell_count new + new.spare
    → IsMoved s new [] (m ∷ [])
moved_add {s} {new} m cell none put room = record {
  held = at_each _ m (omega (arith, ap holders_of put.changed, ap holders_of none, once_same m))
      (λ n d. omega (arith, ap holders_of (put.others n d), once_other n m (λ e. d (sym e))));
  kept = at_each _ m (λ h. absurd (omega (arith, h, ap holders_of none)))
      (λ n d h. ap held_cell (put.others n d));
  idle = at_each _ m (λ h. absurd (omega (arith, ap holders_of put.changed, idle_none new m h)))
      (λ n d h. subst IsIdleSlot (put.others n d) h);
  rest = at_each _ m (λ i t. absurd (omega (arith, t, once_same m))) (λ n d i t. put.others n d);
  room = room;
}

-- The first number leaves, with the cell of which it is the last holder.
pub taken_first : {s new : StoreView} (x : ℕ) (q : List ℕ) → AreHeld s (x ∷ q)
    → IsPut s new x (held_less (held_under s x)) → s.spare ≤ new.spare
    → cell_count s + s.spare ≤ cell_count new + new.spare → IsTakenOut s new (x ∷ q) q
taken_first {s} {new} x q h put spare room = record {
  moved = record {
    held = at_each _ x (omega (arith, less, once_same x))
        (λ n d. omega (arith, ap holders_of (put.others n d), once_other n x (λ i. d (sym i))));
    kept =
        λ n fewer.
        same n
        (λ e. omega (arith, fewer, ap (λ (k : ℕ). once k x) e, once_same x, ap (λ (k : ℕ). holders s k) e));
    idle = at_each _ x (λ i. absurd (last (held_under s x) some (subst IsIdleSlot put.changed i)))
        (λ n d i. subst IsIdleSlot (put.others n d) i);
    rest = at_each _ x (λ i none. absurd (omega (arith, some, idle_none s x i)))
        (λ n d i none. put.others n d);
    room = room;
  };
  fewer = λ n. omega arith;
  spare = spare;
  stay =
      λ n there.
      same n
      (λ e. omega (
        arith,
        there,
        ap (λ (k : ℕ). once k x) e,
        once_same x,
        h n,
        ap (λ (k : ℕ). holders s k) e,
      ));
}
  where
    some : 0 < holders s x
    some = omega (arith, h x, once_same x)

    one_less : (o : Option Held) → 0 < holders_of o → holders_of (held_less o) + 1 ≡ holders_of o
    one_less None h = absurd (omega arith)
    one_less (Some h) some = elim (cases_eq h.holders 1) [
      | inl e ↦ omega (
        arith,
        e,
        ap holders_of (cond-true (nat_eq h.holders 1) None (Some (record h { holders = h.holders - 1 }))
            (eq-eqb h.holders 1 e)),
      )
      | inr d ↦ omega (
        arith,
        some,
        ap holders_of (cond-false (nat_eq h.holders 1) None (Some (record h { holders = h.holders - 1 }))
            (ne_eqb h.holders 1 d)),
      )
    ]

    less : holders new x + 1 ≡ holders s x
    less = omega (arith, ap holders_of put.changed, one_less (held_under s x) some)

    stays : (o : Option Held) → 1 < holders_of o → held_cell (held_less o) ≡ held_cell o
    stays None h = absurd (omega arith)
    stays (Some h) some =
        ap held_cell (cond-false (nat_eq h.holders 1) None (Some (record h { holders = h.holders - 1 }))
        (ne_eqb h.holders 1 (λ e. omega (arith, e))))

    last : (o : Option Held) → 0 < holders_of o → IsIdleSlot (held_less o) → ⊥
    last None some i = i
    last (Some h) some i = elim (cases_eq h.holders 1) [
      | inl e ↦ subst IsIdleSlot
          (cond-true (nat_eq h.holders 1) None (Some (record h { holders = h.holders - 1 }))
          (eq-eqb h.holders 1 e)) i
      | inr d ↦
          let idle : h.holders - 1 ≡ 0 =
          subst IsIdleSlot
          (cond-false (nat_eq h.holders 1) None (Some (record h { holders = h.holders - 1 }))
          (ne_eqb h.holders 1 d)) i in
          d (omega (arith, idle, some))
    ]

    same : (n : ℕ) → (n ≡ x → 1 < holders s x) → cell_in new n ≡ cell_in s n
    same = at_each _ x (λ many. ap held_cell put.changed ∙ stays (held_under s x) (many refl))
        (λ n d many. ap held_cell (put.others n d))

-- Beside numbers that leave others stay.
pub taken_beside : {s new : StoreView} (p r : List ℕ) → AreHeld s (p ++ r) → IsTakenOut s new p []
    → IsTakenOut s new (p ++ r) r
taken_beside {s} {new} p r h t = record {
  moved = record {
    held = λ n. omega (arith, t.moved.held n, times-append n p r);
    kept = λ n more. t.moved.kept n (omega (arith, more, times-append n p r));
    idle = t.moved.idle;
    rest = λ n i none. t.moved.rest n i refl;
    room = t.moved.room;
  };
  fewer = λ n. omega (arith, times-append n p r);
  spare = t.spare;
  stay = λ n there. t.moved.kept n (omega (arith, there, h n, times-append n p r));
}

-- The same numbers in another order.
pub taken_same : (s : StoreView) (p q : List ℕ) → ((n : ℕ) → times n p ≡ times n q) → IsTakenOut s s p q
taken_same s p q same = record {
  moved = record {
    held = λ n. omega (arith, same n);
    kept = λ n h. refl;
    idle = λ n h. h;
    rest =
        λ n h e. refl;
    room = omega arith;
  };
  fewer = λ n. omega (arith, same n);
  spare = omega arith;
  stay = λ n h. refl;
}

-- A cell that is held is there.
pub held_there : (s : StoreView) (n : ℕ) → 0 < holders s n → HasCell s n
held_there s n h = there (held_under s n) h
  where
    there : (o : Option Held) → 0 < holders_of o → IsSome o
    there None h = absurd (omega arith)
    there (Some x) h = refl

-- The number that is in the list at an index has a cell.
pub number_there : (s : StoreView) (q : List ℕ) (at x : ℕ) → AreHeld s q
    → slice_get q at ≡ Some x → HasCell s x
number_there s q at x held e = held_there s x (omega (arith, held x, among q at e))
  where
    among : (r : List ℕ) (i : ℕ) → slice_get r i ≡ Some x → 1 ≤ times x r
    among [] i e = cc
    among (y ∷ r) zero e = let same : y ≡ x = cc in omega (arith, ap (λ k. once x k) same, once_same x)
    among (y ∷ r) (suc i) e = omega (arith, among r i e)

-- What neither leaves nor comes stays as it is.
pub entry_same : {old new : StoreView} {from to : List ℕ} (n : ℕ) → IsMoved old new from to → HasCell old n
    → times n from ≡ 0 → times n to ≡ 0 → held_under new n ≡ held_under old n
entry_same {old} {new} n m there out absent =
    same (held_under old n) (held_under new n) there (λ i. m.rest n i absent) (λ h. m.kept n (omega arith))
    (omega (arith, m.held n))
  where
    same : (o p : Option Held) → IsSome o → (IsIdleSlot o → p ≡ o)
        → (0 < holders_of o → held_cell p ≡ held_cell o) → holders_of p ≡ holders_of o → p ≡ o
    same None p some idle kept equal = cc
    same (Some h) None some idle kept equal = elim (cases_eq h.holders 0) [
      | inl e ↦ idle e
      | inr d ↦ let none : None ≡ Some h.cell = kept (omega arith) in cc
    ]
    same (Some h) (Some k) some idle kept equal = elim (cases_eq h.holders 0) [
      | inl e ↦ idle e
      | inr d ↦ let cell : Some k.cell ≡ Some h.cell =
          kept (omega arith) in let one : k.cell ≡ h.cell =
          cc in ap₂ (λ c n. Some (record { cell = c; holders = n })) one equal
    ]

-- A number that was put, and was given no holder, is given one.
pub moved_hold : {s t u : StoreView} {from to : List ℕ} (x : ℕ) → IsPutAtEnd s t from to x true
    → times x from ≡ 0 → HasCell t x → IsPut t u x (held_more 1 (held_under t x))
    → cell_count t + t.spare ≤ cell_count u + u.spare → IsMoved s u from to
moved_hold {s} {t} {u} {from} {to} x e absent there put room =
    let more : holders u x ≡ holders t x + 1 = ap holders_of put.changed ∙ plus (held_under t x) there in
    let before : times x e.before ≡ 0 = omega (arith, e.moved.held x, ap holders_of e.same) in
    let here : times x to ≡ 1 = omega (arith, ap (times x) e.entered, times_push x x e.before, once_same x) in
    record {
      held = at_each _ x (omega (arith, more, here, absent, ap holders_of e.same))
          (λ n d. omega (
            arith,
            ap holders_of (put.others n d),
            ap (times n) e.entered,
            times_push n x e.before,
            once_other n x (λ i. d (sym i)),
            e.moved.held n,
          ));
      kept = at_each _ x (λ h. ap held_cell put.changed ∙ same_cell (held_under t x) ∙ ap held_cell e.same)
          (λ n d h. ap held_cell (put.others n d) ∙ e.moved.kept n h);
      idle = at_each _ x (λ h. absurd (omega (arith, more, idle_none u x h)))
          (λ n d h. e.moved.idle n (subst IsIdleSlot (put.others n d) h));
      rest = at_each _ x (λ i t0. absurd (omega (arith, t0, here)))
          (λ n d i t0. put.others n d ∙ e.moved.rest n i
          (omega (arith, t0, ap (times n) e.entered, times_push n x e.before)));
      room = omega (arith, e.moved.room, room);
    }
  where
    plus : (o : Option Held) → IsSome o → holders_of (held_more 1 o) ≡ holders_of o + 1
    plus None h = cc
    plus (Some h) i = refl

    same_cell : (o : Option Held) → held_cell (held_more 1 o) ≡ held_cell o
    same_cell None = refl
    same_cell (Some h) = refl
