-- What holds of a ring and its queue after each change of its numbers.
use Rattle.std.proofs.Common.{◌≡◌, ◌≢◌, ◌≤◌, ◌<◌, ◌⊎◌, ℕ, zero, suc, true, Option, ◌+◌, Bool, ◌||◌, List, []}
use Rattle.std.proofs.Common.{◌∷◌, ◌++◌, length, take, drop, ◌-◌, get_or, slice_get, Some, refl, sym, ap, ◌∙◌}
use Rattle.std.proofs.Common.{inl, inr, arith}
use Rattle.std.proofs.lemmas.List.{length-append, length-drop, length_push, drop-map}
use Rattle.std.specs.Prelude.{min}
use Rattle.std.proofs.lemmas.List.Elements.{All-get_or}
use Rattle.std.proofs.Math.Seq.{take-length}
use Rattle.circular_buffer.specs.Buffer.{Buffer, buffer, keep_last}
use Rattle.inp_model.specs.declared.event.Event.{Event}
use Rattle.inp_model.specs.Queue.{is_empty, ends_in_report, flush}
use Rattle.inp_ring.specs.declared.cell.Held.{Held}
use Rattle.inp_ring.specs.Store.{StoreView, event_of_cell, cell_in, holders, holders_of, IsPut}
use Rattle.inp_ring.specs.Ring.{RingView, times, ring_in, IsRing, AreDifferent, AreHeldAlone, HoldsAllButOne}
use Rattle.inp_ring.specs.Ring.{EntersAlone, IsLost, IsTakenOut, IsPutAtEnd, cell_at, some_cell, queue_in}
use Rattle.inp_ring.proofs.Times.{once, once_same, times_push, times-drop-le, times-le-length, times_first}
use Rattle.inp_ring.proofs.Times.{AreDifferent_push}
use Rattle.inp_model.proofs.Removal.{flush-length, flush-map}
use Rattle.inp_ring.proofs.Walks.{event_at, flush-times}

-- all is kept where it fits
pub keep_last-all : (n : ℕ) (q : List ℕ) → length q ≤ n → keep_last n q ≡ q
keep_last-all n q h = let e : length q - n ≡ zero = omega arith in rw e

-- so it is with one more, where it leaves a place free
pub keep_last-push : (n : ℕ) (q : List ℕ) (x : ℕ) → suc (length q) ≤ n
    → keep_last n (q ++ x ∷ []) ≡ q ++ x ∷ []
keep_last-push n q x room = keep_last-all n (q ++ x ∷ []) (omega (arith, length_push q x))

-- one number more
pub ring_push : (b new : Buffer ℕ) (m : ℕ) → IsRing (ring_in b) → suc (length b.items) < b.capacity
    → times m b.items ≡ 0 →
    new ≡ buffer (keep_last b.capacity (b.items ++ m ∷ [])) b.capacity → IsRing (ring_in new)
ring_push b new m h room absent e =
    let same : new ≡ buffer (b.items ++ m ∷ []) b.capacity =
    rw (e, keep_last-push b.capacity b.items m (omega arith)) in
    rw same (record {
      least = h.least;
      most = h.most;
      room = omega (arith, length_push b.items m);
      different = AreDifferent_push m b.items h.different absent;
    })

-- several numbers more
pub all_pushed : (b new : Buffer ℕ) (ns : List ℕ) (count : ℕ) → length b.items + length ns < b.capacity
    → count ≡ min (length ns) (b.capacity - length b.items)
    → new ≡ buffer (b.items ++ take count ns) b.capacity → new ≡ buffer (b.items ++ ns) b.capacity
all_pushed b new ns count room is e =
    let all : count ≡ length ns = omega (arith, is, room) in
    rw (e, all, take-length ns)

pub ring_push_all : (b new : Buffer ℕ) (ns : List ℕ) (count : ℕ) → IsRing (ring_in b)
    → length b.items + length ns < b.capacity → AreDifferent (b.items ++ ns)
    → count ≡ min (length ns) (b.capacity - length b.items) →
    new ≡ buffer (b.items ++ take count ns) b.capacity → IsRing (ring_in new)
ring_push_all b new ns count h room different is e =
    rw (all_pushed b new ns count room is e)
    (record {
      least = h.least;
      most = h.most;
      room = omega (arith, room, length-append b.items ns);
      different = different;
    })

-- the oldest ones less
pub ring_rest : (b new : Buffer ℕ) (n : ℕ) → IsRing (ring_in b) → new ≡ buffer (drop n b.items) b.capacity
    → IsRing (ring_in new)
ring_rest b new n h e =
    rw e (record {
      least = h.least;
      most = h.most;
      room = omega (arith, h.room, length-drop n b.items);
      different =
          λ k. omega (arith, h.different k, times-drop-le k n b.items);
    })

-- a class of events less
pub ring_flush : (b new : Buffer ℕ) (event : ℕ → Event) (drops : Event → Bool) → IsRing (ring_in b)
    → new ≡ buffer (flush event drops b.items) b.capacity → IsRing (ring_in new)
ring_flush b new event drops h e =
    rw e (record {
      least = h.least;
      most = h.most;
      room = omega (arith, h.room, flush-length event drops b.items);
      different =
          λ k. omega (arith, h.different k, flush-times event drops k b.items);
    })

-- one number in the place of all
pub ring_one : (b new : Buffer ℕ) → IsRing (ring_in b) → length new.items ≡ 1 → new.capacity ≡ b.capacity
    → IsRing (ring_in new)
ring_one b new h one same = record {
  least = omega (arith, h.least);
  most = omega (arith, h.most);
  room = omega (arith, h.least);
  different = λ k. omega (arith, times-le-length k new.items);
}

-- Where the cells of its numbers stay, so does a queue.
pub queue_stays : (old new : StoreView) (q : List ℕ)
    → ((n : ℕ) → 1 ≤ times n q → cell_in new n ≡ cell_in old n) → queue_in new q ≡ queue_in old q
queue_stays old new [] h = refl
queue_stays old new (x ∷ q) h =
    let first : cell_at new x ≡ cell_at old x = ap some_cell (h x (times_first x q)) in
    rw (first, queue_stays old new q (λ n t. h n (omega (arith, t))))

-- what is left of a queue when the oldest events are taken
pub queue_rest : (old new : StoreView) (q r : List ℕ) (n : ℕ) → r ≡ drop n q → IsTakenOut old new q r
    → queue_in new r ≡ drop n (queue_in old q)
queue_rest old new q r n e t =
    queue_stays old new r t.stay ∙ ap (queue_in old) e ∙ sym (drop-map (cell_at old) n q)

-- what is left of it when a class of events is removed
pub queue_flush : (old new : StoreView) (q r : List ℕ) (drops : Event → Bool)
    → r ≡ flush (event_at old) drops q → IsTakenOut old new q r
    → queue_in new r ≡ flush event_of_cell drops (queue_in old q)
queue_flush old new q r drops e t =
    queue_stays old new r t.stay ∙ ap (queue_in old) e
    ∙ flush-map (cell_at old) (event_at old) event_of_cell (λ n. refl) drops q

-- the number at an index
pub number_at : (q : List ℕ) (i x : ℕ) → slice_get q i ≡ Some x → get_or q i 0 ≡ x
number_at [] i x e = cc
number_at (y ∷ q) zero x e = cc
number_at (y ∷ q) (suc i) x e = number_at q i x e

-- a queue ends in a report where its numbers do
pub ends_map : (s : StoreView) (q : List ℕ)
    → (is_empty (queue_in s q) || ends_in_report event_of_cell (queue_in s q))
    ≡ (is_empty q || ends_in_report (event_at s) q)
ends_map s [] = refl
ends_map s (x ∷ []) = refl
ends_map s (x ∷ y ∷ q) = ends_map s (y ∷ q)

-- A ring was emptied for one number that no other ring holds.
pub lost_all : (s : StoreView) (old new : RingView) → HoldsAllButOne old → length new.numbers ≡ 1
    → AreHeldAlone s new.numbers → IsLost [] s old new
lost_all s old new full one alone = record {
  full = full;
  loss = get_or new.numbers 0 0;
  alone = All-get_or (λ (n : ℕ). holders s n ≡ 1) new.numbers 0 0 (omega (arith, one)) alone;
  numbers = only new.numbers one;
}
  where
    only : (q : List ℕ) → length q ≡ 1 → q ≡ get_or q 0 0 ∷ []
    only [] e = absurd (omega (arith, e))
    only (x ∷ []) e = refl
    only (x ∷ y ∷ q) e = absurd (omega (arith, e))

-- One more number stands behind the old ones, or behind SYN_DROPPED.
pub lost_push : (number : ℕ) (s : StoreView) (old mid new : RingView)
    → (mid.numbers ≡ old.numbers) ⊎ IsLost [] s old mid → new.numbers ≡ mid.numbers ++ number ∷ []
    → EntersAlone number old.numbers new.numbers ⊎ IsLost (number ∷ []) s old new
lost_push number s old mid new (inl same) e = inl (inr (rw (e, same)))
lost_push number s old mid new (inr l) e =
    inr (record { full = l.full; loss = l.loss; alone = l.alone; numbers = rw (e, l.numbers) })

-- SYN_DROPPED has its one holder still once the number behind it has one more.
pub lost_hold : {s t u : StoreView} (x : ℕ) (old new : RingView) (slot : Option Held)
    → IsPutAtEnd s t old.numbers new.numbers x true → times x old.numbers ≡ 0 → IsPut t u x slot
    → IsLost (x ∷ []) t old new → IsLost (x ∷ []) u old new
lost_hold {s} {t} {u} x old new slot e absent put l =
    let before : times x e.before ≡ 0 = omega (arith, absent, e.moved.held x, ap holders_of e.same) in
    let here : times x new.numbers ≡ 1 =
    omega (arith, before, ap (times x) e.entered, times_push x x e.before, once_same x) in
    let other : l.loss ≢ x =
    λ same. omega (arith, here, ap (times x) l.numbers, ap (λ k. once x k) same, once_same x) in
    record {
      full = l.full;
      loss = l.loss;
      alone = ap holders_of (put.others l.loss other)
          ∙ l.alone;
      numbers = l.numbers;
    }
