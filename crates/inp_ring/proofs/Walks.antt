-- The walk that removes a class of events from a ring.
use Rattle.std.proofs.Common.{◌≡◌, ◌≤◌, ◌<◌, ℕ, zero, suc, ◌+◌, Bool, true, false, not, if◌then◌else◌, List}
use Rattle.std.proofs.Common.{[], ◌∷◌, ◌++◌, length, take, drop, get_or, refl, sym, ap, ◌∙◌, arith}
use Rattle.std.proofs.lemmas.List.{append-nil, append_assoc, length-append, length-drop, take_more, drop_more}
use Rattle.std.proofs.lemmas.List.{take_all, drop_all}
use Rattle.circular_buffer.specs.Buffer.{Buffer, buffer}
use Rattle.inp_model.specs.declared.event.Event.{Event}
use Rattle.inp_model.specs.Event.{is_report}
use Rattle.inp_model.specs.Queue.{flush}
use Rattle.inp_model.proofs.Removal.{stays, report_stays_after, flush_from, flush-walk, flush_from-length}
use Rattle.inp_ring.specs.Store.{StoreView, event_of_cell}
use Rattle.inp_ring.specs.Ring.{times, AreHeld, IsTakenOut, cell_at}
use Rattle.inp_ring.proofs.Times.{once, times-append, times_push, times-take-drop, times_first}
use Rattle.inp_ring.proofs.Moves.{taken_none, taken_then, taken_same, idle_out}

-- the number, where it stays
abbrev pub kept_of : Bool → ℕ → List ℕ
kept_of kept x = if kept then x ∷ [] else []

kept_of-times : (n : ℕ) (kept : Bool) (x : ℕ) → times n (kept_of kept x) ≤ once n x
kept_of-times n true x = omega arith
kept_of-times n false x = omega arith

module _ (event : ℕ → Event) (drops : Event → Bool) where
  -- whether a report stays that comes after these numbers
  abbrev pub flag_after : Bool → List ℕ → Bool
  flag_after flag [] = flag
  flag_after flag (x ∷ q) = flag_after (report_stays_after event drops flag x) q

  flag_after-push : (flag : Bool) (q : List ℕ) (x : ℕ)
      → flag_after flag (q ++ x ∷ []) ≡ report_stays_after event drops (flag_after flag q) x
  flag_after-push flag [] x = refl
  flag_after-push flag (y ∷ q) x = flag_after-push (report_stays_after event drops flag y) q x

  -- one number more at the end
  flush_from-push : (flag : Bool) (q : List ℕ) (x : ℕ) →
      flush_from event drops flag (q ++ x ∷ []) ≡ flush_from event drops flag q
      ++ kept_of (stays event drops (flag_after flag q) x) x
  flush_from-push flag [] x = append-nil (kept_of (stays event drops flag x) x)
  flush_from-push flag (y ∷ q) x =
      let next = report_stays_after event drops flag y in
      rw (flush_from-push next q x)
      (sym (append_assoc (kept_of (stays event drops flag y) y) (flush_from event drops next q)
      (kept_of (stays event drops (flag_after next q) x) x)))

  -- no number is added
  flush_from-times : (n : ℕ) (flag : Bool) (q : List ℕ) → times n (flush_from event drops flag q) ≤ times n q
  flush_from-times n flag [] = omega arith
  flush_from-times n flag (x ∷ q) =
      let next = report_stays_after event drops flag x in
      let kept = kept_of (stays event drops flag x) x in
      omega (
        arith,
        flush_from-times n next q,
        times-append n kept (flush_from event drops next q),
        kept_of-times n (stays event drops flag x) x,
      )

  pub flush-times : (n : ℕ) (q : List ℕ) → times n (flush event drops q) ≤ times n q
  flush-times n q = omega (arith, ap (times n) (flush-walk event drops q), flush_from-times n true q)

-- the event of a number as a store has it
abbrev pub event_at : StoreView → ℕ → Event
event_at s n = event_of_cell (cell_at s n)

-- The numbers before `at` were walked: those that stay stand behind the others. The events are those of the
-- first store.
pub record IsWalked (drops : Event → Bool) (first : StoreView) (q : List ℕ) (capacity : ℕ) (s : StoreView)
    (numbers : Buffer ℕ) (at : ℕ) (report_stays : Bool) : Type 0 where
  pub items : numbers ≡ buffer (drop at q ++ flush_from (event_at first) drops true (take at q)) capacity
  pub flag : report_stays ≡ flag_after (event_at first) drops true (take at q)
  pub taken : IsTakenOut first s q numbers.items
  pub held : AreHeld first q

pub walked_none : (drops : Event → Bool) (s : StoreView) (numbers : Buffer ℕ) → AreHeld s numbers.items
    → IsWalked drops s numbers.items numbers.capacity s numbers 0 true
walked_none drops s numbers h =
    record {
      items = rw (append-nil numbers.items);
      flag = refl;
      taken = taken_none s numbers.items;
      held = h;
    }

module _ {drops : Event → Bool} {first s : StoreView} {q : List ℕ} {capacity at : ℕ} {numbers : Buffer ℕ}
    {report_stays : Bool} (w : IsWalked drops first q capacity s numbers at report_stays) where
  pub walked_all : length q ≤ at → numbers ≡ buffer (flush (event_at first) drops q) capacity
  walked_all h =
      let rest : drop at q ≡ [] = drop_all at q h in
      let all : take at q ≡ q = take_all at q h in
      rw (w.items, rest, all, ← flush-walk (event_at first) drops q)

  walked_length : length numbers.items ≤ length q
  walked_length =
      omega (
        arith,
        ap (λ (b : Buffer ℕ). length b.items) w.items,
        length-append (drop at q) (flush_from (event_at first) drops true (take at q)),
        length-drop at q,
        flush_from-length (event_at first) drops true (take at q),
        take_within,
      )
    where
      take_within : length (take at q) + length (drop at q) ≡ length q
      take_within = take-drop at q
        where
          take-drop : (k : ℕ) (r : List ℕ) → length (take k r) + length (drop k r) ≡ length r
          take-drop zero r = omega arith
          take-drop (suc k) [] = omega arith
          take-drop (suc k) (x ∷ r) = omega (arith, take-drop k r)

  -- it has no number that was not there
  walked_times : (n : ℕ) → times n numbers.items ≤ times n q
  walked_times n =
      omega (
        arith,
        ap (λ (b : Buffer ℕ). times n b.items) w.items,
        times-append n (drop at q) (flush_from (event_at first) drops true (take at q)),
        flush_from-times (event_at first) drops n true (take at q),
        times-take-drop n at q,
      )

  module _ (here : at < length q) where
    abbrev pub walked_number : ℕ
    walked_number = get_or q at 0

    walked_items : numbers.items ≡ walked_number
        ∷ (drop (at + 1) q ++ flush_from (event_at first) drops true (take at q))
    walked_items = rw (w.items, drop_more q at 0 here)

    pub walked_within : length q ≤ capacity → length numbers.items ≤ numbers.capacity
    walked_within h = omega (arith, walked_length, ap (λ (b : Buffer ℕ). b.capacity) w.items)

    -- the event in front is that of the number walked next, as it was first
    pub walked_event : event_at s (get_or numbers.items 0 0) ≡ event_at first walked_number
    walked_event =
        let there : 1 ≤ times walked_number numbers.items =
        omega (
          arith,
          ap (times walked_number) walked_items,
          times_first walked_number (drop (at + 1) q ++ flush_from (event_at first) drops true (take at q)),
        ) in
        rw (walked_items, w.taken.stay walked_number there)

    walked_front : take (at + 1) q ≡ take at q ++ walked_number ∷ []
    walked_front = take_more q at 0 here

    -- what stays of one number more
    flush-more : (kept : Bool)
        → kept ≡ (if is_report (event_at first walked_number) then report_stays
        else not (drops (event_at first walked_number))) →
        flush_from (event_at first) drops true (take (at + 1) q)
        ≡ flush_from (event_at first) drops true (take at q) ++ kept_of kept walked_number
    flush-more kept k =
        let e = event_at first walked_number in
        let same : kept ≡ stays (event_at first) drops
        (flag_after (event_at first) drops true (take at q)) walked_number = rw (k, w.flag) in
        rw (walked_front, flush_from-push (event_at first) drops true (take at q) walked_number, ← same)

    -- whether a report stays that follows one number more
    flag-more : flag_after (event_at first) drops true (take (at + 1) q)
        ≡ (if is_report (event_at first walked_number) then false else if drops (event_at first walked_number)
        then report_stays else true)
    flag-more =
        rw (walked_front, flag_after-push (event_at first) drops true (take at q) walked_number, ← w.flag)

    walked_then : (new : StoreView) (rest : Buffer ℕ) → IsTakenOut s new numbers.items rest.items
        → IsTakenOut first new q rest.items
    walked_then new rest t =
        taken_then w.taken t (λ n i. omega (arith, walked_times n, idle_out first q n w.held i))

    -- a number that does not stay is released
    pub walked_dropped : (new : StoreView) (rest : Buffer ℕ) (stayed : Bool)
        → stayed ≡ (if is_report (event_at first walked_number) then report_stays
        else not (drops (event_at first walked_number))) → stayed ≡ false →
        rest ≡ buffer (drop 1 numbers.items) numbers.capacity → IsTakenOut s new numbers.items rest.items →
        IsWalked drops first q capacity new rest (at + 1) report_stays
    walked_dropped new rest stayed k gone e t =
        let none : flush_from (event_at first) drops true (take (at + 1) q)
        ≡ flush_from (event_at first) drops true (take at q) =
        rw (flush-more stayed k, gone) (append-nil (flush_from (event_at first) drops true (take at q))) in
        let items : rest ≡ buffer
        (drop (at + 1) q ++ flush_from (event_at first) drops true (take at q)) capacity =
        rw (e, walked_items, w.items) in
        record {
          items = rw (items, ← none);
          flag =
              same_flag (is_report (event_at first walked_number))
              (drops (event_at first walked_number)) report_stays (sym k ∙ gone) ∙ sym flag-more;
          taken = walked_then new rest t;
          held = w.held;
        }
      where
        same_flag : (report dropped flag : Bool) → (if report then flag else not dropped) ≡ false
            → flag ≡ (if report then false else if dropped then flag else true)
        same_flag true dropped flag h = h
        same_flag false true flag h = refl
        same_flag false false flag h = cc

    -- a number that stays is put behind the others
    pub walked_kept : (rest : Buffer ℕ) (stayed : Bool)
        → stayed ≡ (if is_report (event_at first walked_number) then report_stays
        else not (drops (event_at first walked_number))) → stayed ≡ true →
        rest ≡ buffer (drop 1 numbers.items ++ get_or numbers.items 0 0 ∷ []) numbers.capacity →
        IsWalked drops first q capacity s rest (at + 1) (not (is_report (event_at first walked_number)))
    walked_kept rest stayed k stay e =
        let front = flush_from (event_at first) drops true (take at q) in
        let one : flush_from (event_at first) drops true (take (at + 1) q) ≡ front ++ walked_number ∷ [] =
        rw (flush-more stayed k, stay) in
        let items : rest ≡ buffer ((drop (at + 1) q ++ front) ++ walked_number ∷ []) capacity =
        rw (e, walked_items, w.items) in
        let turned : (n : ℕ) → times n rest.items ≡ times n numbers.items =
        λ n. omega (
          arith,
          ap (λ (b : Buffer ℕ). times n b.items) items,
          times_push n walked_number (drop (at + 1) q ++ front),
          ap (times n) walked_items,
        ) in
        record {
          items = rw (items, append_assoc (drop (at + 1) q) front (walked_number ∷ []), ← one);
          flag =
              new_flag (is_report (event_at first walked_number))
              (drops (event_at first walked_number)) report_stays (sym k ∙ stay) ∙ sym flag-more;
          taken = walked_then s rest (taken_same s numbers.items rest.items (λ n. sym (turned n)));
          held = w.held;
        }
      where
        new_flag : (report dropped flag : Bool) → (if report then flag else not dropped) ≡ true
            → not report ≡ (if report then false else if dropped then flag else true)
        new_flag true dropped flag h = refl
        new_flag false false flag h = refl
        new_flag false true flag h = cc
