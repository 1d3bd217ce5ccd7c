-- How many more numbers the rings of all clients have after frames that are offered.
use Rattle.std.proofs.Common.{◌≡◌, ◌≤◌, ◌<◌, ℕ, suc, ◌+◌, Bool, true, false, ◌&&◌, ◌||◌, not, if◌then◌else◌}
use Rattle.std.proofs.Common.{nat_eq, nat_lt, List, [], ◌∷◌, ◌++◌, length, map, drop, get_or, Option, refl}
use Rattle.std.proofs.Common.{sym, ap, ◌∙◌, arith}
use Rattle.std.specs.Prelude.{filter, flat_map, count_by}
use Rattle.std.specs.List.{list_any}
use Rattle.std.proofs.lemmas.Bool.{false≢true, cond_both, eq-eqb}
use Rattle.std.proofs.lemmas.List.{length-append, length-map, get_or-map}
use Rattle.std.proofs.lemmas.List.Sums.{sum_by-cons}
use Rattle.std.proofs.lemmas.List.Folds.{list_any-append}
use Rattle.inp_model.specs.declared.event.TheConstants.{EV_SYN, SYN_DROPPED}
use Rattle.inp_model.specs.declared.event.Event.{Event}
use Rattle.inp_model.specs.declared.clock.Clock.{Clock}
use Rattle.inp_model.specs.Event.{is_report, syn_dropped}
use Rattle.inp_model.specs.Queue.{is_empty, ends_in_report, put_all, flush, is_same_clock, clock_changed}
use Rattle.inp_model.specs.Step.{Query, is_part_of}
use Rattle.inp_ring.specs.declared.cell.Cell.{Cell}
use Rattle.inp_ring.specs.Store.{event_of_cell, dropped_cell}
use Rattle.inp_ring.specs.Ring.{times}
use Rattle.inp_ring.proofs.Times.{times-append, times-drop-le}
use Rattle.inp_ring.proofs.Walks.{flush-times}
use Rattle.inp_client.specs.Masks.{admits_of}
use Rattle.inp_client.specs.Client.{ClientView, new_client, is_offered_to, cell_of_event, after_offer}
use Rattle.inp_client.specs.Client.{after_clock}
use Rattle.inp_client.specs.Clients.{ClientsView, distinct, has_number, map_client}
use Rattle.inp_client.specs.Member.{after_event}
use Rattle.inp_client.specs.Numbers.{held_numbers, stored_of, loses_event, loses, is_lost_to_clock}
use Rattle.inp_client.specs.Numbers.{IsStoredOnce, IsRingChanged, IsRingFlushed, IsRingClosed}
use Rattle.inp_client.proofs.CellCounts.{distinct_few, distinct_there}
use Rattle.inp_client.proofs.Numbers.{IsGrown, AreGrownBy, after_event-cases, grown_told, grown_then}
use Rattle.inp_client.proofs.Numbers.{grown_by, stored_among}
use Rattle.inp_client.proofs.Offers.{after_offer-cons}
use Rattle.inp_client.proofs.RingsLeft.{fewer_in, fewer_closed}

-- Who lost its queue at a place

-- the cell tells a loss at the place
abbrev pub tells_loss : ℕ → Cell → Bool
tells_loss place x = nat_eq x.event.kind EV_SYN && nat_eq x.event.code SYN_DROPPED && nat_eq x.place place

-- a client's queue has such a cell
abbrev pub is_lost : ℕ → ClientView Cell → Bool
is_lost place c = list_any (tells_loss place) c.ring.events

-- a queue with one event more of a frame at the place
abbrev with_cell : (a b : Bool) (q : List Cell) (x : Cell) → List Cell
with_cell a b q x = if a then q else if b then q ++ x ∷ [] else dropped_cell x ∷ x ∷ []

dropped_tells : (place : ℕ) (x : Cell) (q : List Cell) → x.place ≡ place
    → list_any (tells_loss place) (dropped_cell x ∷ q) ≡ true
dropped_tells place x q at = rw (at, eq-eqb)

lost_stays : (place : ℕ) (a b : Bool) (q : List Cell) (x : Cell) → x.place ≡ place
    → list_any (tells_loss place) q ≡ true → list_any (tells_loss place) (with_cell a b q x) ≡ true
lost_stays place true b q x at h = h
lost_stays place false true q x at h = rw (list_any-append, h)
lost_stays place false false q x at h = dropped_tells place x (x ∷ []) at

lost_stays_all : (now place places : ℕ) (q : List Cell) (es : List Event)
    → list_any (tells_loss place) q ≡ true
    → list_any (tells_loss place)
    (put_all event_of_cell dropped_cell places q (map (cell_of_event now place) es)) ≡ true
lost_stays_all now place places q [] h = h
lost_stays_all now place places q (e ∷ es) h =
    lost_stays_all now place places
    (with_cell (is_report e && (is_empty q || ends_in_report event_of_cell q))
    (nat_lt (suc (length q)) places) q (cell_of_event now place e)) es
    (lost_stays place (is_report e && (is_empty q || ends_in_report event_of_cell q))
    (nat_lt (suc (length q)) places) q (cell_of_event now place e) refl h)

module _ (now place : ℕ) (holder : Option ℕ) where
  lost_kept : (frame : List Event) (c : ClientView Cell) → is_lost place c ≡ true
      → is_lost place (after_offer frame now place holder c) ≡ true
  lost_kept frame c h =
      cond_both (is_offered_to holder c) _ _ (λ (x : ClientView Cell). is_lost place x ≡ true)
      (λ _. lost_stays_all now place c.ring.places c.ring.events
      (filter (admits_of c.masks) frame) h) (λ _. h)

  -- a client that loses its queue by an event is told so
  told_of_event : (e : Event) (c : ClientView Cell) → loses_event (cell_of_event now place e) holder c ≡ true
      → is_lost place (after_event (cell_of_event now place e) holder c) ≡ true
  told_of_event e c h =
      let x : Cell = cell_of_event now place e in
      after_event-cases (λ new b. b ≡ true → is_lost place new ≡ true) x holder c
      (λ g. absurd (false≢true g)) (λ g. absurd (false≢true g)) (λ _ g. dropped_tells place x (x ∷ []) refl) h

  told_of_frame : (frame : List Event) (c : ClientView Cell) → loses frame now place holder c ≡ true
      → is_lost place (after_offer frame now place holder c) ≡ true
  told_of_frame [] c h = absurd (cc h)
  told_of_frame (e ∷ frame) c h =
      rw after_offer-cons
      (by (loses_event (cell_of_event now place e) holder c) refl h
      (λ g. told_of_frame frame (after_event (cell_of_event now place e) holder c) g))
    where
      mid : ClientView Cell
      mid = after_event (cell_of_event now place e) holder c

      by : (b : Bool) → loses_event (cell_of_event now place e) holder c ≡ b
          → (b || loses frame now place holder mid) ≡ true
          → (loses frame now place holder mid ≡ true
          → is_lost place (after_offer frame now place holder mid) ≡ true)
          → is_lost place (after_offer frame now place holder mid) ≡ true
      by true is h rest = lost_kept frame mid (told_of_event e c is)
      by false is h rest = rest h

-- How those of all rings grow

abbrev some_client : ClientView Cell
some_client = new_client 0 0

-- At most so many numbers came into rings, but for one of each client that lost its queue at the place.
pub record AreGrown (count place : ℕ) (old new : ClientsView) : Type 0 where
  -- the numbers that came
  pub given : List ℕ
  -- they are no more than the count
  pub few : length given ≤ count
  -- there are as many clients as before
  pub same : length new.list ≡ length old.list
  -- each client has a ring, before and after
  pub rings : (length old.rings ≡ length old.list) × (length new.rings ≡ length old.list)
  -- each number of a ring was there or came, but for one where its client lost its queue
  pub each : (i : ℕ) → i < length old.list
      → IsGrown given (is_lost place (get_or new.list i some_client)) (get_or old.rings i [])
      (get_or new.rings i [])
  -- a client that lost its queue at the place still has the SYN_DROPPED of it
  pub stay : (i : ℕ) → i < length old.list → is_lost place (get_or old.list i some_client) ≡ true
      → is_lost place (get_or new.list i some_client) ≡ true

-- so it is for more of them
pub grown_more : (count more place : ℕ) (old new : ClientsView) → count ≤ more → AreGrown count place old new
    → AreGrown more place old new
grown_more count more place old new le are =
    record {
      given = are.given;
      few = omega (arith, are.few, le);
      same = are.same;
      rings = are.rings;
      each = are.each;
      stay = are.stay;
    }

-- by one frame
pub grown_by_frame : (frame : List Event) (now place : ℕ) (holder : Option ℕ) (old new : ClientsView)
    → new.list ≡ map (after_offer frame now place holder) old.list
    → IsStoredOnce frame now place holder old new → AreGrown (length frame) place old new
grown_by_frame frame now place holder old new offered once = record {
  given = by.given;
  few = omega (arith, by.long);
  same = ap length offered ∙ length-map old.list (after_offer frame now place holder);
  rings = by.rings;
  each = λ i in_i.
      grown_told (loses frame now place holder (get_or old.list i some_client))
      (is_lost place (get_or new.list i some_client))
      (λ is. rw client_is (told_of_frame now place holder frame (get_or old.list i some_client) is))
      (by.each i in_i);
  stay = λ i in_i h. rw client_is (lost_kept now place holder frame (get_or old.list i some_client) h);
}
  where
    by : AreGrownBy frame now place holder old new
    by = grown_by frame now place holder old new once

    client_is : (i : ℕ) → i < length old.list
        → get_or new.list i some_client ≡ after_offer frame now place holder (get_or old.list i some_client)
    client_is i in_i =
        rw offered (get_or-map (after_offer frame now place holder) old.list i some_client some_client in_i)

-- by one frame after another
pub are_grown_then : (first rest place : ℕ) (old mid new : ClientsView) → AreGrown first place old mid
    → AreGrown rest place mid new → AreGrown (first + rest) place old new
are_grown_then first rest place old mid new p q = record {
  given = p.given ++ q.given;
  few = omega (arith, length-append p.given q.given, p.few, q.few);
  same = q.same ∙ p.same;
  rings = (p.rings.0, q.rings.1 ∙ p.same);
  each = λ i in_i.
      let in_mid : i < length mid.list = omega (arith, in_i, p.same) in
      grown_then p.given q.given (is_lost place (get_or mid.list i some_client))
      (is_lost place (get_or new.list i some_client))
      (q.stay i in_mid) (p.each i in_i) (q.each i in_mid);
  stay = λ i in_i h. q.stay i (omega (arith, in_i, p.same)) (p.stay i in_i h);
}

-- no more different numbers than came, and one of each client that lost its queue
pub stored_grown : (count place : ℕ) (old new : ClientsView) → AreGrown count place old new
    → stored_of new ≤ stored_of old + count + count_by (is_lost place) new.list
stored_grown count place old new are =
    omega (
      arith,
      are.few,
      stored_among (is_lost place) are.given old new new.list (are.rings.0 ∙ sym are.same) (are.rings.1
          ∙ sym are.same) (λ i in_i. are.each i (omega (arith, in_i, are.same))),
    )

-- Calls after which no number is new

abbrev all_of : List (List ℕ) → List ℕ
all_of rings = flat_map (λ q. q) rings

stored_fewer : (old new : ClientsView) (more : ℕ)
    → ((n : ℕ) → times n (held_numbers new) ≤ times n (held_numbers old))
    → stored_of new ≤ stored_of old + more
stored_fewer old new more fewer =
    omega (
      arith,
      distinct_few (held_numbers new) (distinct (held_numbers old))
          (λ n there. distinct_there n (held_numbers old) (omega (arith, there, fewer n))),
    )

-- the rings hold the same numbers, so no more of them differ
pub stored_same : (old new : ClientsView) (more : ℕ) → held_numbers new ≡ held_numbers old
    → stored_of new ≤ stored_of old + more
stored_same old new more same = stored_fewer old new more (λ n. omega (arith, ap (times n) same))

-- where the clients stay as they are nothing is added
pub stored_kept : (clients : ClientsView) (more : ℕ) → stored_of clients ≤ stored_of clients + more
stored_kept clients more = omega arith

none_come : (n : ℕ) (old new : List (List ℕ))
    → ((i : ℕ) → times n (get_or new i []) ≤ times n (get_or old i []))
    → times n (all_of new) ≤ times n (all_of old)
none_come n old [] h = omega arith
none_come n [] (q ∷ new) h =
    omega (arith, h 0, none_come n [] new (λ i. h (suc i)), times-append n q (all_of new))
none_come n (o ∷ old) (q ∷ new) h =
    omega (
      arith,
      h 0,
      none_come n old new (λ i. h (suc i)),
      times-append n q (all_of new),
      times-append n o (all_of old),
    )

-- a ring lost some of its numbers
stored_changed : (number : ℕ) (change : List ℕ → List ℕ) (old new : ClientsView) (more : ℕ)
    → ((n : ℕ) (q : List ℕ) → times n (change q) ≤ times n q) → IsRingChanged number change old new
    → stored_of new ≤ stored_of old + more
stored_changed number change old new more fewer is =
    stored_fewer old new more
    (λ n. none_come n old.rings new.rings (λ i. fewer_in number change old new fewer is i n))

-- the first numbers of one ring went, so no number is new
pub stored_taken : {number : ℕ} (count : ℕ) (old new : ClientsView) (more : ℕ)
    → IsRingChanged number (drop count) old new → stored_of new ≤ stored_of old + more
stored_taken {number} count old new more is =
    stored_changed number (drop count) old new more (λ n q. times-drop-le n count q) is

-- a flush takes numbers out of one ring, so no number is new
pub stored_flushed : {number : ℕ} {query : Query} (old new : ClientsView) (more : ℕ)
    → IsRingFlushed number query old new → stored_of new ≤ stored_of old + more
stored_flushed {number} {query} old new more is =
    stored_changed number (flush is.event (is_part_of query)) old new more
    (λ n q. flush-times is.event (is_part_of query) n q) is.flushed

-- the ring of the closed client went, so no number is new
pub stored_closed : {number : ℕ} (old new : ClientsView) (more : ℕ) → IsRingClosed number old new
    → stored_of new ≤ stored_of old + more
stored_closed {number} old new more is = stored_fewer old new more (fewer_closed number old new is)

-- the rings are as before, so no number is new
pub stored_rings : (old new : ClientsView) (more : ℕ) → new.rings ≡ old.rings
    → stored_of new ≤ stored_of old + more
stored_rings old new more same = stored_same old new more (ap all_of same)

-- A clock was chosen: who loses its queue by it is told so.

count_less : {X : Type 0} (p q : X → Bool) (f : X → X) → ((x : X) → p x ≡ true → q (f x) ≡ true)
    → (xs : List X) → count_by p xs ≤ count_by q (map f xs)
count_less p q f tells [] = omega arith
count_less {X} p q f tells (x ∷ xs) =
    omega (
      arith,
      sum_by-cons (λ (y : X). if p y then 1 else 0) x xs,
      sum_by-cons (λ (y : X). if q y then 1 else 0) (f x) (map f xs),
      count_less p q f tells xs,
      one (p x) (q (f x)) (tells x),
    )
  where
    one : (a b : Bool) → (a ≡ true → b ≡ true) → (if a then 1 else 0) ≤ (if b then 1 else 0)
    one false b h = omega arith
    one true false h = absurd (false≢true (h refl))
    one true true h = omega arith

told_of_clock : (client : ℕ) (clock : Clock) (now place : ℕ) (c : ClientView Cell)
    → is_lost_to_clock client clock c ≡ true
    → is_lost place (if has_number client c then after_clock clock now place c else c) ≡ true
told_of_clock client clock now place c = by (has_number client c) (is_same_clock c.clock clock) c.ring.events
  where
    by : (named same : Bool) (q : List Cell) → (named && (not same && not (is_empty q))) ≡ true
        → is_lost place
        (if named then record c {
          clock = clock;
          ring = record c.ring { events = clock_changed same (cell_of_event now place syn_dropped) q };
        } else c) ≡ true
    by false same q h = absurd (false≢true h)
    by true true q h = absurd (false≢true h)
    by true false [] h = absurd (false≢true h)
    by true false (x ∷ q) h = dropped_tells place (cell_of_event now place syn_dropped) [] refl

-- a client that loses its queue by its new clock has the SYN_DROPPED that is counted for it
pub stored_clock : (client : ℕ) (clock : Clock) (now place : ℕ) (old new : ClientsView)
    → new.list ≡ map_client client (after_clock clock now place) old.list
    → stored_of new ≤ stored_of old + count_by (is_lost_to_clock client clock) old.list
    → stored_of new ≤ stored_of old + count_by (is_lost place) new.list
stored_clock client clock now place old new set few =
    omega (
      arith,
      few,
      count_less (is_lost_to_clock client clock) (is_lost place)
          (λ c. if has_number client c then after_clock clock now place c else c)
          (told_of_clock client clock now place) old.list,
      ap (count_by (is_lost place)) set,
    )
