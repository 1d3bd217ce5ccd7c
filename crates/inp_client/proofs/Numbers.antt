-- How the numbers of rings come from those that they had, where frames are offered.
use Rattle.std.proofs.Common.{◌≡◌, ◌≤◌, ◌<◌, ◌⊎◌, ℕ, suc, ◌+◌, Bool, true, false, ◌&&◌, ◌||◌, not}
use Rattle.std.proofs.Common.{if◌then◌else◌, nat_lt, List, [], ◌∷◌, ◌++◌, length, map, get_or, Option, refl}
use Rattle.std.proofs.Common.{sym, ap, ◌∙◌, inl, inr, arith}
use Rattle.std.specs.Prelude.{flat_map, count_by}
use Rattle.std.proofs.lemmas.Bool.{false≢true, ltb-false}
use Rattle.std.proofs.lemmas.List.{length-append, length-map, length_push, get_or-map}
use Rattle.std.proofs.lemmas.List.Elements.{All-head}
use Rattle.std.proofs.lemmas.Simd.{map-map}
use Rattle.std.proofs.lemmas.List.Sums.{sum_by-cons}
use Rattle.inp_model.specs.declared.event.Event.{Event}
use Rattle.inp_model.specs.Event.{is_report}
use Rattle.inp_model.specs.declared.clock.Clock.{Clock}
use Rattle.inp_model.specs.Queue.{is_empty, ends_in_report, put, is_same_clock, clock_changed}
use Rattle.inp_ring.specs.declared.cell.Cell.{Cell}
use Rattle.inp_ring.specs.Store.{StoreView, holders, event_of_cell, dropped_cell}
use Rattle.inp_ring.specs.Ring.{RingView, times, cell_at, queue_in, EntersAlone, IsLost, AreHeldAlone}
use Rattle.inp_ring.proofs.Times.{times-append}
use Rattle.inp_client.specs.Client.{ClientView, new_client, with_events, cell_of_event}
use Rattle.inp_client.specs.Member.{Member, ring_of, client_in, after_event}
use Rattle.inp_client.specs.Clients.{ClientsView, has_number, distinct}
use Rattle.inp_client.specs.Numbers.{held_numbers, stored_of, takes_event, loses_event, loses, ring_after}
use Rattle.inp_client.specs.Numbers.{client_of_index, ring_of_index, event_under, is_lost_to_clock}
use Rattle.inp_client.specs.Numbers.{IsEventStored, IsStoredOnce, IsClockStored, IsRingStored, IsRingOnClock}
use Rattle.inp_client.proofs.CellCounts.{distinct_few, distinct_there}

-- A queue of which it is known what event each number stands for

-- whether a report that is put is left out
abbrev leaves_out : {X : Type 0} → (X → Event) → List X → Event → Bool
leaves_out event q e = is_report e && (is_empty q || ends_in_report event q)

ends_alike : {X Y : Type 0} (event : X → Event) (event' : Y → Event) (q : List X) (r : List Y)
    → map event q ≡ map event' r
    → (is_empty q || ends_in_report event q) ≡ (is_empty r || ends_in_report event' r)
ends_alike event event' q r same = rw (ends_of, same) (sym (ends_of event' r))
  where
    ends_of : {X : Type 0} (event : X → Event) (q : List X)
        → (is_empty q || ends_in_report event q)
        ≡ (is_empty (map event q) || ends_in_report (λ e. e) (map event q))
    ends_of event [] = refl
    ends_of event (x ∷ []) = refl
    ends_of event (x ∷ y ∷ q) = ends_of event (y ∷ q)

long_alike : {X Y : Type 0} (event : X → Event) (event' : Y → Event) (q : List X) (r : List Y)
    → map event q ≡ map event' r → length q ≡ length r
long_alike event event' q r same = sym (length-map q event) ∙ ap length same ∙ length-map r event'

-- What comes of a put by its tests: all stays, the event stands behind the others, or the queue is lost.
put_by : (P : ClientView Cell → Bool → List ℕ → Type 0) (cell : Cell) (c : ClientView Cell)
    (ring longer left : List ℕ) (o a b : Bool) → P c false ring
    → P (with_events (c.ring.events ++ cell ∷ []) c) false longer
    → (b ≡ false → P (with_events (dropped_cell cell ∷ cell ∷ []) c) true left)
    → P
    (if o then with_events (if a then c.ring.events else if b then c.ring.events ++ cell ∷ []
    else dropped_cell cell ∷ cell ∷ []) c else c) (o && not a && not b)
    (if o then (if a then ring else if b then longer else left) else ring)
put_by P cell c ring longer left false a b stays behind lost = stays
put_by P cell c ring longer left true true b stays behind lost = stays
put_by P cell c ring longer left true false true stays behind lost = behind
put_by P cell c ring longer left true false false stays behind lost = lost refl

-- How the numbers of one ring grow

-- All that a ring has is from a frame, or was there before. Where its queue was lost, SYN_DROPPED stands for
-- what was there.
pub record IsGrown (given : List ℕ) (is_lost : Bool) (old new : List ℕ) : Type 0 where
  -- what stands for the numbers from before
  pub front : List ℕ
  pub kept_or_lost : (front ≡ old) ⊎ ((is_lost ≡ true) × (length front ≡ 1))
  -- each number of the ring is one of these or of those that were given
  pub among : (n : ℕ) → 1 ≤ times n new → 1 ≤ times n front + times n given

-- so it is by any test that tells each loss
pub grown_told : {given old new : List ℕ} (lost tells : Bool) → (lost ≡ true → tells ≡ true)
    → IsGrown given lost old new → IsGrown given tells old new
grown_told lost tells told grown = record {
  front = grown.front;
  kept_or_lost = elim grown.kept_or_lost [ inl same ↦ inl same | inr was ↦ inr (told was.0, was.1) ];
  among = grown.among;
}

pub grown_none : (given : List ℕ) (lost : Bool) (q : List ℕ) → IsGrown given lost q q
grown_none given lost q =
    record { front = q; kept_or_lost = inl refl; among = λ n there. omega (arith, there) }

-- one event after another
pub grown_then : (first rest : List ℕ) {old mid new : List ℕ} (a b : Bool) → (a ≡ true → b ≡ true)
    → IsGrown first a old mid → IsGrown rest b mid new → IsGrown (first ++ rest) b old new
grown_then first rest {old} {mid} {new} a b stays p q = elim q.kept_or_lost [
  | inr lost ↦ record {
    front = q.front;
    kept_or_lost = inr lost;
    among = λ n there. omega (arith, q.among n there, times-append n first rest);
  }
  | inl kept ↦ record {
    front = p.front;
    kept_or_lost = elim p.kept_or_lost [ inl same ↦ inl same | inr lost ↦ inr (stays lost.0, lost.1) ];
    among =
        λ n there. grind (arith, p.among n, q.among n there, ap (times n) kept, times-append n first rest);
  }
]

module _ (event : ℕ → Event) (cell : Cell) (holder : Option ℕ) (number loss : ℕ) (c : ClientView Cell)
    (ring : List ℕ) (told : map event ring ≡ map event_of_cell c.ring.events)
    (same : event number ≡ cell.event) where
  -- A client that was offered an event, and its ring: they are as they were, have the event behind the
  -- others, or have lost what they had.
  pub put_cases : (P : ClientView Cell → Bool → List ℕ → Type 0) → P c false ring
      → P (with_events (c.ring.events ++ cell ∷ []) c) false (ring ++ number ∷ [])
      → (nat_lt (suc (length c.ring.events)) c.ring.places ≡ false
      → P (with_events (dropped_cell cell ∷ cell ∷ []) c) true (loss ∷ number ∷ []))
      → P (after_event cell holder c) (loses_event cell holder c)
      (ring_after event cell holder number loss c ring)
  put_cases P stays behind lost =
      rw (
        same,
        ends_alike event event_of_cell ring c.ring.events told,
        long_alike event event_of_cell ring c.ring.events told,
      )
      (put_by P cell c ring (ring ++ number ∷ []) (loss ∷ number ∷ []) (takes_event cell holder c)
      (leaves_out event_of_cell c.ring.events cell.event)
      (nat_lt (suc (length c.ring.events)) c.ring.places) stays behind lost)

  -- where a queue is lost, two numbers stand in its ring
  pub lost_ring : loses_event cell holder c ≡ true
      → ring_after event cell holder number loss c ring ≡ loss ∷ number ∷ []
  lost_ring =
      put_cases (λ x b r. b ≡ true → r ≡ loss ∷ number ∷ []) (λ h. absurd (false≢true h))
      (λ h. absurd (false≢true h)) (λ _ h. refl)

  grown_by_event : IsGrown (number ∷ []) (loses_event cell holder c) ring
      (ring_after event cell holder number loss c ring)
  grown_by_event =
      put_cases (λ x b r. IsGrown (number ∷ []) b ring r) (grown_none (number ∷ []) false ring)
      (record {
        front = ring;
        kept_or_lost = inl refl;
        among =
            λ n there. omega (arith, there, times-append n ring (number ∷ []));
      })
      (λ _. record {
        front = loss ∷ [];
        kept_or_lost = inr (refl, refl);
        among =
            λ n there. omega (arith, there);
      })

-- a client that was offered an event
pub after_event-cases : (P : ClientView Cell → Bool → Type 0) (cell : Cell) (holder : Option ℕ)
    (c : ClientView Cell) → P c false
    → P (with_events (c.ring.events ++ cell ∷ []) c) false
    → (nat_lt (suc (length c.ring.events)) c.ring.places ≡ false
    → P (with_events (dropped_cell cell ∷ cell ∷ []) c) true)
    → P (after_event cell holder c) (loses_event cell holder c)
after_event-cases P cell holder c stays behind lost =
    put_by (λ x b ring. P x b) cell c [] [] [] (takes_event cell holder c)
    (leaves_out event_of_cell c.ring.events cell.event)
    (nat_lt (suc (length c.ring.events)) c.ring.places) stays behind lost

-- where the events of the numbers are the same
pub ring_after-same : (event event' : ℕ → Event) (cell : Cell) (holder : Option ℕ) (number loss : ℕ)
    (c : ClientView Cell) (ring : List ℕ) → map event ring ≡ map event' ring → event number ≡ event' number
    → ring_after event cell holder number loss c ring ≡ ring_after event' cell holder number loss c ring
ring_after-same event event' cell holder number loss c ring told same =
    rw (same, ends_alike event event' ring ring told)

-- the events of the numbers of a queue in a store
pub told_in : (s : StoreView) (q : List ℕ) → map (event_under s) q ≡ map event_of_cell (map (cell_at s) q)
told_in s q = sym (map-map event_of_cell (cell_at s) q)

module _ (number : ℕ) (s : StoreView) (old new : RingView) (places : 64 ≤ old.places) where
  -- What a ring makes of a number that is put tells which of the three it was.
  ring_put : (a b : Bool) → (b ≡ false → old.places ≤ suc (length old.numbers))
      → length new.numbers ≡ (if a then length old.numbers else if b then suc (length old.numbers) else 2)
      → EntersAlone number old.numbers new.numbers ⊎ IsLost (number ∷ []) s old new
      → (loss : ℕ)
      × (new.numbers ≡ (if a then old.numbers else if b then old.numbers ++ number ∷ []
      else loss ∷ number ∷ [])) × ((not a && not b) ≡ true → holders s loss ≡ 1)
  ring_put true b full long (inl (inl same)) = (0, same, λ h. absurd (false≢true h))
  ring_put true b full long (inl (inr e)) =
      absurd (omega (arith, long, ap length e, length_push old.numbers number))
  ring_put true b full long (inr l) = absurd (omega (arith, long, places, l.full, ap length l.numbers))
  ring_put false true full long (inl (inl same)) = absurd (omega (arith, long, ap length same))
  ring_put false true full long (inl (inr e)) = (0, e, λ h. absurd (false≢true h))
  ring_put false true full long (inr l) = absurd (omega (arith, long, places, l.full, ap length l.numbers))
  ring_put false false full long (inl (inl same)) =
      absurd (omega (arith, long, ap length same, places, full refl))
  ring_put false false full long (inl (inr e)) =
      absurd (omega (arith, long, ap length e, length_push old.numbers number, places, full refl))
  ring_put false false full long (inr l) = (l.loss, l.numbers, λ _. l.alone)

-- a number that was put into a client's ring
pub ring_stored : (number : ℕ) (holder : Option ℕ) (s after : StoreView) (old new : Member)
    → 64 ≤ old.ring.places → takes_event (cell_at s number) holder (client_in s old) ≡ true
    → map (cell_at after) new.ring.events
    ≡ put event_of_cell dropped_cell old.ring.places (map (cell_at s) old.ring.events) (cell_at s number)
    → EntersAlone number old.ring.events new.ring.events
    ⊎ IsLost (number ∷ []) after (ring_of old) (ring_of new)
    → IsRingStored number holder s after old new
ring_stored number holder s after old new places takes queue lost = record {
  loss = found.0;
  ring = rw (takes, ends_alike (event_under s) event_of_cell q Q (told_in s q))
      (found.1
      ∙ ap (λ (k : ℕ). if a then q else if nat_lt (suc k) old.ring.places then q ++ number ∷ []
      else found.0 ∷ number ∷ []) (length-map q (cell_at s)));
  alone = λ h. found.2 (rw takes at h);
}
  where
    q : List ℕ
    q = old.ring.events

    Q : List Cell
    Q = map (cell_at s) q

    a : Bool
    a = leaves_out event_of_cell Q (cell_at s number).event

    b : Bool
    b = nat_lt (suc (length Q)) old.ring.places

    long : (a b : Bool)
        → length (if a then Q else if b then Q ++ cell_at s number ∷ []
        else dropped_cell (cell_at s number) ∷ cell_at s number ∷ [])
        ≡ (if a then length q else if b then suc (length q) else 2)
    long true b = length-map q (cell_at s)
    long false true = omega (arith, length_push Q (cell_at s number), length-map q (cell_at s))
    long false false = refl

    found : (loss : ℕ)
        × (new.ring.events ≡ (if a then q else if b then q ++ number ∷ [] else loss ∷ number ∷ []))
        × ((not a && not b) ≡ true → holders after loss ≡ 1)
    found =
        ring_put number after (ring_of old) (ring_of new) places a b
        (λ h. omega (arith, ltb-false _ _ h, length-map q (cell_at s)))
        (sym (length-map new.ring.events (cell_at after)) ∙ ap length queue ∙ long a b) lost

-- a queue that had events is one SYN_DROPPED now, whose cell has one holder
pub ring_on_clock : (s : StoreView) (old new : List ℕ) (cell : Cell) (queue : List Cell)
    → length queue ≡ length old → queue_in s new ≡ clock_changed false cell queue → AreHeldAlone s new
    → IsRingOnClock false s old new
ring_on_clock s [] [] cell queue long e alone =
    record { loss = 0; ring = refl; alone = λ h. absurd (false≢true h) }
ring_on_clock s [] (y ∷ new) cell [] long e alone = cc
ring_on_clock s [] (y ∷ new) cell (x ∷ queue) long e alone = absurd (omega (arith, long))
ring_on_clock s (x ∷ old) new cell [] long e alone = absurd (omega (arith, long))
ring_on_clock s (x ∷ old) [] cell (c ∷ queue) long e alone = cc
ring_on_clock s (x ∷ old) (y ∷ []) cell (c ∷ queue) long e alone =
    record { loss = y; ring = refl; alone = λ h. All-head (λ n. holders s n ≡ 1) y [] alone }
ring_on_clock s (x ∷ old) (y ∷ z ∷ new) cell (c ∷ queue) long e alone = absurd (omega (arith, ap length e))

-- a ring whose client chose a clock
pub grown_by_clock : (is_same : Bool) (loss : ℕ) (ring : List ℕ)
    → IsGrown [] (not is_same && not (is_empty ring)) ring (clock_changed is_same loss ring)
grown_by_clock true loss [] = grown_none [] false []
grown_by_clock true loss (x ∷ ring) = grown_none [] false (x ∷ ring)
grown_by_clock false loss [] = grown_none [] false []
grown_by_clock false loss (x ∷ ring) =
    record { front = loss ∷ []; kept_or_lost = inr (refl, refl); among = λ n there. omega (arith, there) }

-- What came into the rings by a frame
pub record AreGrownBy (frame : List Event) (now place : ℕ) (holder : Option ℕ)
    (old new : ClientsView) : Type 0 where
  -- the numbers of the frame's events
  pub given : List ℕ
  -- there is one number for each event
  pub long : length given ≡ length frame
  -- each client has its ring, before and after
  pub rings : (length old.rings ≡ length old.list) × (length new.rings ≡ length old.list)
  -- each ring took some of these numbers, and lost what it had where its client lost its queue
  pub each : (i : ℕ) → i < length old.list
      → IsGrown given (loses frame now place holder (client_of_index old i)) (ring_of_index old i)
      (ring_of_index new i)

-- each event has one number, which each ring takes behind what it had, or after a loss, or not
pub grown_by : (frame : List Event) (now place : ℕ) (holder : Option ℕ) (old new : ClientsView)
    → IsStoredOnce frame now place holder old new → AreGrownBy frame now place holder old new
grown_by [] now place holder old new once = record {
  given = [];
  long = refl;
  rings = (once.0, rw once.1 once.0);
  each = λ i in_i.
      rw once.1 (grown_none [] false (ring_of_index old i));
}
grown_by (e ∷ frame) now place holder old new once =
    let mid : ClientsView = once.0 in
    let x : Cell = cell_of_event now place e in
    let first : IsEventStored x holder old mid = once.1 in
    let long : length mid.list ≡ length old.list =
    ap length first.clients ∙ length-map old.list (after_event x holder) in
    let rest : AreGrownBy frame now place holder mid new = grown_by frame now place holder mid new once.2 in
    record {
      given = first.number ∷ rest.given;
      long = ap suc rest.long;
      rings = (first.rings.0, rest.rings.1 ∙ long);
      each = λ i in_i.
          let c : ClientView Cell = client_of_index old i in
          let a : Bool = loses_event x holder c in
          let b : Bool = loses frame now place holder (after_event x holder c) in
          let next : client_of_index mid i ≡ after_event x holder c =
          rw first.clients
          (get_or-map (after_event x holder) old.list i (new_client 0 0) (new_client 0 0) in_i) in
          let step : IsGrown (first.number ∷ []) a (ring_of_index old i) (ring_of_index mid i) =
          rw first.each
          (grown_by_event first.event x holder first.number (first.losses i) c (ring_of_index old i)
          (first.told i in_i) first.same) in
          let more : IsGrown rest.given b (ring_of_index mid i) (ring_of_index new i) =
          rw next at (rest.each i (omega (arith, in_i, long))) in
          grown_then (first.number ∷ []) rest.given a (a || b) (λ h. rw h) step
          (grown_told b (a || b) (either_too a b) more);
    }
  where
    either_too : (a b : Bool) → b ≡ true → (a || b) ≡ true
    either_too true b h = refl
    either_too false b h = h

-- How many different numbers there are then

abbrev pub all_of : List (List ℕ) → List ℕ
all_of rings = flat_map (λ q. q) rings

-- the numbers of SYN_DROPPED that came
record AreLosses (count : ℕ) (given old new : List ℕ) : Type 0 where
  losses : List ℕ
  few : length losses ≤ count
  among : (n : ℕ) → 1 ≤ times n new → 1 ≤ times n old + times n given + times n losses

module _ (lost : ClientView Cell → Bool) (given : List ℕ) where
  one_more : (c : ClientView Cell) (cs : List (ClientView Cell)) (o n old new : List ℕ)
      → IsGrown given (lost c) o n → AreLosses (count_by lost cs) given old new
      → AreLosses (count_by lost (c ∷ cs)) given (o ++ old) (n ++ new)
  one_more c cs o n old new grown rest = elim grown.kept_or_lost [
    | inl kept ↦ record {
      losses = rest.losses;
      few = omega (arith, rest.few, sum_by-cons (λ (x : ClientView Cell). if lost x then 1 else 0) c cs);
      among =
          λ k there. grind (
            arith,
            there,
            rest.among k,
            grown.among k,
            ap (times k) kept,
            times-append k n new,
            times-append k o old,
          );
    }
    | inr was ↦ record {
      losses = grown.front ++ rest.losses;
      few =
          omega (
            arith,
            length-append grown.front rest.losses,
            was.1,
            rest.few,
            sum_by-cons (λ (x : ClientView Cell). if lost x then 1 else 0) c cs,
            ap {B = ℕ} (λ (b : Bool). if b then 1 else 0) was.0,
          );
      among =
          λ k there. grind (
            arith,
            there,
            rest.among k,
            grown.among k,
            times-append k n new,
            times-append k o old,
            times-append k grown.front rest.losses,
          );
    }
  ]

  losses_of : (cs : List (ClientView Cell)) (os ns : List (List ℕ)) → length os ≡ length cs
      → length ns ≡ length cs
      → ((i : ℕ) → i < length cs
      → IsGrown given (lost (get_or cs i (new_client 0 0))) (get_or os i []) (get_or ns i []))
      → AreLosses (count_by lost cs) given (all_of os) (all_of ns)
  losses_of [] [] [] a b each =
      record { losses = []; few = omega arith; among = λ n there. absurd (omega (arith, there)) }
  losses_of [] [] (n ∷ ns) a b each = absurd (omega (arith, b))
  losses_of [] (o ∷ os) ns a b each = absurd (omega (arith, a))
  losses_of (c ∷ cs) [] ns a b each = absurd (omega (arith, a))
  losses_of (c ∷ cs) (o ∷ os) [] a b each = absurd (omega (arith, b))
  losses_of (c ∷ cs) (o ∷ os) (n ∷ ns) a b each =
      one_more c cs o n (all_of os) (all_of ns) (each 0 (omega arith))
      (losses_of cs os ns (omega (arith, a)) (omega (arith, b))
      (λ i in_i. each (suc i) (omega (arith, in_i))))

  -- no more different numbers than came, and one of each client that lost its queue
  pub stored_among : (old new : ClientsView) (cs : List (ClientView Cell)) → length old.rings ≡ length cs
      → length new.rings ≡ length cs
      → ((i : ℕ) → i < length cs
      → IsGrown given (lost (get_or cs i (new_client 0 0))) (get_or old.rings i []) (get_or new.rings i []))
      → stored_of new ≤ stored_of old + length given + count_by lost cs
  stored_among old new cs a b each =
      omega (
        arith,
        distinct_few (held_numbers new) (distinct (held_numbers old) ++ (given ++ found.losses)) in_all,
        length-append (distinct (held_numbers old)) (given ++ found.losses),
        length-append given found.losses,
        found.few,
      )
    where
      found : AreLosses (count_by lost cs) given (held_numbers old) (held_numbers new)
      found = losses_of cs old.rings new.rings a b each

      in_all : (n : ℕ) → 1 ≤ times n (held_numbers new)
          → 1 ≤ times n (distinct (held_numbers old) ++ (given ++ found.losses))
      in_all n there =
          let parts : times n (distinct (held_numbers old) ++ (given ++ found.losses))
          ≡ times n (distinct (held_numbers old)) + (times n given + times n found.losses) =
          omega (
            arith,
            times-append n (distinct (held_numbers old)) (given ++ found.losses),
            times-append n given found.losses,
          ) in
          grind (arith, parts, distinct_there n (held_numbers old), found.among n there)

-- each ring has as many numbers as its client's queue has events
abbrev pub AreAsLong : ClientsView → Type 0
AreAsLong clients =
    (i : ℕ) → i < length clients.list
    → length (ring_of_index clients i) ≡ length (client_of_index clients i).ring.events

-- a ring whose client may have chosen a clock
pub clock_grown : {number : ℕ} {clock : Clock} (old new : ClientsView) → AreAsLong old
    → IsClockStored number clock old new
    → (i : ℕ) → i < length old.list
    → IsGrown [] (is_lost_to_clock number clock (client_of_index old i)) (ring_of_index old i)
    (ring_of_index new i)
clock_grown {number} {clock} old new long is i in_i =
    rw is.each (by (has_number number c))
  where
    c : ClientView Cell
    c = client_of_index old i

    ring : List ℕ
    ring = ring_of_index old i

    same : Bool
    same = is_same_clock c.clock clock

    empty_alike : (q : List ℕ) (r : List Cell) → length q ≡ length r → is_empty q ≡ is_empty r
    empty_alike [] [] h = refl
    empty_alike [] (x ∷ r) h = absurd (omega (arith, h))
    empty_alike (n ∷ q) [] h = absurd (omega (arith, h))
    empty_alike (n ∷ q) (x ∷ r) h = refl

    by : (b : Bool)
        → IsGrown [] (b && (not same && not (is_empty c.ring.events))) ring
        (if b then clock_changed same is.loss ring else ring)
    by false = grown_none [] false ring
    by true = rw (empty_alike ring c.ring.events (long i in_i)) at (grown_by_clock same is.loss ring)

-- The different numbers grow by one at most for each event of the frame, and for each client that lost its
-- queue.
pub stored_few : (frame : List Event) (now place : ℕ) (holder : Option ℕ) (old new : ClientsView)
    → IsStoredOnce frame now place holder old new
    → stored_of new ≤ stored_of old + length frame + count_by (loses frame now place holder) old.list
stored_few frame now place holder old new once =
    let is : AreGrownBy frame now place holder old new = grown_by frame now place holder old new once in
    omega (
      arith,
      is.long,
      stored_among (loses frame now place holder) is.given old new old.list is.rings.0 is.rings.1 is.each,
    )

-- By a change of clock they grow by one at most, where a queue is lost.
pub stored_clock : {number : ℕ} {clock : Clock} (old new : ClientsView) → length new.list ≡ length old.list
    → AreAsLong old → IsClockStored number clock old new
    → stored_of new ≤ stored_of old + count_by (is_lost_to_clock number clock) old.list
stored_clock {number} {clock} old new same long is =
    omega (
      arith,
      stored_among (is_lost_to_clock number clock) [] old new old.list is.rings.0 (is.rings.1
          ∙ same) (clock_grown old new long is),
    )
