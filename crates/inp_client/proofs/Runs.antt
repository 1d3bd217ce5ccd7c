-- A frame is put in one run into the rings of all clients that it is offered to.
use Rattle.std.proofs.Common.{◌≡◌, ◌≢◌, ◌≤◌, ◌<◌, ℕ, suc, ◌+◌, Bool, true, false, ◌&&◌, ◌||◌, not}
use Rattle.std.proofs.Common.{if◌then◌else◌, nat_lt, List, [], ◌∷◌, ◌++◌, length, map, take, drop, get_or}
use Rattle.std.proofs.Common.{Option, None, refl, sym, ap, ◌∙◌, inl, inr, arith}
use Rattle.std.specs.Prelude.{filter, sum_by, All}
use Rattle.std.proofs.lemmas.Bool.{false≢true, cond_both, cases_lt, lt-ltb, le-ltb, and_right}
use Rattle.std.proofs.lemmas.List.{take_more, take_all, length-map, length_push, length-append, get_or-map}
use Rattle.std.proofs.lemmas.List.{append_assoc, append-nil, map_push, map-append, map-id}
use Rattle.std.proofs.lemmas.List.Sums.{sum_by-cons, sum_by-le, get_or-le-sum_by, count_by_more_no}
use Rattle.std.proofs.lemmas.List.Sums.{count_by_more_yes}
use Rattle.std.proofs.lemmas.List.Elements.{All-map, All-from_get_or, All-get_or, All-append, All-push}
use Rattle.slab.specs.Slab.{Slab, with_value}
use Rattle.inp_model.specs.declared.stamped.TheConstants.{MOMENT_MAX}
use Rattle.inp_model.specs.declared.event.Event.{Event}
use Rattle.inp_model.specs.Event.{is_report}
use Rattle.inp_model.specs.Queue.{is_empty, ends_in_report, put, put_all}
use Rattle.inp_ring.specs.declared.cell.Cell.{Cell}
use Rattle.inp_ring.specs.Store.{StoreView, held_under, held_cell, holders, holders_of, cell_count, held_by}
use Rattle.inp_ring.specs.Store.{event_of_cell, dropped_cell, IsPut}
use Rattle.inp_ring.specs.Ring.{times, cell_at, queue_in, AreFit, AreDifferent, IsRing}
use Rattle.inp_ring.proofs.Times.{at_each, times-append, times_push, times_first, once, once_same, once_other}
use Rattle.inp_ring.proofs.Times.{AreDifferent_push}
use Rattle.inp_ring.proofs.Moves.{idle_none}
use Rattle.inp_ring.proofs.Rings.{queue_stays, ends_map}
use Rattle.inp_client.proofs.OtherClients.{no_client, member_ring, member_timed}
use Rattle.inp_client.specs.declared.frame.Frame.{Frame}
use Rattle.inp_client.specs.declared.location.Location.{Location}
use Rattle.inp_client.specs.Masks.{MaskView, admits_of, full_masks}
use Rattle.inp_client.specs.Client.{ClientView, with_events, is_offered_to, cell_of_event, after_offer}
use Rattle.inp_client.specs.Member.{Member, ring_of, client_in, cells_in, clients_view_in, times_in, wanted}
use Rattle.inp_client.specs.Member.{after_event, AreStored}
use Rattle.inp_client.specs.Numbers.{takes_event, loses_event, ring_after, event_under, IsStoredOnce}
use Rattle.inp_client.specs.Locations.{client_at, clients_in, AreLocated}
use Rattle.inp_client.specs.Offered.{AreShared, FitsInOneRun, IsOffered, TakesFrame, takers_in, with_run}
use Rattle.inp_client.specs.Offered.{are_reports_apart, member_at}
use Rattle.inp_client.proofs.MaskBits.{admits_of-full_masks}
use Rattle.inp_client.proofs.Lists.{flag_other, map_over, map_same}
use Rattle.inp_client.proofs.CellCounts.{times-clients_view_in, times_of, wanted_of}
use Rattle.inp_client.proofs.RingsLeft.{rings_in, ring_at_index, client_at_index, told_at_index}
use Rattle.inp_client.proofs.Locations.{located_after_write, member_written, member_kept, members_long}
use Rattle.inp_client.proofs.Locations.{member_in_location, member_found, IsAt}

-- A frame whose reports are apart

apart_first : (a b : Bool) → (not a && b) ≡ true → a ≡ false
apart_first true b h = cc
apart_first false b h = refl

apart_rest : (a b : Bool) → (not a && b) ≡ true → b ≡ true
apart_rest true b h = cc
apart_rest false b h = h

weaker : (r b rest : Bool) → (not (r && true) && rest) ≡ true → (not (r && b) && rest) ≡ true
weaker true b rest h = cc
weaker false b rest h = h

apart_any : (es : List Event) (b : Bool) → are_reports_apart true es ≡ true → are_reports_apart b es ≡ true
apart_any [] b h = refl
apart_any (e ∷ es) b h = weaker (is_report e) b (are_reports_apart (is_report e) es) h

abbrev ends : List Cell → Bool
ends q = is_empty q || ends_in_report event_of_cell q

ends_push : (q : List Cell) (cell : Cell) → ends (q ++ cell ∷ []) ≡ is_report cell.event
ends_push [] cell = refl
ends_push (x ∷ []) cell = refl
ends_push (x ∷ y ∷ q) cell = ends_push (y ∷ q) cell

put_apart : (places : ℕ) (q : List Cell) (es : List Event) (now place : ℕ)
    → are_reports_apart (ends q) es ≡ true → length q + length es < places
    → put_all event_of_cell dropped_cell places q (map (cell_of_event now place) es) ≡ q
    ++ map (cell_of_event now place) es
put_apart places q [] now place apart room = sym (append-nil q)
put_apart places q (e ∷ es) now place apart room =
    let cell = cell_of_event now place e in
    let rest = map (cell_of_event now place) es in
    let first = apart_first (is_report e && ends q) (are_reports_apart (is_report e) es) apart in
    let others = apart_rest (is_report e && ends q) (are_reports_apart (is_report e) es) apart in
    let fits = lt-ltb (suc (length q)) places (omega (arith, room)) in
    let is_put : put event_of_cell dropped_cell places q cell ≡ q ++ cell ∷ [] = rw (first, fits) in
    rw (
      ← put_apart places (q ++ cell ∷ []) es now place (rw (ends_push q cell) others)
          (omega (arith, room, length_push q cell)),
      ← is_put,
    ) at (append_assoc q (cell ∷ []) rest)

admits_all : (masks : MaskView) (es : List Event) → masks ≡ full_masks → filter (admits_of masks) es ≡ es
admits_all masks [] full = refl
admits_all masks (e ∷ es) full = rw (full, admits_of-full_masks, admits_all masks es full)

-- a client that takes all of a frame that it is offered
taken_whole : (frame : List Event) (now place : ℕ) (holder : Option ℕ) (c : ClientView Cell)
    → is_offered_to holder c ≡ true → c.masks ≡ full_masks → are_reports_apart true frame ≡ true
    → length c.ring.events + length frame < c.ring.places
    → after_offer frame now place holder c
    ≡ with_events (c.ring.events ++ map (cell_of_event now place) frame) c
taken_whole frame now place holder c is_to full apart room =
    rw (
      is_to,
      admits_all,
      put_apart c.ring.places c.ring.events frame now place (apart_any frame (ends c.ring.events) apart) room,
    )

-- It loses nothing.
keeps_queue : (cell : Cell) (holder : Option ℕ) (c : ClientView Cell)
    → suc (length c.ring.events) < c.ring.places → loses_event cell holder c ≡ false
keeps_queue cell holder c room =
    and_right (takes_event cell holder c && not (is_report cell.event && ends c.ring.events)) _
    (ap not (lt-ltb (suc (length c.ring.events)) c.ring.places room))

-- Cells that are added one by one

-- the cells of a frame's events
abbrev pub cells_of : Frame → List Cell
cells_of f = map (cell_of_event f.moment f.place) f.events.now

-- cells were added, each with so many holders, under numbers that had no cell
pub record AreAdded (old new : StoreView) (cells : List Cell) (count : ℕ) (numbers : List ℕ) : Type 0 where
  -- there is one number for each cell
  pub long : length numbers ≡ length cells
  -- there was no cell under any of the numbers
  pub fresh : (n : ℕ) → 1 ≤ times n numbers → held_under old n ≡ None
  -- no number is twice among them
  pub different : AreDifferent numbers
  -- the cells lie under the numbers, in their order
  pub there : queue_in new numbers ≡ cells
  -- each cell has so many holders
  pub held : (n : ℕ) → 1 ≤ times n numbers → holders new n ≡ count
  -- under each other number is what was there
  pub others : (n : ℕ) → times n numbers ≡ 0 → held_under new n ≡ held_under old n
  -- as many cells are there or spare as before
  pub room : cell_count new + new.spare ≡ cell_count old + old.spare

-- before the first cell the store is as it was
pub added_none : (s : StoreView) (count : ℕ) → AreAdded s s [] count []
added_none s count = record {
  long = refl;
  fresh = λ n there. absurd (omega (arith, there));
  different = λ n. omega arith;
  there = refl;
  held = λ n there. absurd (omega (arith, there));
  others = λ n none. refl;
  room = refl;
}

-- the number of the next cell had none, so it is not among those before
pub added_more : {first s : StoreView} {cells : List Cell} {count : ℕ} {numbers : List ℕ}
    (to : AreAdded first s cells count numbers) (some : 0 < count) (x : ℕ) (cell : Cell) (new : StoreView)
    → held_under s x ≡ None → IsPut s new x (held_by count cell)
    → cell_count new + new.spare ≡ cell_count s + s.spare
    → AreAdded first new (cells ++ cell ∷ []) count (numbers ++ x ∷ [])
added_more {first} {s} {cells} {count} {numbers} to some x cell new none put room = record {
  long = omega (arith, to.long, length_push numbers x, length_push cells cell);
  fresh = at_each _ x (λ there. sym (to.others x absent) ∙ none)
      (λ n d there.
      to.fresh n (omega (arith, there, times_push n x numbers, once_other n x (λ e. d (sym e)))));
  different = AreDifferent_push x numbers to.different absent;
  there =
      rw (
        map_push,
        queue_stays s new numbers (λ n there. ap held_cell (put.others n (apart n there))),
        to.there,
        put.changed,
      );
  held = at_each _ x (λ there. ap holders_of put.changed)
      (λ n d there. ap holders_of (put.others n d)
      ∙ to.held n (omega (arith, there, times_push n x numbers, once_other n x (λ e. d (sym e)))));
  others = at_each _ x (λ out. absurd (omega (arith, out, times_push x x numbers, once_same x)))
      (λ n d out. put.others n d ∙ to.others n (omega (arith, out, times_push n x numbers)));
  room = room ∙ to.room;
}
  where
    absent : times x numbers ≡ 0
    absent = grind (arith, some, to.held x, ap holders_of none)

    apart : (n : ℕ) → 1 ≤ times n numbers → n ≢ x
    apart n there e = grind (arith, there, absent)

-- for each event of a frame
pub added_all : {first s : StoreView} {count : ℕ} (f : Frame) (at : ℕ) (numbers : List ℕ)
    → at ≡ length f.events.now
    → AreAdded first s (map (cell_of_event f.moment f.place) (take at f.events.now)) count (take at numbers)
    → AreAdded first s (cells_of f) count (take (length f.events.now) numbers)
added_all {first} {s} {count} f at numbers all to =
    rw (take_all at f.events.now (omega (arith, all)), all) at to

-- Numbers that are put into one ring after the other

pub record IsAppendedTo (count : ℕ) (holder : Option ℕ) (numbers : List ℕ) (locations : List Location)
    (before slab : Slab Member) : Type 0 where
  -- each client has its location
  pub located : AreLocated locations slab
  -- the first clients have the numbers if they are offered the frame, and the others are as before
  pub changed : (j : ℕ) → j < length locations → member_at locations slab j
      ≡ (if nat_lt j count then with_run holder numbers (member_at locations before j)
      else member_at locations before j)
  -- the slab has the capacity that it had
  pub capacity : slab.capacity ≡ before.capacity

-- before the first client all are as they were
pub appended_none : (holder : Option ℕ) (numbers : List ℕ) (locations : List Location) (slab : Slab Member)
    → AreLocated locations slab → IsAppendedTo 0 holder numbers locations slab slab
appended_none holder numbers locations slab located = record {
  located = located;
  changed = λ j in_j. sym (rw (le-ltb j 0 (omega arith)));
  capacity = refl;
}

module _ {holder : Option ℕ} {numbers : List ℕ} {locations : List Location} {before slab : Slab Member}
    {i : ℕ} (to : IsAppendedTo i holder numbers locations before slab) where
  -- no client is left, so each that is offered the frame has the numbers
  pub appended_all : length locations ≤ i
      → clients_in locations slab ≡ map (with_run holder numbers) (clients_in locations before)
  appended_all past =
      let was : Location → Member = λ at. client_at before at.key in
      map_over (λ at. client_at slab at.key) was (with_run holder numbers) locations (λ j d in_j.
      rw (
        ← member_in_location to.located j d no_client in_j,
        to.changed j in_j,
        lt-ltb j i (omega arith),
        get_or-map was locations j d no_client in_j,
      ))

  module _ {key : ℕ} {old : Member} (at : IsAt locations slab i key old) where
    -- the next client is as it was before
    pub old_is : member_at locations before i ≡ old
    old_is = rw (to.changed i at.within, le-ltb i i (omega arith)) at (member_found to.located at no_client)

    module _ {new : Member} (is : new ≡ with_run holder numbers old)
        (numbered : new.number ≡ old.number) where
      abbrev next_slab : Slab Member
      next_slab = with_value slab key new

      -- the next client has the numbers if it is offered the frame, and the others stay
      pub appended_more : IsAppendedTo (i + 1) holder numbers locations before next_slab
      appended_more = record {
        located = located_after_write to.located at new numbered;
        changed = at_each _ i
            (λ in_j. rw (
              member_written to.located at new no_client,
              lt-ltb i (i + 1) (omega arith),
              old_is,
            ) is)
            (λ j d in_j. rw (member_kept to.located at new j no_client d, ← flag_other j i d)
            (to.changed j in_j));
        capacity = to.capacity;
      }

-- Who takes it

module _ {locations : List Location} {slab : Slab Member} {i key : ℕ} {client : Member}
    (located : AreLocated locations slab) (at : IsAt locations slab i key client) (holder : Option ℕ) where
  abbrev among : List Member
  among = clients_in locations slab

  in_among : i < length among
  in_among = omega (arith, at.within, members_long located)

  next_is : get_or among i no_client ≡ client
  next_is = member_found located at no_client

  -- the next client is not offered the frame, so it is not counted
  pub takers_same : (takers : ℕ) → takers ≡ takers_in holder (take i among)
      → is_offered_to holder client ≡ false → takers ≡ takers_in holder (take (i + 1) among)
  takers_same takers is not_to =
      is
      ∙ sym (count_by_more_no (is_offered_to holder) among i no_client in_among
      (ap (is_offered_to holder) next_is ∙ not_to))

  -- the next client is offered the frame, so it is one more
  pub takers_more : (takers : ℕ) → takers ≡ takers_in holder (take i among)
      → is_offered_to holder client ≡ true → takers + 1 ≡ takers_in holder (take (i + 1) among)
  takers_more takers is is_to =
      rw is
      (sym (count_by_more_yes (is_offered_to holder) among i no_client in_among
      (ap (is_offered_to holder) next_is ∙ is_to)))

  -- the next client takes the whole frame, or is not offered it
  pub takes_more : (count : ℕ) → All (TakesFrame holder count) (take i among) → TakesFrame holder count client
      → All (TakesFrame holder count) (take (i + 1) among)
  takes_more count all one =
      let next : take (i + 1) among ≡ take i among ++ client ∷ [] =
      rw (take_more among i no_client in_among, next_is) in
      rw next (All-push (TakesFrame holder count) (take i among) client all one)

-- What all of it leaves

module _ (holder : Option ℕ) (numbers : List ℕ) where
  -- a sum over the clients, each of whose terms grows by another, or by nothing
  sum_run : (f g : Member → ℕ) → ((m : Member) → f (with_run holder numbers m) ≡ f m + g m)
      → (ms : List Member)
      → sum_by f (map (with_run holder numbers) ms) ≡ sum_by f ms + sum_by g ms
  sum_run f g each [] = refl
  sum_run f g each (m ∷ ms) =
      let after : List Member = map (with_run holder numbers) ms in
      omega (
        arith,
        sum_by-cons f (with_run holder numbers m) after,
        sum_by-cons f m ms,
        sum_by-cons g m ms,
        each m,
        sum_run f g each ms,
      )

  sum_same : (f : Member → ℕ) → ((m : Member) → f (with_run holder numbers m) ≡ f m) → (ms : List Member)
      → sum_by f (map (with_run holder numbers) ms) ≡ sum_by f ms
  sum_same f each ms =
      omega (
        arith,
        sum_run f (λ m. 0) (λ m. omega (arith, each m)) ms,
        sum_by-le (λ (m : Member). 0) 0 ms (λ j d in_j. omega arith),
      )

  times_out : (n : ℕ) (ms : List Member) → times n numbers ≡ 0
      → times_in n (map (with_run holder numbers) ms) ≡ times_in n ms
  times_out n ms out =
      sum_same (times_of n)
      (λ m. cond_both (is_offered_to holder m) _ _
      (λ (x : Member). times n x.ring.events ≡ times n m.ring.events)
      (λ _. omega (arith, times-append n m.ring.events numbers, out)) (λ _. refl)) ms

  times_one : (n : ℕ) (ms : List Member) → times n numbers ≡ 1
      → times_in n (map (with_run holder numbers) ms) ≡ times_in n ms + takers_in holder ms
  times_one n ms one =
      sum_run (times_of n) (λ x. if is_offered_to holder x then 1 else 0)
      (λ m. either m (is_offered_to holder m)) ms
    where
      either : (m : Member) (b : Bool)
          → times n (if b then with_events (m.ring.events ++ numbers) m else m).ring.events
          ≡ times n m.ring.events + (if b then 1 else 0)
      either m true = omega (arith, times-append n m.ring.events numbers, one)
      either m false = omega arith

  same_places : (m : Member) → (with_run holder numbers m).ring.places ≡ m.ring.places
  same_places m =
      cond_both (is_offered_to holder m) _ _ (λ (x : Member). x.ring.places ≡ m.ring.places)
      (λ _. refl) (λ _. refl)

  -- a client keeps its own number, whatever its ring takes
  pub same_number : (m : Member) → (with_run holder numbers m).number ≡ m.number
  same_number m =
      cond_both (is_offered_to holder m) _ _ (λ (x : Member). x.number ≡ m.number) (λ _. refl) (λ _. refl)

  wanted_same : (ms : List Member) → wanted (map (with_run holder numbers) ms) ≡ wanted ms
  wanted_same ms = sum_same wanted_of (λ m. omega (arith, same_places m)) ms

-- A client that is offered a frame admits all of it and has room for it, and no report is left out.
abbrev FitsRun : StoreView → List Event → Option ℕ → Member → Type 0
FitsRun store frame holder m =
    is_offered_to holder m ≡ true
    → (m.masks ≡ full_masks) × (length m.ring.events + length frame < m.ring.places)
    × (are_reports_apart (ends (map (cell_at store) m.ring.events)) frame ≡ true)

module _ (store : StoreView) (now place : ℕ) (holder : Option ℕ) where
  module _ (e : Event) (frame : List Event) (x : ℕ) (m : Member)
      (there : cell_at store x ≡ cell_of_event now place e) (fits : FitsRun store (e ∷ frame) holder m) where
    abbrev Q : List Cell
    Q = map (cell_at store) m.ring.events

    abbrev cell : Cell
    cell = cell_of_event now place e

    takes_one : is_offered_to holder m ≡ true → takes_event cell holder (client_in store m) ≡ true
    takes_one h = rw (h, (fits h).0) (admits_of-full_masks e)

    apart_here : is_offered_to holder m ≡ true → (is_report e && ends Q) ≡ false
    apart_here h = apart_first (is_report e && ends Q) (are_reports_apart (is_report e) frame) (fits h).2

    apart_after : is_offered_to holder m ≡ true → are_reports_apart (is_report e) frame ≡ true
    apart_after h = apart_rest (is_report e && ends Q) (are_reports_apart (is_report e) frame) (fits h).2

    room_here : is_offered_to holder m ≡ true → nat_lt (suc (length m.ring.events)) m.ring.places ≡ true
    room_here h = lt-ltb (suc (length m.ring.events)) m.ring.places (omega (arith, (fits h).1))

    -- its queue and its ring have one more
    one_seen : client_in store (with_run holder (x ∷ []) m) ≡ after_event cell holder (client_in store m)
    one_seen =
        cond_both (is_offered_to holder m) _ _
        (λ (n : Member). client_in store n ≡ after_event cell holder (client_in store m))
        (λ h. rw (
          takes_one h,
          map_push (cell_at store) m.ring.events x,
          there,
          apart_here h,
          length-map m.ring.events (cell_at store),
          room_here h,
        ))
        (λ h. rw h)

    one_ring : (with_run holder (x ∷ []) m).ring.events
        ≡ ring_after (event_under store) cell holder x 0 (client_in store m) m.ring.events
    one_ring =
        cond_both (is_offered_to holder m) _ _
        (λ (n : Member). n.ring.events ≡ ring_after (event_under store) cell holder x 0
        (client_in store m) m.ring.events)
        (λ h. rw (takes_one h, there, ← ends_map store m.ring.events, apart_here h, room_here h))
        (λ h. rw h)

    one_keeps : loses_event cell holder (client_in store m) ≡ false
    one_keeps = by (is_offered_to holder m) refl
      where
        by : (b : Bool) → is_offered_to holder m ≡ b → loses_event cell holder (client_in store m) ≡ false
        by true h =
            keeps_queue cell holder (client_in store m)
            (omega (arith, (fits h).1, length-map m.ring.events (cell_at store)))
        by false h = rw h

    fits_rest : FitsRun store frame holder (with_run holder (x ∷ []) m)
    fits_rest =
        cond_both (is_offered_to holder m) _ _ (λ (n : Member). FitsRun store frame holder n)
        (λ h g. (
          (fits h).0,
          omega (arith, (fits h).1, length_push m.ring.events x),
          rw (map_push (cell_at store) m.ring.events x, ends_push Q (cell_at store x), there) (apart_after h),
        ))
        (λ h g. absurd (false≢true (sym h ∙ g)))

  run_more : (x : ℕ) (numbers : List ℕ) (m : Member)
      → with_run holder numbers (with_run holder (x ∷ []) m) ≡ with_run holder (x ∷ numbers) m
  run_more x numbers m = by (is_offered_to holder m) refl
    where
      by : (b : Bool) → is_offered_to holder m ≡ b
          → with_run holder numbers (if b then with_events (m.ring.events ++ x ∷ []) m else m)
          ≡ (if b then with_events (m.ring.events ++ x ∷ numbers) m else m)
      by true h = rw (h, append_assoc m.ring.events (x ∷ []) numbers)
      by false h = rw h

  run_none : (m : Member) → with_run holder [] m ≡ m
  run_none m =
      cond_both (is_offered_to holder m) _ _ (λ (n : Member). n ≡ m)
      (λ _. rw (append-nil m.ring.events)) (λ _. refl)

  -- the numbers of a frame's cells came into all rings in one run
  run_stored : (frame : List Event) (numbers : List ℕ) (ms : List Member) → length numbers ≡ length frame
      → map (cell_at store) numbers ≡ map (cell_of_event now place) frame → AreDifferent numbers
      → ((n : ℕ) → 1 ≤ times n numbers → times_in n ms ≡ 0)
      → ((j : ℕ) → j < length ms → FitsRun store frame holder (get_or ms j no_client))
      → IsStoredOnce frame now place holder (clients_view_in store ms)
      (clients_view_in store (map (with_run holder numbers) ms))
  run_stored [] [] ms long there different absent fits = (
    rings_in store ms,
    ap (clients_view_in store)
        (map_same (with_run holder []) (λ m. m) ms (λ j d in_j. run_none (get_or ms j d)) ∙ map-id ms),
  )
  run_stored [] (x ∷ numbers) ms long there different absent fits = absurd (omega (arith, long))
  run_stored (e ∷ frame) [] ms long there different absent fits = absurd (omega (arith, long))
  run_stored (e ∷ frame) (x ∷ numbers) ms long there different absent fits = (
    clients_view_in store mid,
    record {
      clients =
          sym (map_over (λ m. client_in store (with_run holder (x ∷ []) m)) (with_run holder (x ∷ []))
          (client_in store) ms (λ j d in_j. refl))
          ∙ map_over (λ m. client_in store (with_run holder (x ∷ []) m)) (client_in store)
          (after_event (cell_of_event now place e) holder) ms
          (All-from_get_or
          (λ m. client_in store (with_run holder (x ∷ []) m)
          ≡ after_event (cell_of_event now place e) holder (client_in store m)) ms no_client
          (λ j in_j. one_seen e frame x (get_or ms j no_client) first (fits j in_j)));
      rings = (rings_in store ms, rings_in store mid);
      event = event_under store;
      told = told_at_index store ms;
      number = x;
      same = ap (λ (c : Cell). c.event) first;
      fresh = times-clients_view_in x store ms ∙ absent x (times_first x numbers);
      losses = λ j. 0;
      alone = λ j in_j h.
          let within : j < length ms = omega (arith, in_j, length-map ms (client_in store)) in
          absurd
          (false≢true
          (rw (
            client_at_index store ms j within,
            one_keeps e frame x (get_or ms j no_client) first (fits j within),
          ) at h));
      each = λ j in_j.
          let within : j < length ms = omega (arith, in_j, length-map ms (client_in store)) in
          rw (
            ring_at_index store mid j (omega (arith, within, length-map ms (with_run holder (x ∷ [])))),
            mid_is j within,
            client_at_index store ms j within,
            ring_at_index store ms j within,
          )
          (one_ring e frame x (get_or ms j no_client) first (fits j within));
    },
    rw run_whole at
        (run_stored frame numbers mid (omega (arith, long))
        (ap (drop 1) there) different_rest absent_rest fits_mid),
  )
    where
      mid : List Member
      mid = map (with_run holder (x ∷ [])) ms

      first : cell_at store x ≡ cell_of_event now place e
      first = ap (λ (q : List Cell). get_or q 0 (cell_of_event now place e)) there

      mid_is : (j : ℕ) → j < length ms
          → get_or mid j no_client ≡ with_run holder (x ∷ []) (get_or ms j no_client)
      mid_is j in_j = get_or-map (with_run holder (x ∷ [])) ms j no_client no_client in_j

      run_whole : map (with_run holder numbers) mid ≡ map (with_run holder (x ∷ numbers)) ms
      run_whole =
          sym (map_over (with_run holder (x ∷ numbers)) (with_run holder (x ∷ []))
          (with_run holder numbers) ms (λ j d in_j. sym (run_more x numbers (get_or ms j d))))

      different_rest : AreDifferent numbers
      different_rest n = omega (arith, different n)

      not_first : (n : ℕ) → 1 ≤ times n numbers → once n x ≡ 0
      not_first n has = omega (arith, has, different n)

      absent_rest : (n : ℕ) → 1 ≤ times n numbers → times_in n mid ≡ 0
      absent_rest n has =
          times_out holder (x ∷ []) n ms (omega (arith, not_first n has)) ∙ absent n (omega (arith, has))

      fits_mid : (j : ℕ) → j < length mid → FitsRun store frame holder (get_or mid j no_client)
      fits_mid j in_j =
          let within : j < length ms = omega (arith, in_j, length-map ms (with_run holder (x ∷ []))) in
          rw (mid_is j within) (fits_rest e frame x (get_or ms j no_client) first (fits j within))

module _ {locations : List Location} {before : Slab Member} {first store : StoreView} {f : Frame} {takers : ℕ}
    {numbers : List ℕ}
    (shared : AreShared locations before first) (run : FitsInOneRun locations before first f takers)
    (added : AreAdded first store (cells_of f) takers numbers) where
  abbrev frame : List Event
  frame = f.events.now

  abbrev now : ℕ
  now = f.moment

  abbrev place : ℕ
  place = f.place

  abbrev holder : Option ℕ
  holder = f.holder

  abbrev ms : List Member
  ms = clients_in locations before

  abbrev cells : List Cell
  cells = cells_of f

  count_is : length numbers ≡ length frame
  count_is = added.long ∙ length-map frame (cell_of_event now place)

  -- a new number is in no ring
  in_none : (n : ℕ) → 1 ≤ times n numbers → times_in n ms ≡ 0
  in_none n there = omega (arith, shared.stored.held n, ap holders_of (added.fresh n there))

  apart_from : (j : ℕ) → j < length ms → (n : ℕ) → 1 ≤ times n (get_or ms j no_client).ring.events
      → times n numbers ≡ 0
  apart_from j in_j n there =
      grind (arith, there, in_none n, get_or-le-sum_by (times_of n) ms j no_client in_j)

  module _ (j : ℕ) (in_j : j < length ms) where
    abbrev m : Member
    m = get_or ms j no_client

    was : IsRing (ring_of m)
    was = member_ring shared.stored j in_j

    -- there was no cell under the new numbers, so no ring has any of them yet
    pub different_with : AreDifferent (m.ring.events ++ numbers)
    different_with n =
        grind (
          arith,
          times-append n m.ring.events numbers,
          apart_from j in_j n,
          was.different n,
          added.different n,
        )

    takes : TakesFrame holder (length frame) m
    takes = All-get_or (TakesFrame holder (length frame)) ms j no_client in_j run.all

    stays : map (cell_at store) m.ring.events ≡ map (cell_at first) m.ring.events
    stays =
        queue_stays first store m.ring.events
        (λ n there. ap held_cell (added.others n (apart_from j in_j n there)))

    queue_with : map (cell_at store) (m.ring.events ++ numbers) ≡ map (cell_at first) m.ring.events ++ cells
    queue_with = rw (map-append, stays, added.there)

    room_with : is_offered_to holder m ≡ true
        → length (client_in first m).ring.events + length frame < m.ring.places
    room_with h = omega (arith, (takes h).1, length-map m.ring.events (cell_at first))

    was_fit : AreFit (map (cell_at first) m.ring.events)
    was_fit = member_timed shared.stored j in_j

    sound_with : IsRing (ring_of (with_run holder numbers m))
    sound_with =
        cond_both (is_offered_to holder m) _ _ (λ (x : Member). IsRing (ring_of x))
        (λ h. record {
          least = was.least;
          most = was.most;
          room = omega (arith, (takes h).1, length-append m.ring.events numbers, count_is);
          different = different_with;
        })
        (λ h. was)

    cells_fit : now ≤ MOMENT_MAX → AreFit cells
    cells_fit fits = All-map (λ (cell : Cell). cell.now ≤ MOMENT_MAX) (cell_of_event now place) frame
        (λ j d in_j. fits)

    timed_with : now ≤ MOMENT_MAX → AreFit (map (cell_at store) (with_run holder numbers m).ring.events)
    timed_with fits =
        cond_both (is_offered_to holder m) _ _ (λ (x : Member). AreFit (map (cell_at store) x.ring.events))
        (λ _. rw queue_with
        (All-append (λ (cell : Cell). cell.now ≤ MOMENT_MAX) (map (cell_at first) m.ring.events) cells was_fit
        (cells_fit fits)))
        (λ _. rw stays was_fit)

    seen_with : client_in store (with_run holder numbers m)
        ≡ after_offer frame now place holder (client_in first m)
    seen_with =
        cond_both (is_offered_to holder m) _ _
        (λ (x : Member). client_in store x ≡ after_offer frame now place holder (client_in first m))
        (λ h. rw queue_with
        (sym (taken_whole frame now place holder (client_in first m) h (takes h).0 run.apart (room_with h))))
        (λ h. rw (stays, h))

  module _ {slab : Slab Member} (located : AreLocated locations slab)
      (members : clients_in locations slab ≡ map (with_run holder numbers) ms)
      (capacity : slab.capacity ≡ before.capacity) (fits : now ≤ MOMENT_MAX) where
    next_at : (j : ℕ) → j < length ms
        → get_or (map (with_run holder numbers) ms) j no_client
        ≡ with_run holder numbers (get_or ms j no_client)
    next_at j in_j = get_or-map (with_run holder numbers) ms j no_client no_client in_j

    held_with : (n : ℕ) → holders store n + 0 ≡ times_in n (map (with_run holder numbers) ms)
    held_with n =
        grind (
          arith,
          added.different n,
          added.held n,
          in_none n,
          times_one holder numbers n ms,
          times_out holder numbers n ms,
          (λ (out : times n numbers ≡ 0). ap holders_of (added.others n out)),
          shared.stored.held n,
          run.takers_are,
        )

    stored_with : AreStored store (map (with_run holder numbers) ms) (λ n. 0)
    stored_with = record {
      held = held_with;
      rings = All-map (λ (x : Member). IsRing (ring_of x)) (with_run holder numbers) ms
          (All-from_get_or (λ (x : Member). IsRing (ring_of (with_run holder numbers x))) ms
          no_client sound_with);
      timed =
          All-map (λ (x : Member). AreFit (map (cell_at store) x.ring.events)) (with_run holder numbers) ms
          (All-from_get_or (λ (x : Member).
          AreFit (map (cell_at store) (with_run holder numbers x).ring.events)) ms no_client
          (λ j in_j. timed_with j in_j fits));
      room = omega (arith, shared.stored.room, added.room, wanted_same holder numbers ms);
    }

    shared_with : AreShared locations slab store
    shared_with = record {
      located = located;
      stored = rw members stored_with;
      none_idle = λ n idle. elim (cases_lt 0 (times n numbers)) [
        | inl new ↦ omega (arith, run.some, added.held n (omega (arith, new)), idle_none store n idle)
        | inr out ↦ shared.none_idle n (rw (added.others n (omega (arith, out))) at idle)
      ];
    }

    clients_with : cells_in store (clients_in locations slab)
        ≡ map (after_offer frame now place holder) (cells_in first ms)
    clients_with =
        let seen : Member → ClientView Cell = λ m. client_in store (with_run holder numbers m) in
        rw (members, ← map_over seen (with_run holder numbers) (client_in store) ms (λ j d in_j. refl))
        (map_over seen (client_in first) (after_offer frame now place holder) ms
        (All-from_get_or (λ m. seen m ≡ after_offer frame now place holder (client_in first m)) ms
        no_client seen_with))

    seen_first : All (λ m. client_in store m ≡ client_in first m) ms
    seen_first = All-from_get_or (λ m. client_in store m ≡ client_in first m) ms no_client
        (λ j in_j. rw stays)

    fits_each : (j : ℕ) → j < length ms → FitsRun store frame holder (get_or ms j no_client)
    fits_each j in_j h = (
      (takes j in_j h).0,
      (takes j in_j h).1,
      apart_any frame (ends (map (cell_at store) (get_or ms j no_client).ring.events)) run.apart,
    )

    -- each event has the number of its cell
    pub offered_with : IsOffered f locations before slab first store
    offered_with = record {
      shared = shared_with;
      clients = clients_with;
      once =
          rw members
          (rw (map_same (client_in store) (client_in first) ms seen_first) at
          (run_stored store now place holder frame numbers ms count_is added.there added.different
          in_none fits_each));
      wanted = rw members (wanted_same holder numbers ms);
      capacity = capacity;
    }
