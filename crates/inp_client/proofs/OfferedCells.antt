-- The number of a cell comes into one ring after the other.
use Rattle.std.proofs.Common.{◌≡◌, ◌≢◌, ◌≤◌, ◌<◌, ℕ, ◌+◌, Bool, true, false, if◌then◌else◌, nat_eq, nat_lt}
use Rattle.std.proofs.Common.{List, [], ◌∷◌, ◌++◌, length, map, set, Option, refl, sym, ap, ◌∙◌, arith}
use mir.Val.{bool_byte}
use Rattle.std.proofs.lemmas.Bool.{cond_both, eq-eqb, ne_eqb, lt-ltb, le-ltb}
use Rattle.std.proofs.lemmas.List.{length-map, get_or-map}
use Rattle.std.proofs.lemmas.List.Sums.{sum_by-set, get_or-le-sum_by}
use Rattle.std.proofs.lemmas.List.Elements.{All-push, All-cons, All-nil}
use Rattle.slab.specs.Slab.{Slab, with_value}
use Rattle.inp_model.specs.declared.stamped.TheConstants.{MOMENT_MAX}
use Rattle.inp_ring.specs.declared.cell.Cell.{Cell}
use Rattle.inp_ring.specs.Store.{StoreView, held_under, cell_in, held_cell, holders, holders_of, held_by}
use Rattle.inp_ring.specs.Store.{event_of_cell, dropped_cell, HasCell, IsIdle}
use Rattle.inp_ring.specs.Ring.{times, cell_at, AreFit, AreHeld, IsRing, IsMoved, IsPutAtEnd}
use Rattle.inp_ring.proofs.Times.{at_each, once, times_push, once_same, once_other}
use Rattle.std.proofs.lemmas.Bool.Decides.{nat_tests}
use Rattle.inp_client.proofs.RingsLeft.{rings_in, ring_at_index, client_at_index}
use Rattle.inp_client.specs.declared.location.Location.{Location}
use Rattle.inp_client.specs.Client.{ClientView}
use Rattle.inp_client.specs.Member.{Member, ring_of, client_in, cells_in, times_in, after_event}
use Rattle.inp_client.specs.Member.{AreStored}
use Rattle.inp_client.specs.Locations.{client_at, clients_in, AreLocated}
use Rattle.inp_client.specs.Numbers.{loses_event, ring_after, event_under, client_of_index, ring_of_index}
use Rattle.inp_client.specs.Numbers.{IsRingStored}
use Rattle.inp_client.specs.Offered.{AreShared, IsEnteredTo, IsEventOffered, owing, member_at, seen_at}
use Rattle.inp_client.specs.Offered.{ring_at, clients_view_of}
use Rattle.inp_client.proofs.Lists.{flag_other, map_over}
use Rattle.inp_client.proofs.Locations.{located_after_write, members_after_write, member_written, member_kept}
use Rattle.inp_client.proofs.Locations.{members_long, member_in_location, member_found, IsAt}
use Rattle.inp_client.proofs.CellCounts.{times-clients_view_in, times_of, wanted_of}
use Rattle.inp_client.proofs.Numbers.{after_event-cases, put_cases, lost_ring, ring_after-same, told_in}
use Rattle.inp_client.proofs.OtherClients.{two_sum, held_known, member_held, member_timed, member_ring}
use Rattle.inp_client.proofs.OtherClients.{spare_some, others_stay, stored_after_write, no_client}

-- what is owed, said in another way
pub stored_owed : {s : StoreView} {ms : List Member} {f : ℕ → ℕ} (g : ℕ → ℕ) → AreStored s ms f
    → ((n : ℕ) → f n ≡ g n) → AreStored s ms g
stored_owed g st same =
    record {
      held = λ n. omega (arith, st.held n, same n);
      rings = st.rings;
      timed = st.timed;
      room = st.room;
    }

-- the number itself is owed them all
pub owing_same : (number count : ℕ) → owing number count number ≡ count
owing_same number count = rw eq-eqb

-- any other number is owed none
pub owing_other : (number count n : ℕ) → n ≢ number → owing number count n ≡ 0
owing_other number count n d = rw ne_eqb

owing_none : (number n : ℕ) → owing number 0 n ≡ 0
owing_none number n = grind (arith, nat_tests)

once_owing : (number : ℕ) → (n : ℕ) → once n number ≡ owing number 1 n
once_owing number n = grind (arith, nat_tests)

owing_more : (number a b : ℕ) → (n : ℕ) → owing number a n + owing number b n ≡ owing number (a + b) n
owing_more number a b n = grind (arith, nat_tests)

-- an event that is offered keeps a queue fit
pub timed_after_event : (cell : Cell) (holder : Option ℕ) (c : ClientView Cell) → cell.now ≤ MOMENT_MAX
    → AreFit c.ring.events → AreFit (after_event cell holder c).ring.events
timed_after_event cell holder c now fit =
    let Fits : Cell → Type 0 = λ x. x.now ≤ MOMENT_MAX in
    after_event-cases (λ x b. AreFit x.ring.events) cell holder c fit
    (All-push Fits c.ring.events cell fit now)
    (λ _. All-cons Fits (dropped_cell cell) (cell ∷ []) now (All-cons Fits cell [] now (All-nil Fits)))

module _ {cell : Cell} {holder : Option ℕ} {number : ℕ} {locations : List Location}
    {before slab : Slab Member} {first store : StoreView} {i taken : ℕ}
    (to : IsEnteredTo i cell holder number locations before slab first store taken) where
  abbrev clients : List Member
  clients = clients_in locations slab

  -- the clients as they were first, and the numbers of their rings
  abbrev seen : ℕ → ClientView Cell
  seen j = seen_at first locations before j

  abbrev ring : ℕ → List ℕ
  ring j = ring_at locations before j

  -- each cell but the one that is offered is in some ring
  known : (n : ℕ) → HasCell store n → n ≢ number → 1 ≤ times_in n clients
  known n there differs = held_known to.stored n there (λ h. differs (to.idle n h))

  -- each cell but the offered one is in some ring, so there is one to spare
  pub enter_spare : i < length locations → 0 < store.spare
  enter_spare in_i = spare_some to.stored number (omega (arith, in_i, members_long to.located)) known

  -- the client that comes next
  module _ {key : ℕ} {old : Member} (at : IsAt locations slab i key old) where
    in_i : i < length locations
    in_i = at.within

    long_i : i < length clients
    long_i = omega (arith, in_i, members_long to.located)

    -- the client under the key is the one in the next location
    pub old_is : member_at locations slab i ≡ old
    old_is = member_found to.located at no_client

    -- the number came into the rings of clients before the next one alone
    pub enter_absent : times number old.ring.events ≡ 0
    enter_absent = rw (← old_is) (to.absent i (omega arith) in_i)

    not_owed : (n : ℕ) → 1 ≤ times n (member_at locations slab i).ring.events → owing number taken n ≡ 0
    not_owed = at_each _ number (λ there. absurd (omega (arith, there, to.absent i (omega arith) in_i)))
        (λ n d there. owing_other number taken n d)

    -- the only number that is owed holders is not in the ring
    pub enter_held : AreHeld store old.ring.events
    enter_held = rw old_is at (member_held to.stored i long_i not_owed)

    -- it was put into its ring, or not
    module _ {new : Member} {after : StoreView} {is_in : Bool}
        (entered : IsPutAtEnd store after old.ring.events new.ring.events number is_in)
        (numbered : new.number ≡ old.number) (places : new.ring.places ≡ old.ring.places)
        (sound : IsRing (ring_of old) → IsRing (ring_of new))
        (stored : IsRingStored number holder store after old new)
        (offered : client_in after new ≡ after_event (cell_at store number) holder (client_in store old))
        (now : cell.now ≤ MOMENT_MAX) where
      abbrev gained : ℕ
      gained = if is_in then 1 else 0

      moved : IsMoved store after (member_at locations slab i).ring.events entered.before
      moved = rw old_is entered.moved

      same_cell : cell_at store number ≡ cell
      same_cell = rw to.same

      became : (n : ℕ) → times n new.ring.events ≡ times n entered.before + owing number gained n
      became n = by_case is_in entered.entered
        where
          by_case : (b : Bool)
              → new.ring.events ≡ (if b then entered.before ++ number ∷ [] else entered.before)
              → times n new.ring.events ≡ times n entered.before + owing number (if b then 1 else 0) n
          by_case true e =
              omega (arith, ap (times n) e, times_push n number entered.before, once_owing number n)
          by_case false e = omega (arith, ap (times n) e, owing_none number n)

      owed_stay : (n : ℕ) → 1 ≤ owing number taken n → cell_in after n ≡ cell_in store n
      owed_stay = at_each _ number (λ some. ap held_cell entered.same)
          (λ n d some. absurd (omega (arith, some, owing_other number taken n d)))

      places_kept : new.ring.places ≡ (member_at locations slab i).ring.places
      places_kept = rw (places, ← old_is)

      ring_sound : IsRing (ring_of new)
      ring_sound = sound (rw old_is at (member_ring to.stored i long_i))

      was_timed : AreFit (client_in store old).ring.events
      was_timed = rw old_is at (member_timed to.stored i long_i)

      new_timed : AreFit (client_in after new).ring.events
      new_timed =
          let fits : (cell_at store number).now ≤ MOMENT_MAX = rw same_cell now in
          rw (ap (λ (c : ClientView Cell). c.ring.events) offered)
          (timed_after_event (cell_at store number) holder (client_in store old) fits was_timed)

      abbrev next_slab : Slab Member
      next_slab = with_value slab key new

      members_next : clients_in locations next_slab ≡ set clients i new
      members_next = members_after_write to.located at new

      stored_next : AreStored after (clients_in locations next_slab) (owing number (taken + gained))
      stored_next =
          rw members_next
          (stored_owed (owing number (taken + gained))
          (stored_after_write to.stored i long_i moved owed_stay new
          (owing number gained) became places_kept ring_sound new_timed)
          (λ n. owing_more number taken gained n))

      -- what each client is then
      member_here : member_at locations next_slab i ≡ new
      member_here = member_written to.located at new no_client

      member_other : (j : ℕ) → j ≢ i → member_at locations next_slab j ≡ member_at locations slab j
      member_other j d = member_kept to.located at new j no_client d

      was_seen : client_in store old ≡ seen i
      was_seen = rw (← old_is, to.changed i in_i, le-ltb i i (omega arith))

      next_changed : (j : ℕ) → j < length locations
          → client_in after (member_at locations next_slab j)
          ≡ (if nat_lt j (i + 1) then after_event cell holder (seen j) else seen j)
      next_changed =
          at_each _ i
          (λ in_j. rw (member_here, lt-ltb i (i + 1) (omega arith)) (offered ∙ cc (same_cell, was_seen)))
          (λ j d in_j. rw (member_other j d, ← flag_other j i d)
          (others_stay to.stored i long_i moved owed_stay j (omega (arith, in_j, members_long to.located)) d
          ∙ to.changed j in_j))

      was_ring : ring i ≡ old.ring.events
      was_ring = rw (← old_is, to.rest i (omega arith) in_i)

      -- the rings that the first clients have
      told : (j : ℕ) → map (event_under first) (ring j) ≡ map event_of_cell (seen j).ring.events
      told j = told_in first (ring j)

      same_first : event_under first number ≡ cell.event
      same_first = rw to.begun

      abbrev losses_next : ℕ → ℕ
      losses_next j = if nat_eq j i then stored.loss else to.losses j

      loss_here : losses_next i ≡ stored.loss
      loss_here = rw eq-eqb

      loss_other : (j : ℕ) → j ≢ i → losses_next j ≡ to.losses j
      loss_other j d = rw ne_eqb

      -- what was offered to this one, as it was first
      told_here : map (event_under store) (ring i) ≡ map (event_under first) (ring i)
      told_here = cc (told_in store (ring i), was_ring, was_seen, sym (told i))

      put_here : new.ring.events ≡ ring_after (event_under first) cell holder number stored.loss
          (seen i) (ring i)
      put_here =
          cc (
            stored.ring,
            same_cell,
            was_seen,
            was_ring,
            ring_after-same (event_under store) (event_under first) cell holder number stored.loss (seen i)
                (ring i) told_here (rw same_cell (sym same_first)),
          )

      next_numbered : (j : ℕ) → j < i + 1 → j < length locations
          → ring_at locations next_slab j ≡ ring_after (event_under first) cell holder number (losses_next j)
          (seen j) (ring j)
      next_numbered =
          at_each _ i
          (λ below in_j. rw loss_here (ap (λ (m : Member). m.ring.events) member_here ∙ put_here))
          (λ j d below in_j. rw (loss_other j d) (ap (λ (m : Member). m.ring.events) (member_other j d)
          ∙ to.numbered j (omega (arith, d)) in_j))

      -- The number of a loss stands in the one ring.

      abbrev is_lost : ℕ → Type 0
      is_lost j = loses_event cell holder (seen j) ≡ true

      lost_here : is_lost i → (new.ring.events ≡ stored.loss ∷ number ∷ []) × (holders after stored.loss ≡ 1)
      lost_here h = (
        put_here ∙ lost_ring (event_under first) cell holder number stored.loss (seen i) (ring i)
            (told i) same_first h,
        stored.alone (cc (same_cell, was_seen, h)),
      )

      alone_here : is_lost i → times_in stored.loss (clients_in locations next_slab) ≡ 1
      alone_here h =
          let left = (lost_here h).0 in
          let apart : stored.loss ≢ number =
          λ e. grind (
            arith,
            ring_sound.different stored.loss,
            ap (times stored.loss) left,
            once_same stored.loss,
          ) in
          omega (
            arith,
            stored_next.held stored.loss,
            (lost_here h).1,
            owing_other number (taken + gained) stored.loss apart,
          )

      lost_before : (j : ℕ) → j < i → is_lost j → ring_at locations slab j ≡ to.losses j ∷ number ∷ []
      lost_before j below h =
          to.numbered j below (omega (arith, below))
          ∙ lost_ring (event_under first) cell holder number (to.losses j) (seen j) (ring j)
          (told j) same_first h

      sums : (n : ℕ) → times_in n (clients_in locations next_slab) + times n old.ring.events
          ≡ times_in n clients + times n new.ring.events
      sums n =
          omega (
            arith,
            ap (times_in n) members_next,
            sum_by-set (times_of n) clients i new no_client long_i,
            ap (times_of n) old_is,
          )

      module _ (j : ℕ) (below : j < i) (h : is_lost j) where
        abbrev loss : ℕ
        loss = to.losses j

        in_j : j < length clients
        in_j = omega (arith, below, long_i)

        total : times_in loss clients ≡ 1
        total = to.alone j below (omega (arith, below)) h

        has_it : times loss (ring_at locations slab j) ≡ 1 + once loss number
        has_it = omega (arith, ap (times loss) (lost_before j below h), once_same loss)

        not_number : once loss number ≡ 0
        not_number = omega (arith, has_it, total, get_or-le-sum_by (times_of loss) clients j no_client in_j)

        not_old : times loss old.ring.events ≡ 0
        not_old =
            omega (
              arith,
              has_it,
              total,
              two_sum (times_of loss) clients i j no_client long_i in_j (λ e. omega (arith, below, e)),
              ap (times_of loss) old_is,
            )

        not_loss : is_lost i → once loss stored.loss ≡ 0
        not_loss lost = once_other loss stored.loss (λ e.
            omega (
              arith,
              ap (λ (n : ℕ). times_in n (clients_in locations next_slab)) e,
              alone_here lost,
              sums loss,
              total,
              not_old,
              ap (times loss) (lost_here lost).0,
              ap (λ (n : ℕ). once loss n) e,
              once_same loss,
            ))

        not_new : times loss new.ring.events ≡ 0
        not_new =
            let P : ClientView Cell → Bool → List ℕ → Type 0 = λ x b q. (b ≡ true → once loss stored.loss ≡ 0)
            → times loss q ≡ 0 in
            let was : times loss (ring i) ≡ 0 = ap (times loss) was_ring ∙ not_old in
            ap (times loss) put_here
            ∙ put_cases (event_under first) cell holder number stored.loss (seen i) (ring i)
            (told i) same_first P
            (λ g. was)
            (λ g. omega (arith, was, times_push loss number (ring i), not_number))
            (λ _ g. omega (arith, g refl, not_number))
            not_loss

        alone_still : times_in loss (clients_in locations next_slab) ≡ 1
        alone_still = omega (arith, sums loss, total, not_old, not_new)

      next_alone : (j : ℕ) → j < i + 1 → j < length locations → loses_event cell holder (seen j) ≡ true
          → times_in (losses_next j) (clients_in locations next_slab) ≡ 1
      next_alone =
          at_each _ i
          (λ below in_j h. rw loss_here (alone_here h))
          (λ j d below in_j h. rw (loss_other j d) (alone_still j (omega (arith, d, below)) h))

      next_few : taken + gained ≤ i + 1
      next_few = omega (arith, to.few, cond_both is_in 1 0 (λ n. n ≤ 1) (λ _. omega arith) (λ _. omega arith))

      -- the next client was offered the event, and the cells of the others stay
      pub entered_more : IsEnteredTo (i + 1) cell holder number locations before next_slab first after
          (taken + gained)
      entered_more = record {
        located = located_after_write to.located at new numbered;
        stored = stored_next;
        idle = λ n h. to.idle n (entered.moved.idle n h);
        begun = to.begun;
        same = entered.same ∙ to.same;
        changed = next_changed;
        absent = λ j le in_j. rw (member_other j (λ e. omega (arith, e))) (to.absent j (omega arith) in_j);
        few = next_few;
        losses = losses_next;
        numbered = next_numbered;
        alone = next_alone;
        rest = λ j le in_j. cc (member_other j (λ e. omega (arith, e)), to.rest j (omega arith) in_j);
        wanted =
            rw (members_next, ← to.wanted)
            (omega (arith, places_kept, sum_by-set wanted_of clients i new no_client long_i));
        capacity = to.capacity;
      }

-- Nothing was put yet.
pub entered_none : (cell : Cell) (holder : Option ℕ) (number : ℕ) (locations : List Location)
    (slab : Slab Member) (store : StoreView) → AreLocated locations slab
    → AreStored store (clients_in locations slab) (λ n. 0)
    → ((n : ℕ) → IsIdle store n → n ≡ number) → held_under store number ≡ held_by 0 cell
    → IsEnteredTo 0 cell holder number locations slab slab store store 0
entered_none cell holder number locations slab store located stored idle same = record {
  located = located;
  stored = stored_owed (owing number 0) stored (λ n. sym (owing_none number n));
  idle = idle;
  begun = rw same;
  same = same;
  changed = λ j in_j. sym (rw (le-ltb j 0 (omega arith)));
  absent =
      λ j le in_j. omega (
        arith,
        stored.held number,
        ap holders_of same,
        get_or-le-sum_by (times_of number) (clients_in locations slab) j no_client
            (omega (arith, in_j, members_long located)),
      );
  few = omega arith;
  losses = λ j. 0;
  numbered = λ j below in_j. absurd (omega arith);
  alone = λ j below in_j h. absurd (omega arith);
  rest = λ j le in_j. refl;
  wanted = refl;
  capacity = refl;
}

-- the ring of a client among those
pub ring_is : (s : StoreView) (locations : List Location) (slab : Slab Member) (j : ℕ) → j < length locations
    → ring_of_index (clients_view_of s locations slab) j ≡ ring_at locations slab j
ring_is s locations slab j in_j =
    ring_at_index s (clients_in locations slab) j
    (omega (arith, in_j, length-map locations (λ at. client_at slab at.key)))

-- each location has its client in the view
pub long_list : (s : StoreView) (locations : List Location) (slab : Slab Member)
    → length (clients_view_of s locations slab).list ≡ length locations
long_list s locations slab =
    length-map (clients_in locations slab) (client_in s) ∙ length-map locations (λ at. client_at slab at.key)

-- each location has its ring in the view
pub long_rings : (s : StoreView) (locations : List Location) (slab : Slab Member)
    → length (clients_view_of s locations slab).rings ≡ length locations
long_rings s locations slab =
    length-map (clients_in locations slab) (λ (m : Member). m.ring.events)
    ∙ length-map locations (λ at. client_at slab at.key)

module _ {cell : Cell} {holder : Option ℕ} {number : ℕ} {locations : List Location}
    {before slab : Slab Member} {first store : StoreView} {count taken : ℕ}
    (to : IsEnteredTo count cell holder number locations before slab first store taken)
    (past : length locations ≤ count) where
  -- All took it that do.
  pub entered_all : cells_in store (clients_in locations slab)
      ≡ map (after_event cell holder) (cells_in first (clients_in locations before))
  entered_all =
      let now : Location → Member = λ at. client_at slab at.key in
      let was : Location → Member = λ at. client_at before at.key in
      let offer : Member → ClientView Cell = λ m. after_event cell holder (client_in first m) in
      sym (map_over (λ at. client_in store (now at)) now (client_in store) locations (λ j d in_j. refl))
      ∙ map_over (λ at. client_in store (now at)) was offer locations (λ j d in_j.
      rw (
        ← member_in_location to.located j d no_client in_j,
        to.changed j in_j,
        lt-ltb j count (omega arith),
        get_or-map was locations j d no_client in_j,
      ))
      ∙ map_over offer (client_in first) (after_event cell holder) (clients_in locations before)
      (λ j d in_j. refl)

  -- The event was offered, also as seen from a store that had no cell of it yet.
  pub event_offered : (s after : StoreView)
      → cells_in first (clients_in locations before) ≡ cells_in s (clients_in locations before)
      → cells_in after (clients_in locations slab) ≡ cells_in store (clients_in locations slab)
      → times_in number (clients_in locations before) ≡ 0 → AreShared locations slab after
      → IsEventOffered cell holder locations before slab s after
  event_offered s after same stay absent shared = record {
    shared = shared;
    clients = clients_are;
    once = record {
      clients = clients_are;
      rings = (rings_in s (clients_in locations before), rings_in after (clients_in locations slab));
      event = event_under first;
      told = λ j in_j.
          let within : j < length locations = omega (arith, in_j, long_list s locations before) in
          rw (← seen_same, ← told_in, ← ring_is s locations before j within);
      number = number;
      same = rw to.begun;
      fresh = times-clients_view_in number s (clients_in locations before) ∙ absent;
      losses = to.losses;
      alone = λ j in_j h.
          let within : j < length locations = omega (arith, in_j, long_list s locations before) in
          times-clients_view_in (to.losses j) after (clients_in locations slab)
          ∙ to.alone j (omega (arith, within)) within (ap (loses_event cell holder) (seen_same j within) ∙ h);
      each = λ j in_j.
          let within : j < length locations = omega (arith, in_j, long_list s locations before) in
          rw (
            ring_is s locations before j within,
            ← seen_same j within,
            ← to.numbered j (omega (arith, within)) within,
            ← ring_is after locations slab j within,
          );
    };
    wanted = to.wanted;
    capacity = to.capacity;
  }
    where
      clients_are : cells_in after (clients_in locations slab)
          ≡ map (after_event cell holder) (cells_in s (clients_in locations before))
      clients_are = stay ∙ entered_all ∙ ap (map (after_event cell holder)) same

      seen_same : (j : ℕ) → j < length locations
          → seen_at first locations before j ≡ client_of_index (clients_view_of s locations before) j
      seen_same j in_j =
          rw (
            ← client_at_index first (clients_in locations before) j
                (omega (arith, in_j, length-map locations (λ at. client_at before at.key))),
            same,
          )

-- a flag counts one where it is set
pub flag_counts : (b : Bool) → bool_byte b ≡ (if b then 1 else 0)
flag_counts true = refl
flag_counts false = refl
