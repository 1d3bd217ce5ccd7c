-- What a call on one client leaves of the store and of the others.
use Rattle.std.proofs.Common.{◌≡◌, ◌≢◌, ◌≤◌, ◌<◌, ℕ, zero, suc, ◌+◌, ◌-◌, if◌then◌else◌, List, [], ◌∷◌}
use Rattle.std.proofs.Common.{length, map, get_or, set, Option, Some, None, IsSome, refl, sym, ap, ◌∙◌, inl}
use Rattle.std.proofs.Common.{inr, arith}
use Rattle.std.specs.Prelude.{sum_by, All}
use Rattle.std.specs.List.{remove, insert, AllWithin}
use Rattle.std.proofs.lemmas.Bool.{cases_lt, eq-eqb, ne_eqb}
use Rattle.std.proofs.lemmas.List.{length-set, length-map, get_or-map, get_or-set_same, get_or-set_other}
use Rattle.std.proofs.lemmas.List.{map-set}
use Rattle.std.proofs.lemmas.List.Sums.{sum_by-set, sum_by-remove, sum_by-insert, get_or-le-sum_by}
use Rattle.std.proofs.lemmas.List.Edits.{length-remove, get_or-remove_below, get_or-remove_above}
use Rattle.std.proofs.lemmas.List.Elements.{All-get_or, All-set, All-from_get_or, All-head, All-tail}
use Rattle.std.proofs.lemmas.List.Elements.{All-cons, All-nil}
use Rattle.inp_model.specs.declared.stamped.TheConstants.{MOMENT_MAX}
use Rattle.inp_ring.specs.declared.cell.Cell.{Cell}
use Rattle.inp_ring.specs.declared.cell.Held.{Held}
use Rattle.inp_ring.specs.Store.{StoreView, held_under, cell_in, holders, holders_of, cell_count, HasCell}
use Rattle.inp_ring.specs.Store.{IsIdle, IsIdleSlot}
use Rattle.inp_ring.specs.Ring.{times, cell_at, AreFit, AreHeld, IsRing, IsMoved}
use Rattle.inp_ring.proofs.Times.{at_each, times_first}
use Rattle.inp_ring.proofs.Rings.{queue_stays}
use Rattle.inp_client.specs.Client.{ClientView, new_client}
use Rattle.inp_client.specs.Clients.{has_number, map_client, without_client, with_client, client_named}
use Rattle.inp_client.specs.Member.{Member, ring_of, client_in, cells_in, times_in, wanted, numbers_in}
use Rattle.inp_client.specs.Member.{AreStored}
use Rattle.inp_client.proofs.Lists.{All-but_one, map_but_one, map_over, map_same, find_at, one_removed}
use Rattle.inp_client.proofs.Lists.{All-insert}
use Rattle.inp_client.proofs.ClientLists.{map-insert}
use Rattle.inp_client.proofs.CellCounts.{cells_few, times-numbers_in, numbers_fit, times_of, wanted_of}

-- the client that is read where there is none
abbrev pub no_client : {E : Type 0} → ClientView E
no_client = new_client 0 0

-- what holds of all holds of all but one
All-remove : {X : Type 0} (P : X → Type 0) (xs : List X) (i : ℕ) → All P xs → All P (remove xs i)
All-remove P [] zero all = all
All-remove P [] (suc i) all = all
All-remove P (x ∷ xs) zero all = All-tail P x xs all
All-remove P (x ∷ xs) (suc i) all =
    All-cons P x (remove xs i) (All-head P x xs all) (All-remove P xs i (All-tail P x xs all))

-- two elements together make no more than all
pub two_sum : {X : Type 0} (f : X → ℕ) (xs : List X) (i j : ℕ) (d : X) → i < length xs → j < length xs → j ≢ i
    → f (get_or xs i d) + f (get_or xs j d) ≤ sum_by f xs
two_sum f xs i j d in_i in_j differs =
    let rest = remove xs i in
    let shorter = length-remove xs i in_i in
    let whole = sum_by-remove f xs i d in_i in
    elim (cases_lt j i) [
      | inl below ↦ omega (
        arith,
        whole,
        get_or-le-sum_by f rest j d (omega arith),
        ap f (get_or-remove_below xs i d j below in_i),
      )
      | inr above ↦
          let k : ℕ = j - 1 in
          let at : k + 1 ≡ j = omega arith in
          omega (
            arith,
            whole,
            get_or-le-sum_by f rest k d (omega arith),
            ap f (get_or-remove_above xs i d k (omega arith) in_i),
            ap (λ (n : ℕ). f (get_or xs n d)) at,
          )
    ]

-- the queue of a client is the same where its cells are
pub client_same : (s after : StoreView) (m : Member)
    → ((n : ℕ) → 1 ≤ times n m.ring.events → cell_in after n ≡ cell_in s n)
    → client_in after m ≡ client_in s m
client_same s after m same = rw (queue_stays s after m.ring.events same)

module _ {s : StoreView} {ms : List Member} {owed : ℕ → ℕ} (st : AreStored s ms owed) where
  -- each number of a ring has a cell with a holder, where it is owed none
  pub member_held : (i : ℕ) → i < length ms
      → ((n : ℕ) → 1 ≤ times n (get_or ms i no_client).ring.events → owed n ≡ 0)
      → AreHeld s (get_or ms i no_client).ring.events
  member_held i in_i none n =
      grind (arith, none n, st.held n, get_or-le-sum_by (times_of n) ms i no_client in_i)

  -- each ring is sound, so the one at the index is
  pub member_ring : (i : ℕ) → i < length ms → IsRing (ring_of (get_or ms i no_client))
  member_ring i in_i = All-get_or (λ m. IsRing (ring_of m)) ms i no_client in_i st.rings

  -- each queue has fit moments, so the one at the index has
  pub member_timed : (i : ℕ) → i < length ms → AreFit (map (cell_at s) (get_or ms i no_client).ring.events)
  member_timed i in_i = All-get_or (λ m. AreFit (map (cell_at s) m.ring.events)) ms i no_client in_i st.timed

  -- a cell that is not idle is in some ring
  pub held_known : (n : ℕ) → HasCell s n → (IsIdle s n → ⊥) → 1 ≤ times_in n ms
  held_known n there busy = elim (cases_lt 0 (holders s n)) [
    | inl some ↦ omega (arith, some, st.held n)
    | inr nobody ↦ absurd (busy (idle (held_under s n) there (omega (arith, nobody))))
  ]
    where
      idle : (o : Option Held) → IsSome o → holders_of o ≡ 0 → IsIdleSlot o
      idle None there e = cc
      idle (Some h) there e = e

  -- There is room for one cell more, where there is a client and at most one cell that no ring has.
  pub spare_some : (x : ℕ) → 0 < length ms → ((n : ℕ) → HasCell s n → n ≢ x → 1 ≤ times_in n ms) → 0 < s.spare
  spare_some x some known =
      omega (
        arith,
        st.room,
        numbers_fit ms st.rings,
        cells_few s (x ∷ numbers_in ms)
            (at_each _ x (λ there. times_first x (numbers_in ms))
            (λ n differs there. omega (arith, known n there differs, times-numbers_in n ms))),
      )

  -- A call on the client at i: its numbers become others, of which some are owed holders still.
  module _ (i : ℕ) (in_i : i < length ms) {after : StoreView} {before : List ℕ}
      (moved : IsMoved s after (get_or ms i no_client).ring.events before) (owed_stay : (n : ℕ) → 1 ≤ owed n
      → cell_in after n ≡ cell_in s n) where
    -- the cells of the others stay
    pub others_see : (j : ℕ) → j < length ms → j ≢ i → (n : ℕ)
        → 1 ≤ times n (get_or ms j no_client).ring.events → cell_in after n ≡ cell_in s n
    others_see j in_j differs n there = elim (cases_lt 0 (owed n)) [
      | inl some ↦ owed_stay n some
      | inr none ↦ moved.kept n
          (omega (arith, none, there, st.held n, two_sum (times_of n) ms i j no_client in_i in_j differs))
    ]

    -- each cell of another client has that one's ring as a holder, so it stays
    pub others_stay : (j : ℕ) → j < length ms → j ≢ i
        → client_in after (get_or ms j no_client) ≡ client_in s (get_or ms j no_client)
    others_stay j in_j differs = client_same s after (get_or ms j no_client) (others_see j in_j differs)

    stays_fit : (j : ℕ) → j < length ms → j ≢ i
        → AreFit (map (cell_at after) (get_or ms j no_client).ring.events)
    stays_fit j in_j differs =
        rw (queue_stays s after (get_or ms j no_client).ring.events (others_see j in_j differs))
        (member_timed j in_j)

    -- the same where it is taken out, and leaves no number
    pub stored_after_removal : ((n : ℕ) → times n before ≡ 0) → AreStored after (remove ms i) owed
    stored_after_removal none = record {
      held =
          λ n. omega (arith, none n, moved.held n, st.held n, sum_by-remove (times_of n) ms i no_client in_i);
      rings = All-remove (λ m. IsRing (ring_of m)) ms i st.rings;
      timed = All-but_one (λ m. AreFit (map (cell_at after) m.ring.events)) ms i no_client in_i stays_fit;
      room = omega (arith, st.room, moved.room, sum_by-remove wanted_of ms i no_client in_i);
    }

    -- the new numbers of the ring have their holders or are owed them, and the other cells stay
    pub stored_after_write : (new : Member) (more : ℕ → ℕ)
        → ((n : ℕ) → times n new.ring.events ≡ times n before + more n)
        → new.ring.places ≡ (get_or ms i no_client).ring.places → IsRing (ring_of new)
        → AreFit (map (cell_at after) new.ring.events)
        → AreStored after (set ms i new) (λ n. owed n + more n)
    stored_after_write new more became places sound timed = record {
      held =
          λ n. omega (
            arith,
            became n,
            moved.held n,
            st.held n,
            sum_by-set (times_of n) ms i new no_client in_i,
          );
      rings = All-set (λ m. IsRing (ring_of m)) ms i new sound st.rings;
      timed =
          All-from_get_or (λ m. AreFit (map (cell_at after) m.ring.events)) (set ms i new) no_client
          (λ j in_j. fit j (omega (arith, in_j, length-set ms i new)));
      room = omega (arith, st.room, moved.room, places, sum_by-set wanted_of ms i new no_client in_i);
    }
      where
        fit : (j : ℕ) → j < length ms
            → AreFit (map (cell_at after) (get_or (set ms i new) j no_client).ring.events)
        fit =
            at_each _ i (λ in_j. rw (get_or-set_same ms i new no_client in_i) timed)
            (λ j differs in_j. rw (get_or-set_other ms i j new no_client differs)
            (stays_fit j in_j differs))

abbrev changed_one : ℕ → (ClientView Cell → ClientView Cell) → ClientView Cell → ClientView Cell
changed_one number change c = if has_number number c then change c else c

-- The client at an index has a number that no other has.
module _ (s : StoreView) (ms : List Member) (i : ℕ) (in_i : i < length ms) (apart : (j : ℕ) → j < length ms
    → j ≢ i → (get_or ms j no_client).number ≢ (get_or ms i no_client).number) where
  abbrev member : ℕ → Member
  member j = get_or ms j no_client

  -- it is the client that its number names
  pub client_named-cells_in : client_named (member i).number (cells_in s ms) ≡ Some (client_in s (member i))
  client_named-cells_in =
      let reads : (j : ℕ) → j < length ms → get_or (cells_in s ms) j no_client ≡ client_in s (member j) =
      λ j in_j. get_or-map (client_in s) ms j no_client no_client in_j in
      find_at (has_number (member i).number) (cells_in s ms) i no_client
      (omega (arith, length-map ms (client_in s)))
      (eq-eqb _ _ (rw reads))
      (λ j below.
      ne_eqb _ _ (λ same. apart j (omega arith) (λ e. omega (arith, e)) (rw (reads j (omega arith)) at same)))
      ∙ ap Some (reads i in_i)

  -- The others stay.
  module _ (after : StoreView) (others : (j : ℕ) → j < length ms → j ≢ i
      → client_in after (member j) ≡ client_in s (member j)) where
    -- the clients after it was changed
    pub cells_after_write : (new : Member) (change : ClientView Cell → ClientView Cell)
        → new.number ≡ (member i).number → client_in after new ≡ change (client_in s (member i))
        → cells_in after (set ms i new) ≡ map_client (member i).number change (cells_in s ms)
    cells_after_write new change numbered changed =
        let number : ℕ = (member i).number in
        let F : Member → ClientView Cell = λ m. changed_one number change (client_in s m) in
        map-set (client_in after) ms i new
        ∙ ap (set (cells_in after ms) i) (changed ∙ sym (rw eq-eqb))
        ∙ sym (map_but_one (client_in after) F ms i no_client in_i
        (λ j in_j differs. rw (ne_eqb _ _ (apart j in_j differs)) (sym (others j in_j differs)))).0
        ∙ map_over F (client_in s) (changed_one number change) ms (λ j d in_j. refl)

    -- the clients after it was taken out
    pub cells_after_removal : cells_in after (remove ms i) ≡ without_client (member i).number (cells_in s ms)
    cells_after_removal =
        one_removed (has_number (member i).number) (client_in s) (client_in after) ms i no_client in_i
        (eq-eqb _ _ refl)
        (λ j in_j differs. (ne_eqb _ _ (apart j in_j differs), others j in_j differs))

-- An empty ring comes in, and the store has room for it.
pub stored_after_insert : {s after : StoreView} {ms : List Member} (st : AreStored s ms (λ n. 0)) (i : ℕ)
    (new : Member) → i ≤ length ms → new.ring.events ≡ [] → IsRing (ring_of new) → after.slots ≡ s.slots
    → wanted ms + (new.ring.places + 1) ≤ cell_count after + after.spare
    → AreStored after (insert ms i new) (λ n. 0)
stored_after_insert {s} {after} {ms} st i new within none sound same room = record {
  held = λ n. omega (
    arith,
    ap (λ sl. holders (record { slots = sl; spare = 0 }) n) same,
    st.held n,
    sum_by-insert (times_of n) ms i new,
    ap (times n) none,
  );
  rings = All-insert (λ m. IsRing (ring_of m)) ms i new within st.rings sound;
  timed = All-insert (λ m. AreFit (map (cell_at after) m.ring.events)) ms i new within stays empty;
  room = omega (arith, room, sum_by-insert wanted_of ms i new);
}
  where
    cells : (q : List ℕ) → map (cell_at after) q ≡ map (cell_at s) q
    cells q = queue_stays s after q (λ n t. rw same)

    stays : All (λ m. AreFit (map (cell_at after) m.ring.events)) ms
    stays =
        λ j d in_j. rw cells (All-get_or (λ m. AreFit (map (cell_at s) m.ring.events)) ms j d in_j st.timed)

    empty : AreFit (map (cell_at after) new.ring.events)
    empty = rw none (All-nil (λ (cell : Cell). cell.now ≤ MOMENT_MAX))

-- The clients with the one that came in.
pub cells_after_insert : (s : StoreView) (ms : List Member) (i : ℕ) (new : Member) → i ≤ length ms
    → AllWithin (λ m. m.number < new.number) ms 0 i → AllWithin (λ m. new.number ≤ m.number) ms i (length ms)
    → cells_in s (insert ms i new) ≡ with_client (client_in s new) (cells_in s ms)
cells_after_insert s ms i new within lower others = map-insert (client_in s) ms i new within lower others

-- the clients of a store with the same cells
pub cells_same : (s after : StoreView) (ms : List Member) → after.slots ≡ s.slots
    → cells_in after ms ≡ cells_in s ms
cells_same s after ms same =
    map_same (client_in after) (client_in s) ms
    (λ j d in_j. client_same s after (get_or ms j d) (λ n t. rw same))

-- A store whose cells that rings have stay is one for the same clients, where it has their holders.
in_all : (ms : List Member) (j : ℕ) (d : Member) (n : ℕ) → j < length ms
    → 1 ≤ times n (get_or ms j d).ring.events → 1 ≤ times_in n ms
in_all ms j d n in_j there = omega (arith, there, get_or-le-sum_by (times_of n) ms j d in_j)

module _ {s : StoreView} {ms : List Member} {f : ℕ → ℕ} (st : AreStored s ms f) (after : StoreView)
    (stay : (n : ℕ) → 1 ≤ times_in n ms → cell_in after n ≡ cell_in s n) where
  -- the cells that rings have stay, and the store has room for as many as before
  pub stored_stays : (g : ℕ → ℕ) → ((n : ℕ) → holders after n + g n ≡ times_in n ms)
      → cell_count s + s.spare ≤ cell_count after + after.spare → AreStored after ms g
  stored_stays g held room = record {
    held = held;
    rings = st.rings;
    timed = λ j d in_j.
        rw (queue_stays s after (get_or ms j d).ring.events (λ n there. stay n (in_all ms j d n in_j there)))
        (All-get_or (λ m. AreFit (map (cell_at s) m.ring.events)) ms j d in_j st.timed);
    room = omega (arith, st.room, room);
  }

  -- each number that a ring has stands for the same cell
  pub cells_stay : cells_in after ms ≡ cells_in s ms
  cells_stay =
      map_same (client_in after) (client_in s) ms
      (λ j d in_j. client_same s after (get_or ms j d) (λ n there. stay n (in_all ms j d n in_j there)))
