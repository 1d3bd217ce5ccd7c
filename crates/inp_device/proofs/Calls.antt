-- The clients after each kind of step.
use Rattle.std.proofs.Common.{◌≡◌, ℕ, ◌/◌, ◌%◌, ◌<◌, min, Bool, true, false, ◌&&◌, not, if◌then◌else◌, nat_eq}
use Rattle.std.proofs.Common.{nat_lt, List, [], ◌∷◌, ◌++◌, length, map, drop, get_or, refl, sym, ap, ◌∙◌}
use Rattle.std.proofs.Common.{arith, Some, None, inl, inr, ◌+◌}
use Rattle.std.specs.Prelude.{filter, unwrap_or, ◌==◌}
use Rattle.std.specs.Int.{bit_at}
use Rattle.std.specs.List.{list_any, range_with_len}
use Rattle.std.proofs.lemmas.Bool.{and_right, eq-eqb, ne_eqb, lt-ltb, cases_eq}
use Rattle.std.proofs.lemmas.List.{map-append, drop-map}
use Rattle.inp_model.specs.declared.taken.Taken.{Taken}
use Rattle.inp_model.specs.declared.clock.Clock.{Clock}
use Rattle.inp_model.specs.declared.step.Step.{Step}
use Rattle.inp_model.specs.declared.step.Step.TheVariants.{Inject, Tick, Open, Close, Read, Discard, GetKeys}
use Rattle.inp_model.specs.declared.step.Step.TheVariants.{GetSwitches, GetLeds, GetSounds, GetAxis, SetAxis}
use Rattle.inp_model.specs.declared.step.Step.TheVariants.{GetSlots, SyncSlots, Write, Grab, Ungrab, Mask}
use Rattle.inp_model.specs.declared.step.Step.TheVariants.{Clock as ToClock, Revoke, Inhibit, Uninhibit, End}
use Rattle.inp_model.specs.Description.{Description, ring}
use Rattle.inp_model.specs.Step.{Query, Codes, Slots, client_of, query_of, is_part_of}
use Rattle.inp_model.specs.Past.{opens, is_open, open_clients, is_revoked, clock_of, mask_bit, mask_words}
use Rattle.inp_model.specs.Cut.{cuts}
use Rattle.inp_model.specs.Raw.{raw_of_step}
use Rattle.inp_model.specs.Frame.{cuts_of_step, frames_of_step}
use Rattle.inp_model.specs.Queue as model
use Rattle.inp_model.specs.Queue.{Entry, entry_dropped_at, put_all, visible, flush, is_same_clock}
use Rattle.inp_model.specs.Queue.{clock_changed, clock_entry, entries, queue, queue_with}
use Rattle.inp_model.specs.Reply.{taken_of}
use Rattle.inp_client.specs.Masks.{masks_with}
use Rattle.inp_client.proofs.MaskBits.{masks_with-full}
use Rattle.inp_client.specs.Client.{ClientView, new_client, with_events, after_take, after_flush, after_mask}
use Rattle.inp_client.specs.Client.{after_revoke}
use Rattle.inp_client.specs.Read.{taken_event, read_after_clock}
use Rattle.inp_client.specs.Clients.{has_client, has_revoked_client, events_of, map_client, without_client}
use Rattle.inp_device.specs.Present.{client_after, clients_after, MasksEnd, IsFresh}
use Rattle.inp_model.proofs.Opens.{is_open-lt, range-more}
use Rattle.inp_model.proofs.Removal.{flush-map}
use Rattle.inp_device.proofs.Masks.{masks_with-set}
use Rattle.inp_client.proofs.Lists.{any_below, either_same, map_over, map_same, filter-filter}
use Rattle.inp_client.proofs.ClientLists.{has_client-filter, events_of-map, has_revoked_client-map}
use Rattle.inp_client.proofs.ClientLists.{without_client-map, map_client-map}
use Rattle.inp_device.proofs.Offers.{client_with, after_offers, after_offers-with}
use Rattle.std.proofs.lemmas.List.Elements.{filter_passes, filter-append, filter_agree}
use Rattle.std.proofs.lemmas.Bool.Decides.{nat_tests}
use Rattle.inp_bits.proofs.Indices.{filter_same}

-- The open clients, before and after a step

-- the new client comes last
pub open_clients-open : (past : List Step) → open_clients (Open ∷ past) ≡ open_clients past ++ opens past ∷ []
unfolding is_open opens
open_clients-open past =
    let n = opens past in
    let p : ℕ → Bool = λ k. if nat_eq n k then true else is_open past k in
    ap (filter p) (range-more 0 n)
    ∙ filter-append p (range_with_len 0 n) ((0 + n) ∷ [])
    ∙ ap (λ (ks : List ℕ). ks ++ filter p ((0 + n) ∷ []))
    (filter_same p (is_open past) 0 n (λ k l h. rw (ne_eqb n k (λ e. omega (arith, h, e)))))
    ∙ ap (λ (ks : List ℕ). filter (is_open past) (range_with_len 0 n) ++ ks)
    (let zero_plus : 0 + n ≡ n = omega arith in
    rw (zero_plus, eq-eqb))

-- a test of equality is the same in either order
pub nat_eq_swap : (m n : ℕ) → nat_eq m n ≡ nat_eq n m
nat_eq_swap m n = grind (arith, nat_tests)

closed : (closing before : Bool) → (if closing then false else before) ≡ (before && not closing)
closed true true = refl
closed true false = refl
closed false true = refl
closed false false = refl

-- the client that is closed is left out
pub open_clients-close : (past : List Step) (client : ℕ)
    → open_clients (Close client ∷ past) ≡ filter (λ k. not (nat_eq k client)) (open_clients past)
unfolding is_open opens
open_clients-close past client =
    filter_agree (λ k. if nat_eq client k then false else is_open past k)
    (λ k. is_open past k && not (nat_eq k client))
    (λ k. rw (closed, nat_eq_swap)) (range_with_len 0 (opens past))
    ∙ sym (filter-filter (is_open past) (λ k. not (nat_eq k client)) (range_with_len 0 (opens past)))

-- One client of a list, changed

-- each client of the list has the number that it stands for
abbrev pub IsNumbered : (ℕ → ClientView Taken) → Type 0
IsNumbered f = (n : ℕ) → (f n).number ≡ n

-- two functions that agree at each number that passes a test
pub map-filter_same : {X : Type 0} → (f g : ℕ → X) (p : ℕ → Bool) (ns : List ℕ)
    → ((k : ℕ) → p k ≡ true → f k ≡ g k) → map f (filter p ns) ≡ map g (filter p ns)
map-filter_same f g p ns same = map_same f g (filter p ns)
    (λ j d in_j. same (get_or (filter p ns) j d) (filter_passes p ns j d in_j))

-- one client changed, and the others as they are
pub map_client-filter : (n : ℕ) (change : ClientView Taken → ClientView Taken) (f g : ℕ → ClientView Taken)
    (p : ℕ → Bool) (ns : List ℕ) → IsNumbered f
    → (p n ≡ true → g n ≡ change (f n)) → ((k : ℕ) → (k ≡ n → ⊥) → g k ≡ f k)
    → map g (filter p ns) ≡ map_client n change (map f (filter p ns))
map_client-filter n change f g p ns numbered here there =
    map-filter_same g (λ k. if nat_eq k n then change (f k) else f k) p ns (λ k passes.
    elim (cases_eq k n) [
      | inl e ↦
          cc (
            e,
            here (rw e at passes),
            e,
            sym (ap (λ b. if b then change (f k) else f k) (ap (λ (m : ℕ). nat_eq m n) e ∙ eq-eqb n n refl)),
          )
      | inr other ↦ there k other ∙ sym (rw ne_eqb)
    ])
    ∙ sym (map_client-map f numbered n change (filter p ns))

numbered : (d : Description) (past : List Step) → IsNumbered (client_after d past)
numbered d past n = refl

-- Who is open

-- an open client is among the open clients
pub among_open : (past : List Step) (n : ℕ) → is_open past n ≡ true
    → list_any (λ k. nat_eq k n) (open_clients past) ≡ true
among_open past n h =
    rw (any_below n (opens past) (is_open past), lt-ltb n (opens past) (is_open-lt past n h)) h

and_below : (past : List Step) (n : ℕ) (b : Bool) → b ≡ is_open past n → (nat_lt n (opens past) && b) ≡ b
and_below past n true h = rw (lt-ltb n (opens past) (is_open-lt past n (sym h)))
and_below past n false h = and_right (nat_lt n (opens past)) false refl

-- the code's test of a client is the past's
pub has_client-after : (d : Description) (past : List Step) (n : ℕ)
    → has_client n (clients_after d past) ≡ is_open past n
has_client-after d past n =
    has_client-filter (client_after d past) (numbered d past) n (opens past) (is_open past)
    ∙ and_below past n (is_open past n) refl

-- an open client is among those after the past, with the events of its queue
pub events_of-after : (d : Description) (past : List Step) (n : ℕ) → is_open past n ≡ true
    → events_of n (clients_after d past) ≡ map taken_of (queue d past n)
events_of-after d past n h =
    events_of-map (client_after d past) (numbered d past) n (open_clients past) (among_open past n h)

-- an open client is marked as revoked where the past says so
pub has_revoked_client-after : (d : Description) (past : List Step) (n : ℕ) → is_open past n ≡ true
    → has_revoked_client n (clients_after d past) ≡ is_revoked past n
has_revoked_client-after d past n h =
    has_revoked_client-map (client_after d past) (numbered d past) n (open_clients past) (among_open past n h)

-- Steps that end no frame

-- a step of one client that opens and closes none: the clients are as the call changes that one
changed_by : (d : Description) (past : List Step) (x : Step) (n : ℕ) (change : ClientView Taken
    → ClientView Taken) → open_clients (x ∷ past) ≡ open_clients past
    → (is_open past n ≡ true → client_after d (x ∷ past) n ≡ change (client_after d past n))
    → ((k : ℕ) → (k ≡ n → ⊥) → client_after d (x ∷ past) k ≡ client_after d past k)
    → clients_after d (x ∷ past) ≡ map_client n change (clients_after d past)
changed_by d past x n change same here there =
    ap (map (client_after d (x ∷ past))) same
    ∙ map_client-filter n change (client_after d past) (client_after d (x ∷ past)) (is_open past)
    (range_with_len 0 (opens past)) (numbered d past) here there

-- a queue after a step that names a client, by whether it is this one
by_name : (n k : ℕ) (changed q : List Entry) → (k ≡ n → ⊥) → (if nat_eq n k then changed else q) ≡ q
by_name n k changed q other = rw (ne_eqb n k (λ e. other (sym e)))

at_name : (n : ℕ) (changed q : List Entry) → (if nat_eq n n then changed else q) ≡ changed
at_name n changed q = rw eq-eqb

-- the events of a client's queue that a read or a discard leaves
left_of : (d : Description) (past : List Step) (n count : ℕ) (q : List Entry)
    → client_with d past n (drop count q) ≡ after_take count (client_with d past n q)
left_of d past n count q = rw (← drop-map)

flush_of : (d : Description) (past : List Step) (n : ℕ) (query : Query) (q : List Entry)
    → client_with d past n (flush model.event_of (is_part_of query) q)
    ≡ after_flush taken_event query (client_with d past n q)
flush_of d past n query q =
    rw (flush-map taken_of model.event_of taken_event (λ x. refl) (is_part_of query) q)

-- a read takes from its client's queue what can be seen, up to its count, and leaves the others
pub clients_after-read : (d : Description) (past : List Step) (n count taken : ℕ)
    → taken ≡ min count (visible model.event_of (queue d past n))
    → clients_after d (Read n count ∷ past) ≡ map_client n (after_take taken) (clients_after d past)
unfolding opens is_open is_revoked clock_of mask_bit queue_with raw_of_step cuts
clients_after-read d past n count taken chosen =
    changed_by d past (Read n count) n (after_take taken) refl
    (λ opened. ap (client_with d past n) (rw (at_name, ← chosen)) ∙ left_of d past n taken (queue d past n))
    (λ k other. ap (client_with d past k)
    (by_name n k (drop (min count (visible model.event_of (queue d past k))) (queue d past k))
    (queue d past k) other))

-- a discard takes from its client's queue all that can be seen, and leaves the others
pub clients_after-discard : (d : Description) (past : List Step) (n removed : ℕ)
    → removed ≡ visible model.event_of (queue d past n)
    → clients_after d (Discard n ∷ past) ≡ map_client n (after_take removed) (clients_after d past)
unfolding opens is_open is_revoked clock_of mask_bit queue_with raw_of_step cuts
clients_after-discard d past n removed chosen =
    changed_by d past (Discard n) n (after_take removed) refl
    (λ opened. ap (client_with d past n) (rw (at_name, ← chosen)) ∙ left_of d past n removed (queue d past n))
    (λ k other. ap (client_with d past k)
    (by_name n k (drop (visible model.event_of (queue d past k)) (queue d past k)) (queue d past k) other))

-- a step that asks for something whole
some_same : {X : Type 0} (x y : X) → Some x ≡ Some y → x ≡ y
some_same x y e = cc

asked : (d : Description) (past : List Step) (x : Step) (m n : ℕ) (asks query : Query) → Some m ≡ Some n
    → Some asks ≡ Some query → open_clients (x ∷ past) ≡ open_clients past
    → ((k : ℕ) → client_after d (x ∷ past) k
    ≡ client_with d past k (if nat_eq m k then flush model.event_of (is_part_of asks) (queue d past k)
    else queue d past k))
    → clients_after d (x ∷ past) ≡ map_client n (after_flush taken_event query) (clients_after d past)
asked d past x m n asks query named whole same is =
    rw (
      changed_by d past x m (after_flush taken_event asks) same (λ opened. is m
          ∙ ap (client_with d past m)
          (at_name m (flush model.event_of (is_part_of asks) (queue d past m)) (queue d past m))
          ∙ flush_of d past m asks (queue d past m)) (λ k other. is k
          ∙ ap (client_with d past k)
          (by_name m k (flush model.event_of (is_part_of asks) (queue d past k)) (queue d past k) other)),
      some_same m n named,
      some_same asks query whole,
    )

-- the queries of bits, and of all slots
pub clients_after-query : (d : Description) (past : List Step) (x : Step) (n : ℕ) (query : Query)
    → client_of x ≡ Some n → query_of x ≡ Some query
    → clients_after d (x ∷ past) ≡ map_client n (after_flush taken_event query) (clients_after d past)
unfolding opens is_open is_revoked clock_of mask_bit queue_with raw_of_step cuts
clients_after-query d past (GetKeys m) n query named whole =
    asked d past (GetKeys m) m n (Codes 1) query named whole refl (λ k. refl)
clients_after-query d past (GetSwitches m) n query named whole =
    asked d past (GetSwitches m) m n (Codes 5) query named whole refl (λ k. refl)
clients_after-query d past (GetLeds m) n query named whole =
    asked d past (GetLeds m) m n (Codes 17) query named whole refl (λ k. refl)
clients_after-query d past (GetSounds m) n query named whole =
    asked d past (GetSounds m) m n (Codes 18) query named whole refl (λ k. refl)
clients_after-query d past (SyncSlots m) n query named whole =
    asked d past (SyncSlots m) m n Slots query named whole refl (λ k. refl)
clients_after-query d past x n query named whole = absurd (cc whole)

-- a revocation marks its client, and changes no queue
pub clients_after-revoke : (d : Description) (past : List Step) (n : ℕ)
    → clients_after d (Revoke n ∷ past) ≡ map_client n after_revoke (clients_after d past)
unfolding opens is_open is_revoked clock_of mask_bit queue_with raw_of_step cuts
clients_after-revoke d past n =
    let marked : ℕ → Bool → ClientView Taken =
    λ k b. record (client_with d past k (if b then queue d past k else queue d past k)) {
      revoked = if b then true else is_revoked past k;
    } in
    changed_by d past (Revoke n) n after_revoke refl (λ opened. ap (marked n) (eq-eqb n n refl))
    (λ k other. ap (marked k) (ne_eqb n k (λ e. other (sym e))))

-- a word of one client's mask is set, and no queue changes
pub clients_after-mask : (d : Description) (past : List Step) (n kind word bits : ℕ) → word < mask_words kind
    → clients_after d (Mask n kind word bits ∷ past)
    ≡ map_client n (after_mask kind word bits) (clients_after d past)
unfolding opens is_open is_revoked clock_of mask_bit queue_with raw_of_step cuts
clients_after-mask d past n kind word bits fits =
    let masked : ℕ → Bool → ClientView Taken = λ k b.
    let changed : ℕ → ℕ → Bool =
    λ this i. unwrap_or (if b && nat_eq kind this && nat_eq word (i / 64)
    then Some (bit_at bits (i % 64) == 1) else None) (mask_bit past k this i) in
    record (client_with d past k (if b then queue d past k else queue d past k)) {
      masks = masks_with changed;
    } in
    changed_by d past (Mask n kind word bits) n (after_mask kind word bits) refl
    (λ opened. ap (masked n) (eq-eqb n n refl)
    ∙ ap (λ m. record (client_after d past n) { masks = m })
    (masks_with-set (mask_bit past n) kind word bits fits))
    (λ k other. ap (masked k) (ne_eqb n k (λ e. other (sym e))))

-- a change of clock, seen as the events that a client reads
clock_changed-map : (d : Description) (past : List Step) (same : Bool) (e : Entry) (q : List Entry)
    → map taken_of (clock_changed same e q) ≡ clock_changed same (taken_of e) (map taken_of q)
clock_changed-map d past same e [] = refl
clock_changed-map d past true e (x ∷ q) = refl
clock_changed-map d past false e (x ∷ q) = refl

-- the client has the clock, and its queue is as a change of clock leaves it
pub clients_after-clock : (d : Description) (past : List Step) (n : ℕ) (clock : Clock) (now : ℕ)
    → clients_after d (ToClock n clock now ∷ past) ≡ map_client n (read_after_clock d clock now (length past))
    (clients_after d past)
unfolding opens is_open is_revoked clock_of mask_bit queue_with raw_of_step cuts
clients_after-clock d past n clock now =
    let clocked : ℕ → Bool → ClientView Taken = λ k b.
    record
    (client_with d past k
    (if b then clock_changed (is_same_clock (clock_of past n) clock) (clock_entry d past clock now)
    (queue d past k) else queue d past k)) {
      clock = unwrap_or (if b then Some clock else None) (clock_of past k);
    } in
    changed_by d past (ToClock n clock now) n (read_after_clock d clock now (length past)) refl
    (λ opened. ap (clocked n) (eq-eqb n n refl)
    ∙ ap (λ (ts : List Taken). record (with_events ts (client_after d past n)) { clock = clock })
    (clock_changed-map d past (is_same_clock (clock_of past n) clock) (clock_entry d past clock now)
    (queue d past n)))
    (λ k other. ap (clocked k) (ne_eqb n k (λ e. other (sym e))))

-- Clients that open and close

-- the client that is closed is left out, and the queues of the others stay
pub clients_after-close : (d : Description) (past : List Step) (n : ℕ)
    → clients_after d (Close n ∷ past) ≡ without_client n (clients_after d past)
unfolding is_revoked clock_of mask_bit queue_with raw_of_step cuts
clients_after-close d past n =
    ap (map (client_after d (Close n ∷ past))) (open_clients-close past n)
    ∙ map_same (client_after d (Close n ∷ past)) (client_after d past)
    (filter (λ k. not (nat_eq k n)) (open_clients past)) (λ j e in_j. let k =
    get_or (filter (λ k. not (nat_eq k n)) (open_clients past)) j e in
    ap (client_with d past k) (either_same (nat_eq n k) (queue d past k)))
    ∙ sym (without_client-map (client_after d past) (numbered d past) n (open_clients past))

-- a client that is new has no events, all bits of its masks, and the realtime clock
new_client-is : (d : Description) (past : List Step) (n : ℕ) → IsFresh past n
    → client_with d past n [] ≡ new_client n (ring d)
new_client-is d past n fresh = rw (masks_with-full (mask_bit past n) fresh.bits, fresh.clock, fresh.revoked)

-- the client that opens comes last and is new, since no step before named its number
pub clients_after-open : (d : Description) (past : List Step) → IsFresh past (opens past)
    → clients_after d (Open ∷ past) ≡ clients_after d past ++ new_client (opens past) (ring d) ∷ []
unfolding is_revoked clock_of mask_bit queue_with raw_of_step cuts
clients_after-open d past fresh =
    let n = opens past in
    let f = client_after d (Open ∷ past) in
    let opened : ℕ → Bool → ClientView Taken =
    λ k b. client_with d past k (if (if b then true else false) then [] else queue d past k) in
    rw (
      open_clients-open past,
      map-append f (open_clients past) (n ∷ []),
      map-filter_same f (client_after d past) (is_open past) (range_with_len 0 n)
          (λ k there. ap (opened k) (ne_eqb n k (λ e. absurd (omega (arith, e, is_open-lt past k there))))),
      eq-eqb n n refl,
      new_client-is d past n fresh,
    )

-- Steps that may end frames

-- the clients were offered the frames of the step
framed : (d : Description) (past : List Step) (x : Step) → MasksEnd past
    → open_clients (x ∷ past) ≡ open_clients past
    → ((k : ℕ) → client_after d (x ∷ past) k
    ≡ client_with d past k
    (put_all model.event_of entry_dropped_at (ring d) (queue d past k)
    (entries d k (frames_of_step d past x))))
    → map (after_offers d (frames_of_step d past x)) (clients_after d past) ≡ clients_after d (x ∷ past)
framed d past x ends same is =
    let offers = after_offers d (frames_of_step d past x) in
    sym (map_over (λ k. offers (client_after d past k)) (client_after d past) offers (open_clients past)
    (λ j e in_j. refl))
    ∙ map-filter_same (λ k. offers (client_after d past k)) (client_after d (x ∷ past)) (is_open past)
    (range_with_len 0 (opens past))
    (λ k opened. after_offers-with d past k x (cuts_of_step d past x) (queue d past k) opened
    (ends k) ∙ sym (is k))
    ∙ ap (map (client_after d (x ∷ past))) (sym same)

-- a step that stands for raw events
abbrev pub makes_events : Step → Bool
makes_events (Inject e now) = true
makes_events (Write client e now) = true
makes_events (Tick now) = true
makes_events (Inhibit now) = true
makes_events _ = false

-- the steps that stand for raw events open and close no client, and offer their frames to each
pub clients_after-frames : (d : Description) (past : List Step) (x : Step) → makes_events x ≡ true
    → MasksEnd past → map (after_offers d (frames_of_step d past x)) (clients_after d past)
    ≡ clients_after d (x ∷ past)
unfolding opens is_open is_revoked clock_of mask_bit queue_with
clients_after-frames d past (Inject e now) h ends = framed d past (Inject e now) ends refl (λ k. refl)
clients_after-frames d past (Tick now) h ends = framed d past (Tick now) ends refl (λ k. refl)
clients_after-frames d past (Inhibit now) h ends = framed d past (Inhibit now) ends refl (λ k. refl)
clients_after-frames d past (Write client e now) h ends =
    framed d past (Write client e now) ends refl
    (λ k. rw either_same)
clients_after-frames d past _ h ends = absurd (cc h)

-- Steps that leave the clients

abbrev pub leaves_clients : Step → Bool
leaves_clients (GetAxis client code) = true
leaves_clients (SetAxis client code axis) = true
leaves_clients (GetSlots client code) = true
leaves_clients (Grab client) = true
leaves_clients (Ungrab client) = true
leaves_clients Uninhibit = true
leaves_clients End = true
leaves_clients _ = false

left : (d : Description) (past : List Step) (x : Step) → open_clients (x ∷ past) ≡ open_clients past
    → ((k : ℕ) → client_after d (x ∷ past) k ≡ client_after d past k)
    → clients_after d (x ∷ past) ≡ clients_after d past
left d past x same is =
    ap (map (client_after d (x ∷ past))) same
    ∙ map_same (client_after d (x ∷ past)) (client_after d past) (open_clients past)
    (λ j e in_j. is (get_or (open_clients past) j e))

-- each of these steps keeps who is open, and all that is said of each client
pub clients_after-left : (d : Description) (past : List Step) (x : Step) → leaves_clients x ≡ true
    → clients_after d (x ∷ past) ≡ clients_after d past
unfolding opens is_open is_revoked clock_of mask_bit queue_with raw_of_step cuts
clients_after-left d past (GetAxis client code) h =
    left d past (GetAxis client code) refl
    (λ k. ap (client_with d past k) (either_same (nat_eq client k) (queue d past k)))
clients_after-left d past (SetAxis client code axis) h =
    left d past (SetAxis client code axis) refl
    (λ k. ap (client_with d past k) (either_same (nat_eq client k) (queue d past k)))
clients_after-left d past (GetSlots client code) h =
    left d past (GetSlots client code) refl
    (λ k. ap (client_with d past k) (either_same (nat_eq client k) (queue d past k)))
clients_after-left d past (Grab client) h =
    left d past (Grab client) refl
    (λ k. ap (client_with d past k) (either_same (nat_eq client k) (queue d past k)))
clients_after-left d past (Ungrab client) h =
    left d past (Ungrab client) refl
    (λ k. ap (client_with d past k) (either_same (nat_eq client k) (queue d past k)))
clients_after-left d past Uninhibit h = left d past Uninhibit refl (λ k. refl)
clients_after-left d past End h = left d past End refl (λ k. refl)
clients_after-left d past _ h = absurd (cc h)
