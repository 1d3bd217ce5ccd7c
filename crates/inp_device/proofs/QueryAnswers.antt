-- What is answered with no step, from what is kept.
use Rattle.std.proofs.Common.{◌≡◌, ℕ, ◌+◌, ◌*◌, ◌^◌, ◌<◌, Bool, true, false, if◌then◌else◌, nat_lt, List, []}
use Rattle.std.proofs.Common.{◌∷◌, map, Option, Some, None, refl, sym, ap, ◌∙◌, arith}
use Rattle.std.specs.Prelude.{filter}
use Rattle.std.specs.Option.{option_map, option_map_or}
use Rattle.std.specs.List.{range_with_len}
use Rattle.std.proofs.lemmas.List.FromFn.{get_or-map-range_with_len}
use Rattle.inp_model.specs.declared.event.Event.{Event}
use Rattle.inp_model.specs.declared.taken.Taken.{Taken}
use Rattle.inp_model.specs.declared.clock.Clock.{Clock}
use Rattle.inp_model.specs.declared.clock.Clock.TheVariants.{Realtime}
use Rattle.inp_model.specs.declared.step.Step.{Step}
use Rattle.inp_model.specs.Description.{Description}
use Rattle.inp_model.specs.Step.{is_same}
use Rattle.inp_model.specs.Past.{is_open, open_clients, is_revoked, holder, clock_of, mask_bit, has_mask}
use Rattle.inp_model.specs.Past.{mask_words}
use Rattle.inp_model.specs.Queue as model
use Rattle.inp_model.specs.Queue.{visible, queue}
use Rattle.inp_model.specs.Reply.{number_of_bits, bitmap_word}
use Rattle.inp_bits.specs.Bits.{word_bits}
use Rattle.inp_ring.specs.declared.cell.Cell.{Cell}
use Rattle.inp_ring.specs.Store.{event_of_cell}
use Rattle.inp_client.specs.Masks.{MaskView, full_masks, masks_with, mask_of, word_of}
use Rattle.inp_client.specs.Client.{ClientView}
use Rattle.inp_client.specs.Clients.{has_client, client_named, has_revoked_client, clock_of_client}
use Rattle.inp_client.specs.Clients.{masks_of_client, events_of, can_read, readable_in}
use Rattle.inp_client.specs.Read.{taken_event, client_on, clients_on}
use Rattle.inp_client.proofs.Lists.{either_map}
use Rattle.inp_client.proofs.OnClock.{client_named-on, has_client-on, visible-on_clock, visible-client_on}
use Rattle.inp_client.proofs.ClientLists.{client_named-map}
use Rattle.inp_client.proofs.MaskBits.{by_kind}
use Rattle.inp_device.specs.declared.client_state.ClientState.{ClientState}
use Rattle.inp_device.specs.declared.present.Present.{Present}
use Rattle.inp_device.specs.Present.{client_after, PresentStandsFor}
use Rattle.inp_device.specs.Queries.{visible_to, readable_clients, state_of_client, mask_word_of}
use Rattle.inp_device.proofs.Queues.{visible-map}
use Rattle.inp_device.proofs.Calls.{among_open, has_client-after, events_of-after}
use Rattle.inp_device.proofs.WordLists.{value_at, word-values, map-same}

-- A word of a mask

-- the mask of a kind that has these bits
mask_with : (bit : ℕ → ℕ → Bool) (kind : ℕ) → has_mask kind ≡ true
    → mask_of (masks_with bit) kind ≡ map (bit kind) (range_with_len 0 (64 * mask_words kind))
unfolding masks_with
mask_with bit kind has =
    by_kind (λ k. mask_of (masks_with bit) k ≡ map (bit k) (range_with_len 0 (64 * mask_words k)))
    refl refl refl refl refl refl refl refl kind has

word_with : (bits : ℕ → Bool) (n word : ℕ) → 64 * word + 64 < n + 1
    → bitmap_word (value_at (map bits (range_with_len 0 n))) (64 * word) ≡ bitmap_word bits (64 * word)
word_with bits n word h =
    let all : List Bool = map bits (range_with_len 0 n) in
    ap number_of_bits (map-same false 64 (λ k. value_at all (64 * word + k)) (λ k. bits (64 * word + k))
    (λ k low. get_or-map-range_with_len bits 0 n (64 * word + k) (64 * word + k) false (omega (arith, h, low))
    (omega arith)))

pub mask_word-kept : (bit : ℕ → ℕ → Bool) (masks : MaskView) (kind word bits : ℕ) → has_mask kind ≡ true
    → word < mask_words kind → bits < 2 ^ 64
    → masks ≡ masks_with bit → word_bits bits ≡ word_of word (mask_of masks kind)
    → bits ≡ bitmap_word (bit kind) (64 * word)
mask_word-kept bit masks kind word bits has fits small same is =
    let all : List Bool = map (bit kind) (range_with_len 0 (64 * mask_words kind)) in
    let those : mask_of masks kind ≡ all = rw same (mask_with bit kind has) in
    word-values all word bits small (is ∙ ap (word_of word) those)
    ∙ word_with (bit kind) (64 * mask_words kind) word (omega (arith, fits))

-- The clients that could read something

readable-cons : {E : Type 0} (event : E → Event) (c : ClientView E) (cs : List (ClientView E))
    → readable_in event (c ∷ cs)
    ≡ (if can_read event c then c.number ∷ readable_in event cs else readable_in event cs)
readable-cons {E} event c cs =
    let rest : List (ClientView E) = filter (can_read event) cs in
    either_map (map (λ (c : ClientView E). c.number)) (can_read event c) (c ∷ rest) rest

readable-on : (d : Description) (clients : List (ClientView Cell))
    → readable_in taken_event (clients_on d clients) ≡ readable_in event_of_cell clients
readable-on d [] = refl
readable-on d (c ∷ clients) =
    let rest : List ℕ = readable_in taken_event (clients_on d clients) in
    rw (readable-cons, visible-client_on, readable-on d clients) (sym (readable-cons event_of_cell c clients))

readable-after : (d : Description) (past : List Step) (ns : List ℕ)
    → readable_in taken_event (map (client_after d past) ns)
    ≡ filter (λ n. nat_lt 0 (visible model.event_of (queue d past n))) ns
readable-after d past [] = refl
readable-after d past (n ∷ ns) =
    let rest : List ℕ = readable_in taken_event (map (client_after d past) ns) in
    rw (readable-cons, visible-map, readable-after d past ns)

-- One client

module _ {d : Description} {past : List Step} {p : Present} (stands : PresentStandsFor d past p) where
  -- as much can be seen of each client's cells as of its queue by the past
  pub readable_kept : readable_in event_of_cell p.handler.clients.list ≡ readable_clients d past
  readable_kept =
      sym (readable-on d p.handler.clients.list)
      ∙ ap (readable_in taken_event) stands.handler.clients
      ∙ readable-after d past (open_clients past)

  -- the code's test whether it is open is the past's
  open_same : (client : ℕ) → has_client client p.handler.clients.list ≡ is_open past client
  open_same client =
      sym (has_client-on d client p.handler.clients.list)
      ∙ ap (has_client client) stands.handler.clients
      ∙ has_client-after d past client

  -- it is not open
  pub told_none : {X : Type 0} (client : ℕ) (value : X) → has_client client p.handler.clients.list ≡ false
      → None ≡ (if is_open past client then Some value else None)
  told_none {X} client value none =
      let by : Bool → Option X = λ b. if b then Some value else None in
      ap by (sym none ∙ open_same client)

  module _ (client : ℕ) (there : has_client client p.handler.clients.list ≡ true) where
    is_there : is_open past client ≡ true
    is_there = sym (open_same client) ∙ there

    -- it is open
    told_some : {X : Type 0} (told value : X) → told ≡ value
        → Some told ≡ (if is_open past client then Some value else None)
    told_some {X} told value e =
        let by : Bool → Option X = λ b. if b then Some value else None in
        rw (is_there, ← e)

    named_as : option_map (client_on d) (client_named client p.handler.clients.list)
        ≡ Some (client_after d past client)
    named_as =
        sym (client_named-on d client p.handler.clients.list)
        ∙ ap (client_named client) stands.handler.clients
        ∙ client_named-map (client_after d past) (λ n. refl) client (open_clients past)
        (among_open past client is_there)

    clock_kept : clock_of_client client p.handler.clients.list ≡ clock_of past client
    clock_kept = by (client_named client p.handler.clients.list) named_as
      where
        by : (o : Option (ClientView Cell)) → option_map (client_on d) o ≡ Some (client_after d past client)
            → option_map_or (λ c. c.clock) o Realtime ≡ clock_of past client
        by None e = absurd (cc)
        by (Some c) e = ap (λ (o : Option (ClientView Taken)). option_map_or (λ c. c.clock) o Realtime) e

    revoked_kept : has_revoked_client client p.handler.clients.list ≡ is_revoked past client
    revoked_kept = by (client_named client p.handler.clients.list) named_as
      where
        by : (o : Option (ClientView Cell)) → option_map (client_on d) o ≡ Some (client_after d past client)
            → option_map_or (λ c. c.revoked) o false ≡ is_revoked past client
        by None e = absurd (cc)
        by (Some c) e = ap (λ (o : Option (ClientView Taken)). option_map_or (λ c. c.revoked) o false) e

    masks_kept : masks_of_client client p.handler.clients.list ≡ masks_with (mask_bit past client)
    masks_kept = by (client_named client p.handler.clients.list) named_as
      where
        by : (o : Option (ClientView Cell)) → option_map (client_on d) o ≡ Some (client_after d past client)
            → option_map_or (λ c. c.masks) o full_masks ≡ masks_with (mask_bit past client)
        by None e = absurd (cc)
        by (Some c) e = ap (λ (o : Option (ClientView Taken)). option_map_or (λ c. c.masks) o full_masks) e

    visible_kept : visible event_of_cell (events_of client p.handler.clients.list)
        ≡ visible model.event_of (queue d past client)
    visible_kept =
        rw (
          ← visible-on_clock d client p.handler.clients.list,
          stands.handler.clients,
          events_of-after d past client is_there,
        ) (visible-map (queue d past client))

    -- what is told of it

    -- as much can be seen of the client's cells as of its queue by the past
    pub told_visible : (seen : ℕ) → seen ≡ visible event_of_cell (events_of client p.handler.clients.list)
        → Some seen ≡ visible_to d past client
    told_visible seen is = told_some seen (visible model.event_of (queue d past client)) (is ∙ visible_kept)

    -- the client is open, and its clock, its revocation and its grab are those of the past
    pub told_state : (clock : Clock) (revoked grabs : Bool)
        → clock ≡ clock_of_client client p.handler.clients.list
        → revoked ≡ has_revoked_client client p.handler.clients.list → grabs ≡ is_same p.handles.holder client
        → (let told : ClientState = record { clock = clock; revoked = revoked; grabs = grabs } in
        Some told ≡ state_of_client past client)
    told_state clock revoked grabs on was holds =
        let timed : clock ≡ clock_of past client = on ∙ clock_kept in
        let lost : revoked ≡ is_revoked past client = was ∙ revoked_kept in
        let held : grabs ≡ is_same (holder past) client = rw (holds, stands.holder) in
        told_some (record { clock = clock; revoked = revoked; grabs = grabs })
        (record {
          clock = clock_of past client;
          revoked = is_revoked past client;
          grabs = is_same (holder past) client;
        })
        (λ i. record { clock = timed i; revoked = lost i; grabs = held i })

    -- the client is open, and the kept masks have the bits that the past says
    pub told_mask : (kind word bits : ℕ) → has_mask kind ≡ true → word < mask_words kind → bits < 2 ^ 64
        → word_bits bits ≡ word_of word (mask_of (masks_of_client client p.handler.clients.list) kind)
        → Some bits ≡ mask_word_of past client kind word
    told_mask kind word bits has fits small is =
        told_some bits (bitmap_word (mask_bit past client kind) (64 * word))
        (mask_word-kept (mask_bit past client)
        (masks_of_client client p.handler.clients.list) kind word bits has fits small masks_kept is)
