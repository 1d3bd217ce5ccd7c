-- What a step leaves, from what its parts leave.
use Rattle.std.proofs.Common.{◌≡◌, ◌≢◌, ℕ, suc, ◌+◌, ◌<◌, ◌≤◌, min, Bool, true, false, not, nat_eq, List, []}
use Rattle.std.proofs.Common.{◌∷◌, length, map, take, reverse, refl, sym, ap, subst, ◌∙◌, ℤ, arith, inl, inr}
use Rattle.std.proofs.Common.{Option, Some, None}
use Rattle.std.specs.Prelude.{Result, Ok, Err, IsOk, OnOk, IsNone, IsTrue, is_some}
use Rattle.std.proofs.Math.Bool.{and-true}
use Rattle.std.proofs.lemmas.Bool.{eq-eqb}
use Rattle.std.proofs.lemmas.List.Elements.{All-map}
use Rattle.std.proofs.lemmas.List.{length-reverse, length-map, take-map, length-take}
use Rattle.inp_model.specs.declared.taken.Taken.{Taken}
use Rattle.inp_model.specs.declared.step.Step.{Step}
use Rattle.inp_model.specs.declared.reply.Reply.{Reply}
use Rattle.inp_model.specs.declared.reply.Reply.TheVariants.{Done, Opened, Took, Cells}
use Rattle.inp_model.specs.declared.step.Step.TheVariants.{Open, Close, Read, GetKeys, GetSwitches, GetLeds}
use Rattle.inp_model.specs.declared.step.Step.TheVariants.{GetSounds, Grab, Ungrab, End}
use Rattle.inp_model.specs.declared.event.TheConstants.{EV_SYN, EV_KEY, EV_SW, EV_LED, EV_SND}
use Rattle.inp_model.specs.Description.{Description, ring}
use Rattle.inp_model.specs.Step.{Codes, client_of, is_open_step, is_close_of, is_end_step, is_same}
use Rattle.inp_model.specs.Past.{opens, is_open, open_clients, is_revoked, holder, clock_of, mask_bit, ends}
use Rattle.inp_model.specs.Left.{given_in, eaten}
use Rattle.inp_model.specs.Queue as model
use Rattle.inp_model.specs.Queue.{Entry, visible, queue}
use Rattle.inp_model.specs.Reply.{Answer, alone, accepted, done_answer, bits_answer, cells_answer}
use Rattle.inp_model.specs.Reply.{took_answer, taken_of, written, is_bad_client, is_no_device, finds_nothing}
use Rattle.inp_frames.specs.Core.{CoreStandsFor, IsFor, IsEntered, sends}
use Rattle.inp_frames.proofs.KeptCore.{makes_no_events}
use Rattle.inp_handles.specs.Handles.{HandleState}
use Rattle.inp_device.specs.declared.handler.Handler.{Handler}
use Rattle.inp_device.specs.declared.present.Present.{Present}
use Rattle.inp_device.specs.Handler.{IsFreshHandler}
use Rattle.inp_bits.proofs.Indices.{All-filter_range}
use Rattle.inp_ring.specs.declared.cell.Cell.{Cell}
use Rattle.inp_ring.specs.Store.{event_of_cell}
use Rattle.inp_client.specs.Client.{ClientView, new_client}
use Rattle.inp_client.specs.Clients.{has_client, has_revoked_client, events_of, map_client, with_client}
use Rattle.inp_client.specs.Numbers.{stored_of}
use Rattle.inp_client.specs.Read.{taken_event, client_on, clients_on}
use Rattle.inp_client.proofs.OnClock.{clients_on-map_client, has_client-on, has_revoked_client-on}
use Rattle.inp_client.proofs.OnClock.{visible-on_clock, with_client-on}
use Rattle.inp_client.proofs.ClientLists.{AllBelow, unused_above, with_client_above}
use Rattle.inp_device.specs.Device.{StoringView, offered_count, lost_count}
use Rattle.inp_device.specs.Present.{client_after, clients_after, AsksBits, PresentStandsFor, IsReadyFor}
use Rattle.inp_device.specs.Present.{IsAcceptedStep}
use Rattle.inp_device.specs.Queries.{HasBits}
use Rattle.inp_model.proofs.Opens.{opens-le}
use Rattle.inp_device.proofs.Queues.{visible-map, visible-le}
use Rattle.inp_model.proofs.Allowed.{IsAllowed, allowed, named_open}
use Rattle.inp_device.proofs.Calls.{makes_events, leaves_clients, has_client-after, has_revoked_client-after}
use Rattle.inp_device.proofs.Calls.{events_of-after, clients_after-open, clients_after-left}
use Rattle.inp_device.proofs.PassedFrames.{takes, filters-left}
use Rattle.inp_device.proofs.StandsAfterStep.{leaves_grab, stands_called, stands_framed, stored_framed}
use Rattle.inp_device.proofs.StandsAfterStep.{holder-keeps, opens-keeps, opens-open, ends-keeps, ends-end}
use Rattle.inp_device.proofs.StandsAfterStep.{ends-le, handler_stands, no_holder, own_grab, holder-grab}
use Rattle.inp_device.proofs.StandsAfterStep.{holder-ungrab}

-- the clients that are kept, with what they read of their cells
abbrev pub shown : Present → List (ClientView Taken)
shown p = clients_on p.caps p.handler.clients.list

-- A step on one client, of which nothing refuses it
module _ {history : List Step} {x : Step} {old : Present} (ready : IsReadyFor history x old) where
  abbrev past : List Step
  past = reverse history

  -- no cause refuses the step, so each thing that a cause denies holds
  pub permitted : IsAllowed old.caps past x
  permitted = allowed old.caps past x ready.allowed

  -- the place of the step
  pub at_place : length history ≡ length past
  at_place = sym (length-reverse history)

  -- the client that it names is open
  named_in_past : {client : ℕ} → client_of x ≡ Some client → is_open past client ≡ true
  named_in_past {client} named = named_open past x client named permitted.client

  -- and is among those that are kept
  pub named_there : {client : ℕ} → client_of x ≡ Some client
      → has_client client old.handler.clients.list ≡ true
  named_there {client} named =
      sym (has_client-on old.caps client old.handler.clients.list)
      ∙ ap (has_client client) ready.stands.handler.clients
      ∙ has_client-after old.caps past client
      ∙ named_in_past named

  -- its queue
  named_events : {client : ℕ} → client_of x ≡ Some client
      → events_of client (shown old) ≡ map taken_of (queue old.caps past client)
  named_events {client} named = ap (events_of client) ready.stands.handler.clients
      ∙ events_of-after old.caps past client (named_in_past named)

  -- what can be seen of it
  pub named_visible : {client : ℕ} → client_of x ≡ Some client
      → visible event_of_cell (events_of client old.handler.clients.list) ≡ visible model.event_of
      (queue old.caps past client)
  named_visible {client} named = sym (visible-on_clock old.caps client old.handler.clients.list)
      ∙ ap (visible taken_event) (named_events named) ∙ visible-map (queue old.caps past client)

  -- what a call on one client makes of its cells, it makes of what the client reads
  pub clients_called : (client : ℕ) (change : ClientView Cell → ClientView Cell)
      (change' : ClientView Taken → ClientView Taken) {new : List (ClientView Cell)}
      → ((v : ClientView Cell) → client_on old.caps (change v) ≡ change' (client_on old.caps v))
      → new ≡ map_client client change old.handler.clients.list
      → clients_after old.caps (x ∷ past) ≡ map_client client change' (clients_after old.caps past)
      → clients_on old.caps new ≡ clients_after old.caps (x ∷ past)
  clients_called client change change' same e after =
      ap (clients_on old.caps) e
      ∙ clients_on-map_client old.caps client change change' same old.handler.clients.list
      ∙ ap (map_client client change') ready.stands.handler.clients
      ∙ sym after

  -- the clients are as before
  pub clients_same : leaves_clients x ≡ true → shown old ≡ clients_after old.caps (x ∷ past)
  clients_same leaves = ready.stands.handler.clients ∙ sym (clients_after-left old.caps past x leaves)

  -- the grab is as before
  pub holder_same : leaves_grab x ≡ true → old.handles.holder ≡ holder (x ∷ past)
  holder_same grab = ready.stands.holder ∙ sym (holder-keeps past x grab)

  -- a call that asks the core for nothing, and opens no client
  pub called : {new : Present} → makes_no_events x ≡ true → is_open_step x ≡ false → is_end_step x ≡ false
      → new.caps ≡ old.caps → new.core ≡ old.core → new.handler.filters ≡ old.handler.filters
      → new.opens ≡ old.opens → new.ends ≡ old.ends
      → clients_on old.caps new.handler.clients.list ≡ clients_after old.caps (x ∷ past)
      → new.handles.holder ≡ holder (x ∷ past) → PresentStandsFor old.caps (x ∷ past) new
  called {new} none opening ending caps core filters opened ended clients grab =
      stands_called old.caps past x old new ready.stands permitted none
      (record {
        caps = caps;
        core = core;
        filters = filters;
        clients = clients;
        holder = grab;
        opens = opened ∙ ready.stands.opens ∙ sym (opens-keeps past x opening);
        ends = ended ∙ ready.stands.ends ∙ sym (ends-keeps past x ending);
      })

  -- a step that changes the core alone, and ends no frame
  pub stands_in_core : {new : Present} → leaves_clients x ≡ true → leaves_grab x ≡ true
      → is_open_step x ≡ false → is_end_step x ≡ false
      → new.caps ≡ old.caps → CoreStandsFor old.caps (x ∷ past) new.core → IsFor old.caps new.core
      → new.handler ≡ old.handler → new.handles.holder ≡ old.handles.holder → new.opens ≡ old.opens
      → new.ends ≡ old.ends
      → PresentStandsFor old.caps (x ∷ past) new
  stands_in_core {new} leaves free opening ending caps core made handler grab opened ended = record {
    caps = caps;
    core = core;
    made = made;
    handler =
        handler_stands old.caps past x old.handler new.handler permitted ready.stands.handler
        (rw handler (clients_same leaves))
        (filters-left old.caps past x old.handler new.handler
        (rw handler) ready.stands.handler.filters leaves);
    holder = grab ∙ holder_same free;
    opens = opened ∙ ready.stands.opens ∙ sym (opens-keeps past x opening);
    ends = ended ∙ ready.stands.ends ∙ sym (ends-keeps past x ending);
  }

  -- the counts fit their types
  pub ends_fit : old.ends ≤ length history
  ends_fit = omega (arith, ends-le past, ready.stands.ends, at_place)

  -- no more clients were opened than there are steps
  pub opens_fit : old.opens ≤ length history
  opens_fit = omega (arith, opens-le past, ready.stands.opens, at_place)

  -- the number of slots that are kept
  pub slots_kept : {count : ℕ} → count ≡ old.caps.slots → count ≡ length old.core.slots.slots
  slots_kept e = e ∙ sym ready.stands.made.slots

  -- the reply that tells values of slots
  pub cells_at : {reply : Reply} {count told : ℕ} (values : List ℤ)
      → reply ≡ Cells (length history) count old.core.slots.at_frame → count ≡ told
      → reply ≡ (cells_answer old.caps past told values).reply
  cells_at values r e = cc (at_place, ready.stands.core.raw_events.at_frame)

-- a reply with what is written to the caller's buffers
pub made_written : {history : List Step} {x : Step} {old new : Present} {given : Answer} {reply : Reply}
    {out new_out : List Taken} {cells new_cells : List ℤ}
    → accepted old.caps (reverse history) x ≡ given → reply ≡ given.reply → new_out ≡ written given.events out
    → new_cells ≡ written given.cells cells → PresentStandsFor old.caps (x ∷ reverse history) new
    → IsAcceptedStep history x old reply out new_out cells new_cells new
made_written {out} {cells} e r o k stands = record {
  replied = rw (r, ← e);
  out_written = rw (o, ← e);
  cells_written = rw (k, ← e);
  stands = stands;
}

-- a reply alone
pub made_alone : {history : List Step} {x : Step} {old new : Present} {reply is : Reply}
    → accepted old.caps (reverse history) x ≡ alone is → reply ≡ is
    → PresentStandsFor old.caps (x ∷ reverse history) new → IsAcceptedStep history x old reply [] [] [] [] new
made_alone e r stands = made_written e r refl refl stands

-- a call that is done
pub made_call : {history : List Step} {x : Step} {old new : Present} {reply : Reply}
    → accepted old.caps (reverse history) x ≡ done_answer (reverse history) → reply ≡ Done (length history)
    → PresentStandsFor old.caps (x ∷ reverse history) new → IsAcceptedStep history x old reply [] [] [] [] new
made_call {history} e r stands = made_alone e (r ∙ ap Done (sym (length-reverse history))) stands

-- a step that may end frames, and how many events are kept then
pub framed : {history : List Step} {x : Step} {old new : Present} {begun : Handler} {reply : Reply}
    {o : Option ℕ} → IsReadyFor history x old → makes_events x ≡ true
    → accepted old.caps (reverse history) x ≡ done_answer (reverse history) → reply ≡ Done (length history)
    → begun ≡ record old.handler { place = length history; holder = o } → o ≡ old.handles.holder
    → IsEntered old.caps (reverse history) x new.core takes begun new.handler → IsFor old.caps new.core
    → new.caps ≡ old.caps → new.handles.holder ≡ old.handles.holder → new.opens ≡ old.opens
    → new.ends ≡ old.ends
    → leaves_grab x ≡ true → is_open_step x ≡ false → is_end_step x ≡ false
    → IsAcceptedStep history x old reply [] [] [] [] new
    × (stored_of new.handler.clients
    ≤ stored_of old.handler.clients + (offered_count old.caps (reverse history) x + lost_count old.caps
    (reverse history) x))
framed {history} {x} {old} {new} {begun} ready makes e r begun_as held entered made caps handles opened ended
    grab opening ending =
    let past : List Step = reverse history in
    let begins : begun ≡ record old.handler { place = length past; holder = old.handles.holder } =
    rw (begun_as, held, ← length-reverse) in
    let stands =
    stands_framed old.caps past x old new begun ready.stands begins entered
    (permitted ready) makes made caps handles opened ended grab opening ending in
    (made_call e r stands, stored_framed old.caps past x old new begun ready.stands begins entered stands)

-- a source is done
pub stands_ended : {history : List Step} {old new : Present} (ready : IsReadyFor history End old)
    → new.caps ≡ old.caps → new.core ≡ old.core → new.handler ≡ old.handler
    → new.handles.holder ≡ old.handles.holder → new.opens ≡ old.opens → new.ends ≡ old.ends + 1
    → PresentStandsFor old.caps (End ∷ reverse history) new
stands_ended {history} {old} {new} ready caps core handler grab opened ended =
    let past : List Step = reverse history in
    let more : ends past + 1 ≡ suc (ends past) = omega arith in
    stands_called old.caps past End old new ready.stands (permitted ready) refl
    (record {
      caps = caps;
      core = core;
      filters = rw handler;
      clients = rw handler (clients_same ready refl);
      holder = grab ∙ holder_same ready refl;
      opens = opened ∙ ready.stands.opens ∙ sym (opens-keeps past End refl);
      ends = rw (ended, ready.stands.ends, more) (sym (ends-end past));
    })

-- Reading

-- what is answered to a read
read_answer : (past : List Step) (q : List Entry) (count taken at : ℕ) (ts : List Taken)
    → taken ≡ min count (visible model.event_of q) → ts ≡ map taken_of q → at ≡ length past
    → took_answer past (take (min count (visible model.event_of q)) q)
    ≡ record { reply = Took at taken; events = take taken ts; cells = [] }
read_answer past q count taken at ts chosen is placed =
    let few : taken ≤ length q = omega
    (arith, visible-le (map taken_of q), visible-map q, length-map q taken_of, chosen) in
    let long : length (take taken q) ≡ taken = length-take taken q ∙ omega (arith, few) in
    rw (← chosen, long, ← take-map, is, placed) refl

-- a read is answered with the first events of its client's queue, as they are kept
pub accepted-read : {history : List Step} {old : Present} {client count taken : ℕ}
    → IsReadyFor history (Read client count) old
    → taken ≡ min count (visible event_of_cell (events_of client old.handler.clients.list))
    → accepted old.caps (reverse history) (Read client count)
    ≡ record {
      reply = Took (length history) taken;
      events = take taken (events_of client (shown old));
      cells = [];
    }
accepted-read {history} {old} {client} {count} {taken} ready chosen =
    let past : List Step = reverse history in
    let q : List Entry = queue old.caps past client in
    rw eq-eqb (read_answer past q count taken (length history) (events_of client (shown old)) (chosen
    ∙ ap (min count) (named_visible ready refl)) (named_events ready refl) (at_place ready))

-- Queries

codes : (a b : ℕ) → Some (Codes a) ≡ Some (Codes b) → a ≡ b
codes a b e = cc

-- each query of bits is answered with the bits of its own kind
pub accepted-bits : (d : Description) (past : List Step) (x : Step) (client kind : ℕ) → AsksBits x client kind
    → accepted d past x ≡ bits_answer d past kind
accepted-bits d past (GetKeys n) client kind asks = ap (bits_answer d past) (codes EV_KEY kind asks.whole)
accepted-bits d past (GetSwitches n) client kind asks = ap (bits_answer d past) (codes EV_SW kind asks.whole)
accepted-bits d past (GetLeds n) client kind asks = ap (bits_answer d past) (codes EV_LED kind asks.whole)
accepted-bits d past (GetSounds n) client kind asks = ap (bits_answer d past) (codes EV_SND kind asks.whole)
accepted-bits d past x client kind asks = absurd (cc (asks.whole))

-- Taking and giving up the grab

on_ok : {T E P : Type 0} (r : Result T E) → IsOk r → OnOk r P → P
on_ok (Ok v) is p = p
on_ok (Err e) is p = absurd (cc is)

-- the step is not refused as busy, so nobody had the grab, and taking it succeeds
pub holder_taken : {T E : Type 0} {history : List Step} {old : Present} {client : ℕ} (new : HandleState)
    (r : Result T E) → IsReadyFor history (Grab client) old → (IsNone old.handles.holder → IsOk r)
    → OnOk r (new ≡ record old.handles { holder = Some client })
    → new.holder ≡ holder (Grab client ∷ reverse history)
holder_taken {history} {old} {client} new r ready free ok =
    let none : old.handles.holder ≡ None =
    ready.stands.holder ∙ no_holder (reverse history) client (permitted ready).free in
    rw (on_ok r (free (ap is_some none)) ok) (holder-grab (reverse history) client)

-- the step is not refused, so its client had the grab, and giving it up succeeds
pub holder_given_up : {T E : Type 0} {history : List Step} {old : Present} {client : ℕ} (new : HandleState)
    (r : Result T E) → IsReadyFor history (Ungrab client) old
    → (IsTrue (is_same old.handles.holder client) → IsOk r)
    → OnOk r (new ≡ record old.handles { holder = None })
    → new.holder ≡ holder (Ungrab client ∷ reverse history)
holder_given_up {history} {old} {client} new r ready grabber ok =
    let own : is_same (holder (reverse history)) client ≡ true =
    own_grab (reverse history) client (permitted ready).held in
    let own_kept : is_same old.handles.holder client ≡ true = rw ready.stands.holder own in
    rw (on_ok r (grabber own_kept) ok) (holder-ungrab (reverse history) client own)

-- Opening

-- the open clients have lower numbers than the next one
all_below : (d : Description) (past : List Step) → AllBelow (opens past) (clients_after d past)
all_below d past =
    let zero_plus : 0 + opens past ≡ opens past = omega arith in
    rw zero_plus at
    (All-map (λ (c : ClientView Taken). c.number < 0 + opens past) (client_after d past) (open_clients past)
    (All-filter_range (is_open past) 0 (opens past)))

opens_above : {history : List Step} {old : Present} → IsReadyFor history Open old
    → AllBelow old.opens (shown old)
opens_above {history} {old} ready =
    rw ready.stands.opens
    (subst (AllBelow (opens (reverse history))) (sym ready.stands.handler.clients)
    (all_below old.caps (reverse history)))

-- so no open client has that number
pub opens_unused : {history : List Step} {old : Present} → IsReadyFor history Open old
    → has_client old.opens old.handler.clients.list ≡ false
opens_unused {history} {old} ready = sym (has_client-on old.caps old.opens old.handler.clients.list)
    ∙ unused_above old.opens (shown old) (opens_above ready)

-- the client is new under the next number and comes last, and all else stays as it was
pub made_open : {history : List Step} {old new : Present} {places : ℕ} → IsReadyFor history Open old
    → places ≡ ring old.caps → new.caps ≡ old.caps → new.core ≡ old.core
    → new.handler.filters ≡ old.handler.filters
    → new.handler.clients.list ≡ with_client (new_client old.opens places) old.handler.clients.list
    → new.handles.holder ≡ old.handles.holder → new.opens ≡ old.opens + 1 → new.ends ≡ old.ends
    → IsAcceptedStep history Open old (Opened (length history) old.opens places) [] [] [] [] new
made_open {history} {old} {new} {places} ready ringed caps core filters clients grab opened ended =
    let past : List Step = reverse history in
    let more : opens past + 1 ≡ suc (opens past) = omega arith in
    let le : opens past ≤ opens past = omega arith in
    made_alone refl
    (cc (at_place ready, ready.stands.opens, ringed))
    (stands_called old.caps past Open old new ready.stands (permitted ready) refl
    (record {
      caps = caps;
      core = core;
      filters = filters;
      clients =
          rw (
            clients,
            with_client-on,
            with_client_above (new_client old.opens places) (shown old) (opens_above ready),
            ready.stands.handler.clients,
            ready.stands.opens,
            ringed,
          )
          (sym (clients_after-open old.caps past (ready.stands.handler.fresh (opens past) le)));
      holder = grab ∙ holder_same ready refl;
      opens = rw (opened, ready.stands.opens, more) (sym (opens-open past));
      ends = ended ∙ ready.stands.ends ∙ sym (ends-keeps past Open refl);
    }))

-- nothing changed
pub stands_same : (d : Description) (past : List Step) (old new : Present) → PresentStandsFor d past old
    → new.caps ≡ old.caps → new.core ≡ old.core → new.handler.filters ≡ old.handler.filters
    → new.handler.clients ≡ old.handler.clients
    → new.handles.holder ≡ old.handles.holder → new.opens ≡ old.opens → new.ends ≡ old.ends
    → PresentStandsFor d past new
stands_same d past old new was caps core filters clients grab opened ended = record {
  caps = caps ∙ was.caps;
  core = subst (CoreStandsFor d past) (sym core) was.core;
  made = subst (IsFor d) (sym core) was.made;
  handler = record {
    clients = rw clients was.handler.clients;
    filters = rw filters was.handler.filters;
    masks = was.handler.masks;
    fresh = was.handler.fresh;
  };
  holder = grab ∙ was.holder;
  opens = opened ∙ was.opens;
  ends = ended ∙ was.ends;
}

-- What the queries of bits have in common

pub record IsQuery (x : Step) : Type 0 where
  -- it asks the core for nothing
  pub events : makes_no_events x ≡ true
  -- it opens no client
  pub opening : is_open_step x ≡ false
  -- it ends no source
  pub ending : is_end_step x ≡ false
  -- it leaves the grab
  pub grab : leaves_grab x ≡ true

-- each of the four queries of bits is such a step
pub query : (x : Step) (client kind : ℕ) → AsksBits x client kind → IsQuery x
query (GetKeys n) client kind asks = record { events = refl; opening = refl; ending = refl; grab = refl }
query (GetSwitches n) client kind asks = record { events = refl; opening = refl; ending = refl; grab = refl }
query (GetLeds n) client kind asks = record { events = refl; opening = refl; ending = refl; grab = refl }
query (GetSounds n) client kind asks = record { events = refl; opening = refl; ending = refl; grab = refl }
query x client kind asks = absurd (cc (asks.whole))

-- the kind that is asked for is that of keys, switches, LEDs or sounds
pub kind_has_bits : (x : Step) (client kind : ℕ) → AsksBits x client kind → HasBits kind
kind_has_bits (GetKeys n) client kind asks = inl (sym (codes EV_KEY kind asks.whole))
kind_has_bits (GetSwitches n) client kind asks = inr (inl (sym (codes EV_SW kind asks.whole)))
kind_has_bits (GetLeds n) client kind asks = inr (inr (inl (sym (codes EV_LED kind asks.whole))))
kind_has_bits (GetSounds n) client kind asks = inr (inr (inr (sym (codes EV_SND kind asks.whole))))
kind_has_bits x client kind asks = absurd (cc (asks.whole))

-- none of the four kinds is EV_SYN
pub kind_not_syn : (x : Step) (client kind : ℕ) → AsksBits x client kind → kind ≢ EV_SYN
kind_not_syn (GetKeys n) client kind asks e = absurd (omega (arith, e, codes EV_KEY kind asks.whole))
kind_not_syn (GetSwitches n) client kind asks e = absurd (omega (arith, e, codes EV_SW kind asks.whole))
kind_not_syn (GetLeds n) client kind asks e = absurd (omega (arith, e, codes EV_LED kind asks.whole))
kind_not_syn (GetSounds n) client kind asks e = absurd (omega (arith, e, codes EV_SND kind asks.whole))
kind_not_syn x client kind asks e = absurd (cc (asks.whole))

-- The code's tests of a client

-- the kept clients are the open ones, so the code's test whether one is there is the past's
pub bad_client : (d : Description) (past : List Step) (p : Present) (x : Step) (client : ℕ) (is : Bool)
    → PresentStandsFor d past p → client_of x ≡ Some client → is ≡ has_client client p.handler.clients.list
    → not is ≡ is_bad_client past (client_of x)
bad_client d past p x client is stands named test =
    ap not (test ∙ sym (has_client-on d client p.handler.clients.list)
    ∙ ap (has_client client) stands.handler.clients ∙ has_client-after d past client)
    ∙ sym (ap (is_bad_client past) named)

open_there : (d : Description) (past : List Step) (p : Present) (client : ℕ) → PresentStandsFor d past p
    → has_client client p.handler.clients.list ≡ true → is_open past client ≡ true
open_there d past p client stands there =
    sym (has_client-after d past client) ∙ ap (has_client client) (sym stands.handler.clients)
    ∙ has_client-on d client p.handler.clients.list ∙ there

not_close : (x : Step) (client : ℕ) → ((n : ℕ) → x ≡ Close n → ⊥) → is_close_of client x ≡ false
not_close (Close n) client other = absurd (other n refl)
not_close x client other = refl

-- a client that is open and that the step does not close is refused where it was revoked
pub no_device : (d : Description) (past : List Step) (p : Present) (x : Step) (client : ℕ) (is : Bool)
    → PresentStandsFor d past p → client_of x ≡ Some client → has_client client p.handler.clients.list ≡ true
    → is ≡ has_revoked_client client p.handler.clients.list → ((n : ℕ) → x ≡ Close n → ⊥)
    → is ≡ is_no_device past x (client_of x)
no_device d past p x client is stands named there test other =
    rw (
      not_close x client other,
      and-true (is_revoked past client),
      ← has_revoked_client-after d past client (open_there d past p client stands there),
      ← stands.handler.clients,
      has_revoked_client-on d client p.handler.clients.list,
      ← test,
    ) at (sym (ap (is_no_device past x) named))

-- as much can be seen of the kept queue as of the past's, so both are found empty together
pub nothing_found : (d : Description) (past : List Step) (p : Present) (x : Step) (client count seen : ℕ)
    → PresentStandsFor d past p → x ≡ Read client count → has_client client p.handler.clients.list ≡ true
    → seen ≡ visible event_of_cell (events_of client p.handler.clients.list)
    → nat_eq seen 0 ≡ finds_nothing (eaten d) d past x
nothing_found d past p x client count seen stands is there test =
    rw (
      test,
      ← visible-on_clock d client p.handler.clients.list,
      stands.handler.clients,
      events_of-after d past client (open_there d past p client stands there),
      visible-map (queue d past client),
    ) (sym (ap (finds_nothing (eaten d) d past) is))

-- Before any step

-- with no step there is no client, no grab, and nothing that the filters were given
pub stands_first : (d : Description) (p : Present) → p.caps ≡ d → CoreStandsFor d [] p.core → IsFor d p.core
    → IsFreshHandler d p.handler → p.handles.holder ≡ None → p.opens ≡ 0 → p.ends ≡ 0
    → PresentStandsFor d [] p
unfolding opens ends holder mask_bit clock_of is_revoked given_in
stands_first d p caps core made handler grab opened ended = record {
  caps = caps;
  core = core;
  made = made;
  handler = record {
    clients = rw handler.clients;
    filters = handler.filters;
    masks = λ client kind index h. refl;
    fresh = λ client h. record { bits = λ kind index. refl; clock = refl; revoked = refl };
  };
  holder = grab;
  opens = opened;
  ends = ended;
}

-- what is seen of the device then
pub first_value : (p : Present) (d : Description) (steps : List Step) → p.caps ≡ d → steps ≡ []
    → stored_of p.handler.clients ≡ 0 → sends p.core ≡ false
    → (let seen : StoringView =
    record {
      description = p.caps;
      past = reverse steps;
      agains = 0;
      stored = stored_of p.handler.clients;
      sent = sends p.core;
    } in
    seen ≡ record { description = d; past = []; agains = 0; stored = 0; sent = false })
first_value p d steps caps none stored sent =
    λ i. record {
      description = caps i;
      past = reverse (none i);
      agains = 0;
      stored = stored i;
      sent = sent i;
    }
