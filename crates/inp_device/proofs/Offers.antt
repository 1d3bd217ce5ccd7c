-- Frames that are offered to a client, one after another.
use Rattle.std.proofs.Common.{◌≡◌, ℕ, ◌+◌, Bool, true, false, ◌&&◌, not, if◌then◌else◌, List, [], ◌∷◌, ◌++◌}
use Rattle.std.proofs.Common.{map, refl, sym, ap, ◌∙◌}
use Rattle.std.specs.Prelude.{filter}
use Rattle.std.proofs.lemmas.List.Elements.{filter_agree}
use Rattle.std.proofs.lemmas.Simd.{map-map}
use Rattle.inp_model.specs.declared.event.Event.{Event}
use Rattle.inp_model.specs.declared.taken.Taken.{Taken}
use Rattle.inp_model.specs.declared.step.Step.{Step}
use Rattle.inp_model.specs.Description.{Description, ring, offset}
use Rattle.inp_model.specs.Past.{is_open, is_revoked, holder, is_other, clock_of, mask_bit, admits}
use Rattle.inp_model.specs.RawItem.{Cut, Frame}
use Rattle.inp_model.specs.Frame.{place, moment, frame_of}
use Rattle.inp_model.specs.Left.{eaten, left}
use Rattle.inp_model.specs.Queue as model
use Rattle.inp_model.specs.Queue.{Entry, dropped_at, entry_dropped_at, put_all, is_offered, entry, entries_of}
use Rattle.inp_model.specs.Queue.{entries}
use Rattle.inp_model.specs.Reply.{taken_of}
use Rattle.inp_client.specs.Read.{taken_event as event_of, taken_at, admitted_events, read_after_offer}
use Rattle.inp_client.specs.Masks.{masks_with, admits_of}
use Rattle.inp_client.specs.Client.{ClientView, with_events, is_offered_to}
use Rattle.inp_device.proofs.Queues.{put_all-map}
use Rattle.inp_device.specs.Present.{EndsSet}
use Rattle.inp_device.proofs.Masks.{admits_of-with}

-- a client after a past, with this queue
abbrev pub client_with : Description → List Step → ℕ → List Entry → ClientView Taken
client_with d past client q = record {
  number = client;
  ring = record { places = ring d; events = map taken_of q };
  masks = masks_with (mask_bit past client);
  clock = clock_of past client;
  revoked = is_revoked past client;
}

-- a client after it was offered what is left of these frames
abbrev pub after_offers : Description → List Frame → ClientView Taken → ClientView Taken
after_offers d [] c = c
after_offers d (f ∷ fs) c =
    after_offers d fs (read_after_offer d (left (eaten d) f) (moment f) (place f) (holder f.before) c)

map-entry : (d : Description) (client : ℕ) (f : Frame) (es : List Event)
    → map taken_of (map (entry d client f) es)
    ≡ map (taken_at (moment f + offset d (clock_of f.before client)) (place f)) es
map-entry d client f es = map-map taken_of (entry d client f) es

-- what is admitted by the bits is what the past admits
admitted-entries : (d : Description) (client : ℕ) (f : Frame) (q : List Entry)
    → EndsSet (mask_bit f.before client)
    → admitted_events d (left (eaten d) f) (moment f) (place f) (client_with d f.before client q)
    ≡ map taken_of (map (entry d client f) (filter (admits f.before client) (left (eaten d) f)))
admitted-entries d client f q ends =
    ap (map (taken_at (moment f + offset d (clock_of f.before client)) (place f)))
    (filter_agree (admits_of (masks_with (mask_bit f.before client))) (admits f.before client)
    (λ e. admits_of-with f.before client e ends) (left (eaten d) f))
    ∙ sym (map-entry d client f (filter (admits f.before client) (left (eaten d) f)))

offer_by : (d : Description) (past : List Step) (client : ℕ) (q es : List Entry) (ts : List Taken)
    (offered : Bool) → ts ≡ map taken_of es
    → (if offered then with_events (put_all event_of dropped_at (ring d) (map taken_of q) ts)
    (client_with d past client q) else client_with d past client q)
    ≡ client_with d past client
    (put_all model.event_of entry_dropped_at (ring d) q (if offered then es else []))
offer_by d past client q es ts true e = rw (e, ← put_all-map)
offer_by d past client q es ts false e = refl

is_offered-open : (past : List Step) (client : ℕ) → is_open past client ≡ true
    → is_offered past client ≡ (not (is_revoked past client) && not (is_other (holder past) client))
is_offered-open past client is = rw is

-- one frame
after_offer-with : (d : Description) (client : ℕ) (f : Frame) (q : List Entry)
    → is_open f.before client ≡ true → EndsSet (mask_bit f.before client)
    → read_after_offer d (left (eaten d) f) (moment f) (place f) (holder f.before)
    (client_with d f.before client q)
    ≡ client_with d f.before client
    (put_all model.event_of entry_dropped_at (ring d) q (entries_of (eaten d) d client f))
after_offer-with d client f q is ends =
    let es : List Entry = map (entry d client f) (filter (admits f.before client) (left (eaten d) f)) in
    rw (
      offer_by d f.before client q es
          (admitted_events d (left (eaten d) f) (moment f) (place f) (client_with d f.before client q))
          (is_offered_to (holder f.before) (client_with d f.before client q))
          (admitted-entries d client f q ends),
      ← is_offered-open,
    )

put_all-append : (n : ℕ) (q xs ys : List Entry)
    → put_all model.event_of entry_dropped_at n q (xs ++ ys)
    ≡ put_all model.event_of entry_dropped_at n (put_all model.event_of entry_dropped_at n q xs) ys
put_all-append n q [] ys = refl
put_all-append n q (x ∷ xs) ys = put_all-append n (model.put model.event_of entry_dropped_at n q x) xs ys

-- all frames of a step
pub after_offers-with : (d : Description) (past : List Step) (client : ℕ) (x : Step) (cs : List Cut)
    (q : List Entry) → is_open past client ≡ true → EndsSet (mask_bit past client)
    → after_offers d (map (frame_of past x) cs) (client_with d past client q)
    ≡ client_with d past client
    (put_all model.event_of entry_dropped_at (ring d) q (entries d client (map (frame_of past x) cs)))
after_offers-with d past client x [] q is ends = refl
after_offers-with d past client x (c ∷ cs) q is ends =
    let first : List Entry = entries_of (eaten d) d client (frame_of past x c) in
    ap (after_offers d (map (frame_of past x) cs)) (after_offer-with d client (frame_of past x c) q is ends)
    ∙ after_offers-with d past client x cs (put_all model.event_of entry_dropped_at (ring d) q first) is ends
    ∙ ap (client_with d past client)
    (sym (put_all-append (ring d) q first (entries d client (map (frame_of past x) cs))))
