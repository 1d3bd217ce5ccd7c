-- The frames of a step that were passed to the handler: what came to the filters, and what was offered of
-- them.
use Rattle.std.proofs.Common.{◌≡◌, ◌⊎◌, ℕ, ◌+◌, true, false, ◌||◌, if◌then◌else◌, List, [], ◌∷◌, length, map}
use Rattle.std.proofs.Common.{refl, sym, ap, ◌∙◌, Option, Some, None, inl, inr, arith}
use Rattle.std.proofs.lemmas.Bool.{or_left, or_right}
use Rattle.std.specs.Prelude.{is_some, sum_by}
use Rattle.std.proofs.lemmas.List.{map-id}
use Rattle.std.proofs.lemmas.List.Sums.{sum_by-cons}
use Rattle.inp_model.specs.declared.event.Event.{Event}
use Rattle.inp_model.specs.declared.step.Step.{Step}
use Rattle.inp_model.specs.declared.step.Step.TheVariants.{Inject, Tick, Write, Inhibit}
use Rattle.inp_model.specs.Description.{Description}
use Rattle.inp_model.specs.Step.{moment_of}
use Rattle.inp_model.specs.Past.{holder}
use Rattle.inp_model.specs.Filter.{Timed}
use Rattle.inp_model.specs.RawItem.{Cut, Frame}
use Rattle.inp_model.specs.Cut.{cuts}
use Rattle.inp_model.specs.Raw.{raw_of_step}
use Rattle.inp_model.specs.Frame.{cuts_of_step, frame_of, frames_of_step}
use Rattle.inp_model.specs.Left.{given_by, given_in, given_before, eaten, left}
use Rattle.inp_filter.specs.FilterState.{FiltersStandFor}
use Rattle.inp_filter.proofs.LeftOfFrames.{left-let_through, left-held}
use Rattle.inp_filter.proofs.GivenBefore.{AreGiven, all_given}
use Rattle.inp_frames.specs.Frames.{TakesAll}
use Rattle.inp_frames.proofs.KeptCore.{makes_no_events}
use Rattle.inp_client.specs.Client.{after_offer}
use Rattle.inp_client.specs.Clients.{ClientsView}
use Rattle.inp_client.specs.Read.{clients_on, read_after_offer}
use Rattle.inp_client.proofs.Lists.{either_same, map_over}
use Rattle.inp_client.proofs.OnClock.{clients_on-map, on_offer}
use Rattle.inp_device.specs.declared.handler.Handler.{Handler}
use Rattle.inp_device.specs.Device.{offered_count}
use Rattle.inp_device.specs.Handler.{IsAfterFrame, offered_of, given_with}
use Rattle.inp_device.proofs.Growth.{AreGrown, grown_by_frame, are_grown_then, grown_more}
use Rattle.inp_device.proofs.Offers.{after_offers}
use Rattle.inp_device.proofs.Calls.{makes_events, leaves_clients}

-- What came to the filters

-- a step that stands for no raw events ends no frame
cuts-none : (d : Description) (past : List Step) (x : Step) → makes_events x ≡ false
    → cuts_of_step d past x ≡ []
unfolding raw_of_step cuts
cuts-none d past (Inject e now) h = absurd (cc h)
cuts-none d past (Write client e now) h = absurd (cc h)
cuts-none d past (Tick now) h = absurd (cc h)
cuts-none d past (Inhibit now) h = absurd (cc h)
cuts-none d past _ h = refl

given_in-none : (d : Description) (past : List Step) (x : Step) → makes_events x ≡ false
    → given_in d (x ∷ past) ≡ given_in d past
unfolding given_in
given_in-none d past x h = rw cuts-none (either_same (is_some (holder past)) (given_in d past))

events_none : (x : Step) → (makes_no_events x || leaves_clients x) ≡ true → makes_events x ≡ false
events_none (Inject e now) h = absurd (cc h)
events_none (Write client e now) h = absurd (cc h)
events_none (Tick now) h = absurd (cc h)
events_none (Inhibit now) h = absurd (cc h)
events_none _ h = refl

-- the filters are as before, and nothing came to them
module _ (d : Description) (past : List Step) (x : Step) (old new : Handler)
    (same : new.filters ≡ old.filters)
    (was : FiltersStandFor d.filters (given_in d past) old.filters.kept) where
  kept_filters : makes_events x ≡ false → FiltersStandFor d.filters (given_in d (x ∷ past)) new.filters.kept
  kept_filters h = rw (given_in-none, same) was

  -- a step that asks the core for nothing ends no frame, so nothing came to the filters
  pub filters-called : makes_no_events x ≡ true
      → FiltersStandFor d.filters (given_in d (x ∷ past)) new.filters.kept
  filters-called h = kept_filters (events_none x (or_left (makes_no_events x) (leaves_clients x) h))

  -- a step that leaves the clients ends no frame, so nothing came to the filters
  pub filters-left : leaves_clients x ≡ true
      → FiltersStandFor d.filters (given_in d (x ∷ past)) new.filters.kept
  filters-left h = kept_filters (events_none x (or_right (makes_no_events x) (leaves_clients x) h))

-- What was offered

-- of one frame, what is left of it
offered-left : (d : Description) (past : List Step) (x : Step) (c : Cut) (given : List Timed) (o : Option ℕ)
    → holder past ≡ o → (o ≡ None → given_before d (frame_of past x c) ≡ given)
    → offered_of o d.filters (moment_of x) given c.events ≡ left (eaten d) (frame_of past x c)
offered-left d past x c given None h same = rw (← same) (sym (left-let_through d (frame_of past x c) h))
offered-left d past x c given (Some client) h same = sym (left-held d (frame_of past x c) client h)

-- what the first filter was given after these frames of a step
abbrev given_of : Option ℕ → ℕ → List Timed → List Cut → List Timed
given_of o now given [] = given
given_of o now given (c ∷ cs) = given_of o now (given_with o now given c.events) cs

given_of-frames : (past : List Step) (x : Step) (cs : List Cut) (given : List Timed)
    → given_of None (moment_of x) given cs ≡ given_by (map (frame_of past x) cs) given
given_of-frames past x [] given = refl
given_of-frames past x (c ∷ cs) given =
    given_of-frames past x cs (given_with None (moment_of x) given c.events)

given_of-held : (client now : ℕ) (given : List Timed) (cs : List Cut)
    → given_of (Some client) now given cs ≡ given
given_of-held client now given [] = refl
given_of-held client now given (c ∷ cs) = given_of-held client now given cs

given_of-step : (d : Description) (past : List Step) (x : Step) (o : Option ℕ)
    → given_of o (moment_of x) (given_in d past) (cuts_of_step d past x)
    ≡ (if is_some o then given_in d past else given_by (frames_of_step d past x) (given_in d past))
given_of-step d past x None = given_of-frames past x (cuts_of_step d past x) (given_in d past)
given_of-step d past x (Some client) =
    given_of-held client (moment_of x) (given_in d past) (cuts_of_step d past x)

-- how the handler takes frames
abbrev pub takes : Handler → List Event → ℕ → Handler → Type 0
takes before events now after = IsAfterFrame before events now after

-- the handler knows the step whose frames come, and its filters were given these events
record IsBegun (d : Description) (past : List Step) (given : List Timed) (h : Handler) : Type 0 where
  place : h.place ≡ length past
  holder_is : h.holder ≡ holder past
  filters : FiltersStandFor d.filters given h.filters.kept

-- how many events are left of these frames of a step
abbrev left_count : Description → List Step → Step → List Cut → ℕ
left_count d past x cs = sum_by (λ (f : Frame). length (left (eaten d) f)) (map (frame_of past x) cs)

-- these frames of a step came to the filters, and what is left of them was offered
record AreOffered (d : Description) (past : List Step) (x : Step) (given : List Timed) (cs : List Cut)
    (old new : Handler) : Type 0 where
  clients : clients_on d new.clients.list
      ≡ map (after_offers d (map (frame_of past x) cs)) (clients_on d old.clients.list)
  grown : (new.clients ≡ old.clients)
      ⊎ AreGrown (left_count d past x cs) (length past) old.clients new.clients
  filters : FiltersStandFor d.filters (given_of (holder past) (moment_of x) given cs) new.filters.kept

-- one frame
module _ (d : Description) (past : List Step) (x : Step) (given : List Timed) (c : Cut) (old mid : Handler)
    (begun : IsBegun d past given old) (same : holder past ≡ None
    → given_before d (frame_of past x c) ≡ given) (first : IsAfterFrame old c.events (moment_of x) mid) where
  offered_is : offered_of old.holder d.filters (moment_of x) given c.events
      ≡ left (eaten d) (frame_of past x c)
  offered_is = rw begun.holder_is (offered-left d past x c given (holder past) refl same)

  first_grown : AreGrown (length (left (eaten d) (frame_of past x c))) (length past) old.clients mid.clients
  first_grown =
      rw offered_is at
      (rw begun.place at
      (grown_by_frame (offered_of old.holder d.filters (moment_of x) given c.events)
      (moment_of x) old.place old.holder old.clients mid.clients
      (first.clients d.filters given begun.filters) (first.once d.filters given begun.filters)))

  first_offered : clients_on d mid.clients.list
      ≡ map (read_after_offer d (left (eaten d) (frame_of past x c)) (moment_of x) (length past)
      (holder past)) (clients_on d old.clients.list)
  first_offered =
      let now : ℕ = moment_of x in
      rw (first.clients d.filters given begun.filters, offered_is, begun.place, begun.holder_is)
      (clients_on-map d (after_offer (left (eaten d) (frame_of past x c)) now (length past) (holder past))
      (read_after_offer d (left (eaten d) (frame_of past x c)) now (length past) (holder past))
      (on_offer d (left (eaten d) (frame_of past x c)) now (length past) (holder past)) old.clients.list)

  first_begun : IsBegun d past (given_with (holder past) (moment_of x) given c.events) mid
  first_begun = record {
    place = first.place ∙ begun.place;
    holder_is = first.holder ∙ begun.holder_is;
    filters = rw begun.holder_is at (first.filters d.filters given begun.filters);
  }

-- what was given behind a frame, where nobody holds the grab
next_given : (d : Description) (past : List Step) (x : Step) (given : List Timed) (c : Cut) (cs : List Cut)
    (o : Option ℕ) → (o ≡ None → AreGiven d past x (c ∷ cs) given) → o ≡ None
    → AreGiven d past x cs (given_with o (moment_of x) given c.events)
next_given d past x given c cs None are h = (are refl).1
next_given d past x given c cs (Some client) are h = absurd (cc h)

-- by one frame and then by the others
frames_grown : (d : Description) (past : List Step) (x : Step) (c : Cut) (cs : List Cut)
    (old mid new : ClientsView) → AreGrown (length (left (eaten d) (frame_of past x c))) (length past) old mid
    → (new ≡ mid) ⊎ AreGrown (left_count d past x cs) (length past) mid new
    → AreGrown (left_count d past x (c ∷ cs)) (length past) old new
frames_grown d past x c cs old mid new first rest =
    let sum : left_count d past x (c ∷ cs)
    ≡ length (left (eaten d) (frame_of past x c)) + left_count d past x cs =
    sum_by-cons (λ (f : Frame). length (left (eaten d) f)) (frame_of past x c) (map (frame_of past x) cs) in
    elim rest [
      | inl same ↦ grown_more (length (left (eaten d) (frame_of past x c))) (left_count d past x (c ∷ cs))
          (length past) old new (omega (arith, sum)) (rw same first)
      | inr more ↦ rw sum
          (are_grown_then (length (left (eaten d) (frame_of past x c))) (left_count d past x cs)
          (length past) old mid new first more)
    ]

took_all : (d : Description) (past : List Step) (x : Step) (given : List Timed) (cs : List Cut)
    (old new : Handler) → IsBegun d past given old → (holder past ≡ None → AreGiven d past x cs given)
    → TakesAll takes (moment_of x) cs old new → AreOffered d past x given cs old new
took_all d past x given [] old new begun are took = record {
  clients = rw took (sym (map-id (clients_on d old.clients.list)));
  grown = inl (rw took);
  filters = rw took begun.filters;
}
took_all d past x given (c ∷ cs) old new begun are took =
    let f : Frame = frame_of past x c in
    let first = first_offered d past x given c old took.0 begun (λ h. (are h).0) took.1 in
    let rest =
    took_all d past x (given_with (holder past) (moment_of x) given c.events) cs took.0 new
    (first_begun d past x given c old took.0 begun (λ h. (are h).0) took.1)
    (next_given d past x given c cs (holder past) are) took.2 in
    record {
      clients = rest.clients
          ∙ ap (map (after_offers d (map (frame_of past x) cs))) first
          ∙ sym (map_over (after_offers d (map (frame_of past x) (c ∷ cs)))
          (read_after_offer d (left (eaten d) f) (moment_of x) (length past) (holder past))
          (after_offers d (map (frame_of past x) cs)) (clients_on d old.clients.list) (λ j e in_j. refl));
      grown =
          inr (frames_grown d past x c cs old.clients took.0.clients new.clients
          (first_grown d past x given c old took.0 begun (λ h. (are h).0) took.1) rest.grown);
      filters = rest.filters;
    }

-- all frames of a step
pub record IsPassed (d : Description) (past : List Step) (x : Step) (old new : Handler) : Type 0 where
  -- each client was offered what the filters left of the step's frames
  pub clients : clients_on d new.clients.list
      ≡ map (after_offers d (frames_of_step d past x)) (clients_on d old.clients.list)
  -- the rings took no more numbers than events were offered, but for one at each loss
  pub grown : (new.clients ≡ old.clients)
      ⊎ AreGrown (offered_count d past x) (length past) old.clients new.clients
  -- the filters stand for all that they were given, with what the step gave them
  pub filters : FiltersStandFor d.filters (given_in d (x ∷ past)) new.filters.kept

-- the handler took one frame after another, and each is offered as the definition says
pub passed_all : (d : Description) (past : List Step) (x : Step) (old new : Handler) → old.place ≡ length past
    → old.holder ≡ holder past → FiltersStandFor d.filters (given_in d past) old.filters.kept
    → TakesAll takes (moment_of x) (cuts_of_step d past x) old new → IsPassed d past x old new
unfolding given_in
passed_all d past x old new place held was took =
    let all =
    took_all d past x (given_in d past) (cuts_of_step d past x) old new
    (record { place = place; holder_is = held; filters = was }) (λ h. all_given d past x) took in
    record {
      clients = all.clients;
      grown = all.grown;
      filters = rw given_of-step at all.filters;
    }
