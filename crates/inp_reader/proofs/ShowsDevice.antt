-- The view of a reader that stands is the device's state.
use Rattle.std.proofs.Common.{◌≡◌, ◌<◌, inl, inr, ℕ, zero, suc, ◌+◌, nat_eq, nat_lt, Bool, true, false, ◌&&◌}
use Rattle.std.proofs.Common.{not, List, [], ◌∷◌, ◌++◌, length, map, take, replicate, refl, sym, ap, ◌∙◌}
use Rattle.std.proofs.Common.{arith, append_assoc, length-append, pos, Some}
use Rattle.std.specs.Prelude.{slice_index_or}
use Rattle.std.specs.List.{slice_get}
use Rattle.std.proofs.lemmas.Bool.{true≢false, and_left, cases_lt, cases_Bool, lt-ltb}
use Rattle.std.proofs.lemmas.List.{length-map, take_at, get_or_at, get_or_past, nil_from_length}
use Rattle.std.proofs.lemmas.Option.{slice_get-get_or}
use Rattle.inp_model.specs.declared.event.Event.{Event}
use Rattle.inp_model.specs.declared.event.TheConstants.{EV_KEY, EV_ABS, EV_SW, EV_LED}
use Rattle.inp_model.specs.declared.taken.Taken.{Taken}
use Rattle.inp_model.specs.declared.step.Step.{Step}
use Rattle.inp_model.specs.Description.{Description, IsDescription, has_kind, has_code}
use Rattle.inp_model.specs.Event.{is_multi_touch}
use Rattle.inp_model.specs.State.{key_down, turned_on}
use Rattle.inp_model.specs.Queue.{took}
use Rattle.inp_model.specs.Reply.{taken_of, rows}
use Rattle.inp_recon.specs.declared.view.View.{View}
use Rattle.inp_recon.specs.View.{IsSizedFor, first_view, view_after_event, view_after_events}
use Rattle.inp_recon.specs.ClientView.{ReadEntry, read_entries, view_at}
use Rattle.inp_recon.proofs.ReadEntries.{entry-of}
use Rattle.inp_model.specs.RawItem.{RawItem}
use Rattle.inp_model.specs.Left.{eaten}
use Rattle.inp_model.proofs.Descriptions.{get_or-replicate_same}
use Rattle.inp_model.specs.History.{IsHistory}
use Rattle.inp_recon.specs.Faithful.{IsDeviceState, AreFaithful}
use Rattle.inp_recon.proofs.Sizes.{IsSizedFor-first_view, length-axes_after_event, length-cells_after_event}
use Rattle.inp_reader.specs.Reader.{ReaderState, queries}
use Rattle.inp_reader.specs.TrueView.{index_handed_out, ShowsTheDevice}
use Rattle.inp_recon.specs.Synchronised.{has_axis}
use Rattle.inp_reader.specs.Spare.{IsSpare}
use Rattle.inp_reader.specs.ReaderPlace.{IsInStep, calls_since, steps_of, view_after_answers, taken_by_calls}
use Rattle.inp_reader.specs.ReaderPlace.{taken_events}
use Rattle.inp_reader.proofs.SpareAgrees.{never_down, never_on}
use Rattle.inp_reader.proofs.StandsAfterTalks.{IsHandedOut}
use Rattle.inp_reader.proofs.AgreedViews.{Compared, set-in-both, AgreeBut, agree-answers, keys-spared}
use Rattle.inp_reader.proofs.AgreedViews.{switches-spared, leds-spared, slots-spared, plain-asked}
use Rattle.inp_reader.proofs.ClientViews.{view_at_start, taken_at_start, took-since, length-took}
use Rattle.inp_reader.proofs.ClientViews.{view_at-behind, taken-behind, since-good, good-first}
use Rattle.inp_reader.proofs.ClientViews.{sized-at-start}
use Rattle.inp_recon.proofs.ViewSteps.{length-rows}

-- the index of an item is the number of items before it
pub at-it : (xs ys zs : List Taken) (t : Taken) (i : ℕ) → i ≡ length xs + length ys
    → slice_get (xs ++ ((ys ++ t ∷ []) ++ zs)) i ≡ Some t
at-it xs ys zs t i h =
    let same : xs ++ ((ys ++ t ∷ []) ++ zs) ≡ (xs ++ ys) ++ t ∷ zs =
    rw append_assoc (sym (append_assoc xs ys (t ∷ zs))) in
    let there : length (xs ++ ys) ≡ i = length-append xs ys ∙ sym h in
    rw (
      same,
      slice_get-get_or ((xs ++ ys) ++ t ∷ zs) i t
          (omega (arith, there, length-append (xs ++ ys) (t ∷ zs))),
      get_or_at,
    )

-- A reader that handed out this event last.
module _ (d : Description) (past : List Step) (r : ReaderState) (t : Taken) (h : IsHandedOut d past r t)
    (history : IsHistory d past) where
  -- all that its client took since its start
  taken-since : taken_by_calls (calls_since d past r.client) ≡ (h.before ++ t ∷ []) ++ r.queue
  taken-since =
      let i : IsInStep d past r = h.in_step in
      rw (taken-behind d past r.client i.asked i.reads history i.calls i.queries, i.taken, h.handed)

  index-is : index_handed_out d past r ≡ length (taken_at_start d past r.client) + length h.before
  index-is =
      omega (
        arith,
        length-took d past r.client history,
        ap length taken-since,
        length-append (h.before ++ t ∷ []) r.queue,
        length-append h.before (t ∷ []),
      )

  -- what the client took ends with the queue, and before it stands the event handed out last
  pub handed-is-taken : slice_get (map taken_of (took d past r.client)) (index_handed_out d past r) ≡ Some t
  handed-is-taken =
      rw (took-since d past r.client history, taken-since)
      (at-it (map taken_of (taken_at_start d past r.client)) h.before r.queue t (index_handed_out d past r)
      (rw (index-is, ← length-map (taken_at_start d past r.client) taken_of)))

  -- the client's view then: the same answers and events, from the view at its start
  view-then : (at : ReadEntry)
      → slice_get (read_entries d past r.client) (index_handed_out d past r) ≡ Some at
      → view_at d r.client at ≡ view_after_events
      (view_after_answers (view_at_start d past r.client) h.in_step.asked) (taken_events h.in_step.handed)
  view-then at is =
      let i : IsInStep d past r = h.in_step in
      let j : ℕ = length h.before in
      let front : length i.handed ≡ suc j = rw (h.handed, length-append) (omega arith) in
      let below : j < length (taken_by_calls i.reads) =
      omega (arith, front, ap length i.taken, length-append i.handed r.queue) in
      let first : take (suc j) (taken_by_calls i.reads) ≡ i.handed =
      rw i.taken (take_at i.handed r.queue (suc j) front) in
      rw (
        view_at-behind d past r.client i.asked i.reads history i.calls i.queries j at i.reads_only below
            (rw (← index-is) is),
        first,
      )

-- Two views that agree in what the device has

abbrev pub what_is_had : Description → Compared
what_is_had d =
    record {
      keys = has_kind d EV_KEY;
      switches = has_kind d EV_SW;
      leds = has_kind d EV_LED;
      axes = has_axis d;
      slots = nat_lt 0 d.slots;
    }

-- all of it is asked for
agree-had : (d : Description) (client : ℕ) (v w : View) → IsSizedFor d.slots v → IsSizedFor d.slots w
    → AgreeBut (what_is_had d) (queries d client) v w
agree-had d client v w s t = record {
  keys = λ is h. absurd (cc (keys-spared d client h));
  switches = λ is h. absurd (cc (switches-spared d client h));
  leds = λ is h. absurd (cc (leds-spared d client h));
  axes = λ code is h. elim (cases_lt code 64) [
    | inl below ↦ absurd (cc (plain-asked d client code h below))
    | inr past ↦ get_or_past v.axes code (pos 0) (omega (arith, past, s.axes))
        ∙ sym (get_or_past w.axes code (pos 0) (omega (arith, past, t.axes)))
  ];
  slot = λ is h. absurd (true≢false (rw (← is, slots-spared d client h)));
  cells = λ is h. absurd (true≢false (rw (← is, slots-spared d client h)));
  left_long = s.axes;
  right_long = t.axes;
  cells_long = s.cells ∙ sym t.cells;
}

agree-event : (which : Compared) (v w : View) (e : Event) → AgreeBut which [] v w
    → AgreeBut which [] (view_after_event v e) (view_after_event w e)
unfolding view_after_event
agree-event which v w e a = record {
  keys = λ is h. rw (a.keys is h);
  switches = λ is h. rw (a.switches is h);
  leds = λ is h. rw (a.leds is h);
  axes = λ code is h. elim (cases_Bool (nat_eq e.kind EV_ABS && not (is_multi_touch e))) [
    | inl sets ↦ rw sets
        (set-in-both v.axes w.axes e.code code e.value a.left_long a.right_long (λ other. a.axes code is h))
    | inr stays ↦ rw stays (a.axes code is h)
  ];
  slot = λ is h. rw (a.slot is h);
  cells = λ is h. rw (a.cells is h, a.slot is h);
  left_long = length-axes_after_event v.axes e ∙ a.left_long;
  right_long = length-axes_after_event w.axes e ∙ a.right_long;
  cells_long =
      length-cells_after_event v.cells v.slot e ∙ a.cells_long
      ∙ sym (length-cells_after_event w.cells w.slot e);
}

-- each event sets the same in both views, so they agree in what they agreed in before
pub agree-events : (which : Compared) (v w : View) (es : List Event) → AgreeBut which [] v w
    → AgreeBut which [] (view_after_events v es) (view_after_events w es)
unfolding view_after_events
agree-events which v w [] a = a
agree-events which v w (e ∷ es) a =
    agree-events which (view_after_event v e) (view_after_event w e) es (agree-event which v w e a)

-- the client's view and the reader's agree in all that the device has
pub agree-then : (d : Description) (past : List Step) (r : ReaderState) (t : Taken) (at : ReadEntry)
    → IsHandedOut d past r t → IsHistory d past
    → slice_get (read_entries d past r.client) (index_handed_out d past r) ≡ Some at
    → AgreeBut (what_is_had d) [] (view_at d r.client at) r.view
agree-then d past r t at h history is =
    let i : IsInStep d past r = h.in_step in
    let base : View = view_at_start d past r.client in
    let good = good-first d i.asked i.reads (rw i.calls at (since-good d past r.client history)) in
    let begun : AgreeBut (what_is_had d) (steps_of i.asked) base (first_view d) =
    rw i.queries (agree-had d r.client base (first_view d) (sized-at-start d past r.client)
    (IsSizedFor-first_view d)) in
    let told =
    agree-answers (what_is_had d) d i.asked base (first_view d) good.0 good.1
    (sized-at-start d past r.client).cells begun in
    rw (view-then d past r t h history at is, i.view)
    (agree-events (what_is_had d) (view_after_answers base i.asked)
    (view_after_answers (first_view d) i.asked) (taken_events i.handed) told)

-- What the device cannot have is off

-- a device without keys has no key code, and a code that it has not is never on
pub no-key-down : (d : Description) (r : List RawItem) (code : ℕ) → has_kind d EV_KEY ≡ false
    → key_down d r code ≡ false
no-key-down d r code h = never_down d r code (and_left (has_kind d EV_KEY) (has_code d EV_KEY code) h)

-- a type that the device has not has no code, and a code that it has not is never on
pub nothing-on : (d : Description) (r : List RawItem) (kind code : ℕ) → has_kind d kind ≡ false
    → turned_on d r kind code ≡ false
nothing-on d r kind code h = never_on d r kind code (and_left (has_kind d kind) (has_code d kind code) h)

flag-shown : (had on : Bool) (v w : List Bool) (n code : ℕ) → (had ≡ true → v ≡ w)
    → (had ≡ false → w ≡ replicate n false) → (had ≡ false → on ≡ false) → slice_index_or v code false ≡ on
    → slice_index_or w code false ≡ on
flag-shown true on v w n code same none off h = rw (← same) h
flag-shown false on v w n code same none off h = rw (none, get_or-replicate_same) (sym (off refl))

-- All values

state-shown : (d : Description) (r : List RawItem) (v w : View) → AgreeBut (what_is_had d) [] v w
    → IsSpare d w → IsDeviceState d r v → IsDeviceState d r w
state-shown d r v w a s h = record {
  keys = λ code. flag-shown (has_kind d EV_KEY) (key_down d r code) v.keys w.keys 768 code
      (λ is. a.keys is refl) s.keys (no-key-down d r code) (h.keys code);
  switches = λ code. flag-shown (has_kind d EV_SW) (turned_on d r EV_SW code) v.switches w.switches 64 code
      (λ is. a.switches is refl) s.switches (nothing-on d r EV_SW code) (h.switches code);
  leds = λ code. flag-shown (has_kind d EV_LED) (turned_on d r EV_LED code) v.leds w.leds 64 code
      (λ is. a.leds is refl) s.leds (nothing-on d r EV_LED code) (h.leds code);
  axes = λ code has. sym (a.axes code has refl) ∙ h.axes code has;
  cells = by d.slots refl;
  slot = λ some. sym (a.slot (lt-ltb 0 d.slots some) refl) ∙ h.slot some;
}
  where
    by : (n : ℕ) → d.slots ≡ n → w.cells ≡ rows d r
    by zero none =
        nil_from_length w.cells (omega (arith, none, s.sized.cells))
        ∙ sym (nil_from_length (rows d r) (omega (arith, none, length-rows d r)))
    by (suc n) some = sym (a.cells (rw some (lt-ltb 0 (suc n) (omega arith))) refl) ∙ h.cells

-- a reader that handed out an event shows the device, where every history is faithful to every client
pub shows-device : AreFaithful → (d : Description) (past : List Step) (r : ReaderState) (t : Taken)
    → IsDescription d → IsHistory d past → IsSpare d r.view → IsHandedOut d past r t
    → ShowsTheDevice d past r t
shows-device law d past r t is history spare h =
    let e =
    entry-of (eaten d) d past r.client (index_handed_out d past r) t (handed-is-taken d past r t h history) in
    record {
      at = e.at;
      is_at = e.is_at;
      is_taken = e.is_taken;
      shows = λ f report followed.
          state-shown d f.cut.until (view_at d r.client e.at) r.view
          (agree-then d past r t e.at h history e.is_at) spare
          (law (eaten d) d past r.client is history
          (index_handed_out d past r) e.at f e.is_at report followed);
    }
