-- What a step makes of the view of a client: its sizes, and one of its values at a time.
use Rattle.std.proofs.Common.{◌≡◌, ◌<◌, ℕ, ◌*◌, ℤ, pos, true, false, if◌then◌else◌, cond, nat_eq, List, []}
use Rattle.std.proofs.Common.{◌∷◌, length, map, get_or, refl, sym, arith, length-append, inl, inr}
use Rattle.std.specs.List.{flat_map}
use Rattle.std.proofs.lemmas.Bool.{cases_Bool, cond_both, false_from_ne_true, eqb-true, eqb-false, lt-ltb}
use Rattle.std.proofs.lemmas.Bool.{le-ltb, cases_lt}
use Rattle.std.proofs.lemmas.List.{get_or-set_same, get_or-set_other}
use Rattle.std.proofs.lemmas.List.FromFn.{length-map-range_with_len, length-range_with_len}
use Rattle.inp_model.specs.declared.multi_touch.TheConstants.{ABS_MT_TOUCH_MAJOR}
use Rattle.inp_model.specs.declared.event.Event.{Event}
use Rattle.inp_model.specs.declared.step.Step.{Step}
use Rattle.inp_model.specs.declared.step.Step.TheVariants.{SyncSlots}
use Rattle.inp_model.specs.Description.{Description}
use Rattle.inp_model.specs.RawItem.{RawItem}
use Rattle.inp_model.specs.State.{cell}
use Rattle.inp_model.specs.Step.{client_of, is_same}
use Rattle.inp_model.specs.Left.{Eats, eaten}
use Rattle.inp_model.specs.Queue.{event_of, taken_by_with}
use Rattle.inp_model.specs.Raw.{raw}
use Rattle.inp_model.specs.Reply.{accepted_with, row, rows}
use Rattle.inp_recon.specs.declared.view.View.{View}
use Rattle.inp_recon.specs.View.{IsSizedFor, HasCells, with_value_at, view_after_event, view_after_events}
use Rattle.inp_recon.specs.View.{view_after_answer}
use Rattle.inp_recon.specs.ClientView.{client_view_with, client_view}
use Rattle.inp_recon.specs.Synchronised.{Part, asks_for}
use Rattle.inp_recon.proofs.Over.{over}
use Rattle.inp_recon.proofs.Sizes.{IsSizedFor-first_view, IsSizedFor-after_event, IsSizedFor-after_events}
use Rattle.inp_recon.proofs.Sizes.{IsSizedFor-after_answer}
use Rattle.inp_recon.proofs.CallsLeft.{not_taken, part-asked}
use Rattle.inp_recon.proofs.QueuedValues.{over_queue}

-- ---- sizes

length-rows_of : (d : Description) (r : List RawItem) (slots : List ℕ)
    → length (flat_map (row d r) slots) ≡ 14 * length slots
length-rows_of d r [] = refl
length-rows_of d r (slot ∷ slots) =
    let one : length (row d r slot) ≡ 14 =
    length-map-range_with_len (λ code. cell d r (pos slot) code) ABS_MT_TOUCH_MAJOR 14 in
    rw (length-append, one, length-rows_of d r slots) (omega arith)

pub length-rows : (d : Description) (r : List RawItem) → length (rows d r) ≡ 14 * d.slots
length-rows d r = rw (length-rows_of, length-range_with_len)

-- the cells that are told are as many as the view has
room : (eats : Eats) (d : Description) (past : List Step) (client : ℕ) (x : Step) (cells : List ℤ)
    → length cells ≡ 14 * d.slots
    → HasCells x (accepted_with eats d past x).reply cells (accepted_with eats d past x).cells
room eats d past client (SyncSlots named) cells h = omega (arith, h, length-rows d (raw d past))
room eats d past client x cells h = tt

-- a view after the answer to a step
abbrev pub view_answered : Eats → Description → List Step → Step → View → View
view_answered eats d past x v =
    view_after_answer v x (accepted_with eats d past x).reply (accepted_with eats d past x).cells

pub client_view_with-sized : (eats : Eats) (d : Description) (past : List Step) (client : ℕ)
    → IsSizedFor d.slots (client_view_with eats d past client)
unfolding client_view_with
client_view_with-sized eats d [] client = IsSizedFor-first_view d
client_view_with-sized eats d (x ∷ past) client =
    let v : View = client_view_with eats d past client in
    let h : IsSizedFor d.slots v = client_view_with-sized eats d past client in
    let next : View = view_after_events v (map event_of (taken_by_with eats d past client x)) in
    let k : IsSizedFor d.slots next = IsSizedFor-after_events d.slots v _ h in
    cond_both (is_same (client_of x) client) (view_answered eats d past x next) v (IsSizedFor d.slots)
    (λ _. IsSizedFor-after_answer d.slots next x (accepted_with eats d past x).reply
    (accepted_with eats d past x).cells (room eats d past client x next.cells k.cells) k) (λ _. h)

pub client_view-sized : (d : Description) (past : List Step) (client : ℕ)
    → IsSizedFor d.slots (client_view d past client)
client_view-sized d = client_view_with-sized (eaten d) d

-- ---- one value of a view

-- events change the value by t
abbrev pub ByEvents : {V : Type 0} → Description → (V → Event → V) → (View → V) → Type 0
ByEvents d t get = (v : View) (e : Event) → IsSizedFor d.slots v → get (view_after_event v e) ≡ t (get v) e

-- the answer that the client gets to what it asks of the part tells the value, and other answers leave it
abbrev pub ByAnswers : {V : Type 0} → Eats → Description → ℕ → Part → (List RawItem → V) → (View → V) → Type 0
ByAnswers eats d client part told get =
    (past : List Step) (x : Step) (v : View) → IsSizedFor d.slots v → is_same (client_of x) client ≡ true
    → get (view_answered eats d past x v) ≡ cond (asks_for part client x) (told (raw d past)) (get v)

-- a step changes the value of a past by what the client takes, or tells it
abbrev pub BySteps : {V : Type 0} → Eats → Description → ℕ → (V → Event → V) → Part → (List RawItem → V)
    → (List Step → V) → Type 0
BySteps eats d client t part told b =
    (past : List Step) (x : Step)
    → b (x ∷ past) ≡ cond (asks_for part client x) (told (raw d past))
    (over_queue t (b past) (taken_by_with eats d past client x))

module _ (eats : Eats) (d : Description) (client : ℕ) {V : Type 0} (t : V → Event → V) (part : Part)
    (told : List RawItem → V) (get : View → V)
    (events : ByEvents d t get) (answers : ByAnswers eats d client part told get) where
  pub get-after_events : (v : View) (es : List Event) → IsSizedFor d.slots v
      → get (view_after_events v es) ≡ over t (get v) es
  unfolding view_after_events
  get-after_events v [] h = refl
  get-after_events v (e ∷ es) h =
      rw (get-after_events (view_after_event v e) es (IsSizedFor-after_event d.slots v e h), events v e h)

  not_asked : (x : Step) → is_same (client_of x) client ≡ false → asks_for part client x ≡ false
  not_asked x h = false_from_ne_true (asks_for part client x) (λ e. cc ((part-asked part client x e).own, h))

  pub get-follows : BySteps eats d client t part told (λ past. get (client_view_with eats d past client))
  unfolding client_view_with
  get-follows past x =
      let v : View = client_view_with eats d past client in
      let es : List Event = map event_of (taken_by_with eats d past client x) in
      let h : IsSizedFor d.slots v = client_view_with-sized eats d past client in
      elim (cases_Bool (is_same (client_of x) client)) [
        | inl own ↦ rw (
          own,
          answers past x (view_after_events v es) (IsSizedFor-after_events d.slots v es h) own,
          get-after_events v es h,
        )
        | inr other ↦ rw (other, not_taken eats d past client x other, not_asked x other)
      ]

-- ---- a list with another value at an index

pub get_or-with_value_at : {X : Type 0} (count : ℕ) (values : List X) (index code : ℕ) (value default : X)
    → length values ≡ count → code < count
    → get_or (with_value_at count values index value) code default
    ≡ (if nat_eq index code then value else get_or values code default)
get_or-with_value_at count values index code value default long within =
    elim (cases_Bool (nat_eq index code)) [
      | inl e ↦
          (let is : index ≡ code = eqb-true index code e in
          rw (e, lt-ltb index count (omega arith), is)
          (get_or-set_same values code value default (omega arith)))
      | inr e ↦ elim (cases_lt index count) [
        | inl below ↦ rw (e, lt-ltb index count below)
            (get_or-set_other values index code value default (λ k. eqb-false index code e (sym k)))
        | inr above ↦ rw (e, le-ltb index count above)
      ]
    ]
