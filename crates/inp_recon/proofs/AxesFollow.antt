-- The axes of a view follow the device. A query of an axis removes nothing from the queue: what is queued
-- of it leads to its present value.
use Rattle.std.proofs.Common.{◌≡◌, ◌<◌, ℕ, ℤ, pos, Bool, true, false, ◌&&◌, not, if◌then◌else◌, cond, nat_eq}
use Rattle.std.proofs.Common.{List, [], ◌∷◌, ◌++◌, map, get_or, refl, ap, ◌∙◌, Some, inl, inr, arith}
use Rattle.std.proofs.lemmas.Bool.Decides.{nat_tests}
use Rattle.std.proofs.lemmas.Bool.{cases_Bool, eqb-true, not-true}
use Rattle.inp_model.specs.declared.event.TheConstants.{EV_ABS}
use Rattle.inp_model.specs.declared.event.Event.{Event}
use Rattle.inp_model.specs.declared.step.Step.{Step}
use Rattle.inp_model.specs.declared.step.Step.TheVariants.{Open, Discard, GetAxis}
use Rattle.inp_model.specs.RawItem.{RawItem, Frame}
use Rattle.inp_model.specs.Description.{Description, is_multi_touch_code}
use Rattle.inp_model.specs.Event.{is_multi_touch}
use Rattle.inp_model.specs.Step.{Codes, Slots, query_of, is_description}
use Rattle.inp_model.specs.State.{axis_value}
use Rattle.inp_model.specs.Past.{is_open}
use Rattle.inp_model.specs.Cut.{raw_after, pending, cuts}
use Rattle.inp_model.specs.Raw.{raw, raw_of_step}
use Rattle.inp_model.specs.Frame.{frames_of_step}
use Rattle.inp_model.specs.Left.{Eats}
use Rattle.inp_model.specs.Queue.{Entry, event_of, queue_with, taken_by_with}
use Rattle.inp_model.specs.Reply.{axis_answer}
use Rattle.inp_recon.specs.declared.view.View.{View}
use Rattle.inp_recon.specs.View.{IsSizedFor, with_value_at, view_after_event, view_after_events}
use Rattle.inp_recon.specs.View.{view_after_answer}
use Rattle.inp_recon.specs.ClientView.{client_view_with}
use Rattle.inp_recon.specs.Synchronised.{OneAxis, asks_for, is_start, has_axis, taken_since_start, has_asked}
use Rattle.inp_recon.specs.Undisturbed.{frames_since_start, steps_since_frame_before_start}
use Rattle.inp_recon.proofs.Each.{Each-left, Each-right, and-left, all-left, all-right}
use Rattle.inp_recon.proofs.Over.{over, over-append}
use Rattle.inp_recon.proofs.LastWrite.{again, suffix-same, pending-again}
use Rattle.inp_recon.proofs.CallsLeft.{left_in_queue, left_by, part-asked, kind_asked}
use Rattle.inp_recon.proofs.FrameEntries.{Receives}
use Rattle.inp_recon.proofs.FrameSteps.{AreWhole, IsNow, frames_by, offered_to, passed_by, passes_all}
use Rattle.inp_recon.proofs.FrameSteps.{all_grown}
use Rattle.inp_recon.proofs.Shape.{start-empties}
use Rattle.inp_recon.proofs.DescriptionSteps.{AreUndescribed, items-are_events, steps-step, steps-start}
use Rattle.inp_recon.proofs.DescriptionSteps.{is_settled, raw-settled}
use Rattle.inp_recon.proofs.Steps.{raw-step, queue-step, since-step, receives-before}
use Rattle.inp_recon.proofs.AxisPasses.{plain as axis_plain, sets_axis, value_of, axis_after, unkind-idle}
use Rattle.inp_recon.proofs.AxisPasses.{multi_touch-idle, axis-unviewed, axis-passes}
use Rattle.inp_recon.proofs.FollowedValues.{IsClearSince, Spares, HasLostNone, call-keeps, Stands, stands}
use Rattle.inp_recon.proofs.ViewSteps.{ByEvents, ByAnswers, get-after_events, get-follows}
use Rattle.inp_recon.proofs.ViewSteps.{get_or-with_value_at}
use Rattle.inp_recon.proofs.QueuedValues.{NoLoss, over_queue}

-- another query spares the axis
pub no_abs_query : (x : Step) → query_of x ≡ Some (Codes EV_ABS) → ⊥
unfolding kind_asked
no_abs_query (GetAxis named code) e = omega (arith, ap kind_asked e)
no_abs_query x e = omega (arith, ap kind_asked e)

-- a start stands for no raw event
start_raw : (d : Description) (past : List Step) (client : ℕ) (x : Step) → is_start past client x ≡ true
    → raw_of_step d past x ≡ []
unfolding raw_of_step
start_raw d past client Open h = refl
start_raw d past client (Discard reader) h = refl
start_raw d past client x h = absurd cc

no_frames : (eats : Eats) (d : Description) (client : ℕ) (past : List Step) (s : Step) (r : List RawItem)
    (q : List Entry) → offered_to eats d client q (frames_by d past s r []) ≡ q
unfolding cuts
no_frames eats d client past s r q = refl

module _ (eats : Eats) (d : Description) (client code : ℕ) (has : has_axis d code ≡ true)
    (within : code < 64) where
  abbrev t : ℤ → Event → ℤ
  t = axis_after code

  axis-spares : Spares client (OneAxis code) t
  axis-spares x asks own (Codes k) asked e part = elim (cases_Bool (nat_eq k EV_ABS)) [
    | inl h ↦ absurd (no_abs_query x (rw (eqb-true k EV_ABS h) at asked))
    | inr h ↦ unkind-idle code e (rw (eqb-true e.kind k part) h)
  ]
  axis-spares x asks own Slots asked e part = multi_touch-idle code e part

  abbrev pub axis_of : View → ℤ
  axis_of v = get_or v.axes code (pos 0)

  abbrev present : List RawItem → ℤ
  present r = axis_value d r code

  plain : is_multi_touch_code code ≡ false
  plain = axis_plain d code has

  axis_event : ByEvents d t axis_of
  unfolding view_after_event
  axis_event v e h =
      elim (nat_eq e.kind EV_ABS && not (is_multi_touch e)) as (λ b.
      get_or (if b then with_value_at 64 v.axes e.code e.value else v.axes) code (pos 0)
      ≡ (if b && nat_eq e.code code then e.value else axis_of v)) [
        | true ↦ get_or-with_value_at 64 v.axes e.code code e.value (pos 0) h.axes within
        | false ↦ refl
      ]

  -- what is told of the axis
  told_value : (r : List RawItem) → (axis_answer d r code).value ≡ present r
  told_value r = grind (arith, nat_tests, and-left, plain)

  axis_answered : ByAnswers eats d client (OneAxis code) present axis_of
  unfolding view_after_answer
  axis_answered past (GetAxis named asked) v h own = by (nat_eq asked code) refl
    where
      value : ℤ
      value = (axis_answer d (raw d past) asked).value

      set_it : get_or (with_value_at 64 v.axes asked value) code (pos 0)
          ≡ (if nat_eq asked code then value else axis_of v)
      set_it = get_or-with_value_at 64 v.axes asked code value (pos 0) h.axes within

      by : (b : Bool) → nat_eq asked code ≡ b
          → get_or (if is_multi_touch_code asked then v.axes else with_value_at 64 v.axes asked value) code
          (pos 0) ≡ cond (nat_eq named client && nat_eq asked code) (present (raw d past)) (axis_of v)
      by true e =
          rw (own, e, eqb-true asked code e, plain) (rw (e, eqb-true asked code e) at set_it
          ∙ told_value (raw d past))
      by false e =
          rw (own, e)
          (elim (is_multi_touch_code asked) as (λ b.
          get_or (if b then v.axes else with_value_at 64 v.axes asked value) code (pos 0) ≡ axis_of v)
          [ true ↦ refl | false ↦ rw (set_it, e) ])
  axis_answered past x v h own = refl

  pub axis-after_events : (v : View) (es : List Event) → IsSizedFor d.slots v
      → axis_of (view_after_events v es) ≡ over t (axis_of v) es
  axis-after_events = get-after_events eats d client t (OneAxis code) present axis_of axis_event axis_answered

  -- ---- what is queued of the axis, and what waits, leads to its present value

  abbrev LeadsBack : List RawItem → List Entry → Type 0
  LeadsBack r q = IsNow d t present r (present r) q

  -- the same, where the queue tells of no loss
  abbrev LeadsIfKept : List RawItem → List Entry → Type 0
  LeadsIfKept r q = NoLoss q → LeadsBack r q

  abbrev queue : List Step → List Entry
  queue past = queue_with eats d past client

  abbrev left : List Step → Step → List Entry
  left past x = left_in_queue eats d past client x

  abbrev taken : List Step → Step → List Entry
  taken past x = taken_by_with eats d past client x

  -- the frames of a step
  abbrev frames : List Step → Step → List Frame
  frames past x = frames_of_step d past x

  frames_lead : (past : List Step) (x : Step) (q : List Entry) → is_description x ≡ false
      → Receives past client → AreWhole eats client (frames past x) → LeadsIfKept (raw d past) q
      → LeadsIfKept (raw_after (raw d past) (raw_of_step d past x))
      (offered_to eats d client q (frames past x))
  frames_lead past x q other receives whole before none =
      let r : List RawItem = raw d past in
      let xs : List RawItem = raw_of_step d past x in
      let ps : List Event = passed_by d r xs in
      let g = all_grown eats d client t (axis-unviewed code) past x receives xs r q whole none in
      let is : over t (present r) ps ≡ present (raw_after r xs) =
      passes_all d t present (axis-passes d code has) xs r (items-are_events d past x other) in
      let led : over t (present r) (map event_of q ++ pending d r) ≡ present r =
      rw over-append (before g.kept) in
      rw (
        g.same (present (raw_after r xs)),
        ← is,
        ← over-append t (over t (present r) ps) (map event_of q) (pending d r),
        ← over-append t _ _ ps,
      )
      (again (sets_axis code) value_of (present r) (map event_of q ++ pending d r) ps led)

  -- the client's own call
  call_leads : (past : List Step) (x : Step) → is_start past client x ≡ false
      → asks_for (OneAxis code) client x ≡ false → NoLoss (taken past x)
      → LeadsIfKept (raw d past) (queue past) → LeadsIfKept (raw d past) (left past x)
  call_leads past x start asks none before kept =
      let r : List RawItem = raw d past in
      let k =
      call-keeps eats d client t (axis-unviewed code) present (axis-passes d code has) x (queue past)
      (taken past x) (left past x) (OneAxis code) axis-spares
      (left_by eats d past client x start) asks none kept in
      let whole : over t (over_queue t (present r) (taken past x)) (map event_of (left past x) ++ pending d r)
      ≡ present r = rw (over-append, k.1 (present r)) (before k.0) in
      rw over-append at (suffix-same (sets_axis code) value_of (present r)
      (over_queue t (present r) (taken past x)) (map event_of (left past x) ++ pending d r) whole)

  -- a query of the axis leaves the queue
  query_leads : (past : List Step) (x : Step) → asks_for (OneAxis code) client x ≡ true
      → LeadsIfKept (raw d past) (queue past) → LeadsIfKept (raw d past) (left past x)
  query_leads past x asks before = rw ((part-asked (OneAxis code) client x asks).flushes eats d past) before

  -- the batch leads back, where no axis was described anew since the last frame
  pending_leads : (r : List RawItem) → is_settled d r ≡ true → over t (present r) (pending d r) ≡ present r
  unfolding is_settled
  pending_leads =
      pending-again (sets_axis code) value_of d present (axis-passes d code has) (is_settled d)
      (λ r e cut settled. rw cut.none at settled) (λ r axis i settled. absurd cc)

  -- at a start nothing is queued, and no frame comes
  start_leads : (past : List Step) (x : Step) → is_start past client x ≡ true
      → AreUndescribed (steps_since_frame_before_start d (x ∷ past) client)
      → LeadsIfKept (raw d (x ∷ past)) (queue (x ∷ past))
  start_leads past x start early kept =
      let none : raw_of_step d past x ≡ [] = start_raw d past client x start in
      let same_queue : queue (x ∷ past) ≡ left past x =
      rw (queue-step eats d past client x, none)
      (no_frames eats d client past x (raw d past) (left past x)) in
      let same_raw : raw d (x ∷ past) ≡ raw d past = rw (raw-step d past x, none) in
      let empty : queue (x ∷ past) ≡ [] =
      same_queue ∙ start-empties eats d past client x start (rw same_queue at kept) in
      rw empty
      (pending_leads (raw d (x ∷ past))
      (rw same_raw (raw-settled d past (rw (steps-start d past client x start) at early).1)))

  pub axis-leads : (past : List Step) → Receives past client → HasLostNone eats d past client
      → IsClearSince eats d past client → LeadsIfKept (raw d past) (queue past)
  unfolding taken_since_start is_open
  axis-leads [] receives none clear = absurd cc
  axis-leads (x ∷ past) receives none clear =
      let since : List Frame = frames_since_start d past client in
      let took : List Entry = taken_since_start eats d past client in
      elim (cases_Bool (is_start past client x)) [
        | inl start ↦ start_leads past x start clear.1
        | inr start ↦
            (let before : Receives past client = receives-before past client x start receives in
            let steps : AreUndescribed (x ∷ steps_since_frame_before_start d past client) =
            rw (steps-step d past client x start) at clear.1 in
            let none : NoLoss (took ++ taken past x) = rw start at none in
            let all : AreWhole eats client (since ++ frames past x) =
            rw (since-step d past client x start) at clear.0 in
            let there =
            axis-leads past before (all-left _ took (taken past x) none)
            (Each-left _ since (frames past x) all, steps.1) in
            rw (raw-step d past x, queue-step eats d past client x)
            (frames_lead past x (left past x) (not-true _ steps.0) before
            (Each-right _ since (frames past x) all)
            (elim (cases_Bool (asks_for (OneAxis code) client x)) [
              | inl asks ↦ query_leads past x asks there
              | inr asks ↦ call_leads past x start asks (all-right _ took (taken past x) none) there
            ])))
      ]

  -- ---- an axis that was asked for

  pub axis-stands : (past : List Step) → Receives past client → HasLostNone eats d past client
      → has_asked (OneAxis code) past client ≡ true
      → Stands eats d client t (axis-unviewed code) present (axis-passes d code has)
      (λ past. axis_of (client_view_with eats d past client)) past
  axis-stands =
      stands eats d client t (axis-unviewed code) present (axis-passes d code has)
      (OneAxis code) axis-spares present (λ past. axis_of (client_view_with eats d past client))
      (get-follows eats d client t (OneAxis code) present axis_of axis_event axis_answered)
      (λ past x start asks receives none clear. query_leads past x asks (axis-leads past receives none clear))
