-- What a client reads is faithful: at each report that is followed, each value is the device's.
use Rattle.std.proofs.Common.{◌≡◌, ◌<◌, ◌≤◌, ℕ, zero, suc, ◌+◌, ◌*◌, ◌/◌, ◌%◌, ℤ, pos, Bool, true, false}
use Rattle.std.proofs.Common.{◌&&◌, not, if◌then◌else◌, nat_eq, nat_lt, nat_le, min, List, [], ◌∷◌, length}
use Rattle.std.proofs.Common.{map, take, get_or, refl, sym, ap, ◌∙◌, arith, Option, Some, None, inl, inr}
use Rattle.std.specs.Prelude.{slice_get}
use Rattle.std.specs.List.{list_all, range_with_len}
use Rattle.std.proofs.Math.Bool.{and-true}
use Rattle.std.proofs.lemmas.List.Elements.{All-get_or}
use Rattle.std.proofs.lemmas.List.Sums.{AllPass-from_list_all}
use Rattle.std.proofs.lemmas.List.FromFn.{get_or-range_with_len, length-range_with_len}
use Rattle.std.proofs.lemmas.Bool.{cases_Bool, eq-eqb, ne_eqb, lt-ltb, le-leb, cases_lt, and_from, not-true}
use Rattle.std.proofs.lemmas.Bool.{and_right, not-false}
use Rattle.std.proofs.lemmas.List.{get_or_past, ext_get_or}
use Rattle.inp_model.specs.declared.event.TheConstants.{EV_KEY, EV_ABS, EV_SW, EV_LED, KEY_MAX, SW_MAX}
use Rattle.inp_model.specs.declared.event.TheConstants.{LED_MAX, ABS_MAX}
use Rattle.inp_model.specs.declared.multi_touch.TheConstants.{ABS_MT_TOUCH_MAJOR, ABS_MT_TOOL_Y}
use Rattle.inp_model.specs.declared.event.Event.{Event}
use Rattle.inp_model.specs.declared.step.Step.{Step}
use Rattle.inp_model.specs.declared.step.Step.TheVariants.{Read}
use Rattle.inp_model.specs.declared.reply.Reply.{Reply}
use Rattle.inp_model.specs.RawItem.{RawItem, Frame}
use Rattle.inp_model.specs.Description.{Description, IsDescription, AreCodes, has_kind, has_code, supports}
use Rattle.inp_model.specs.Description.{is_slot_code}
use Rattle.inp_model.specs.Event.{is_report}
use Rattle.inp_model.specs.State.{axis_value, cell}
use Rattle.inp_model.specs.Passed.{announced}
use Rattle.inp_model.specs.Past.{is_open, is_revoked}
use Rattle.inp_model.specs.Raw.{raw}
use Rattle.inp_model.specs.Frame.{place}
use Rattle.inp_model.specs.Left.{Eats}
use Rattle.inp_model.specs.Queue.{Entry, event_of, visible, queue_with, taken_by_with}
use Rattle.inp_model.specs.Reply.{refused_with, rows}
use Rattle.inp_recon.specs.declared.view.View.{View}
use Rattle.inp_recon.specs.View.{IsSizedFor, view_after_events}
use Rattle.inp_recon.specs.Cells.{cell_index}
use Rattle.inp_recon.specs.ClientView.{client_view_with}
use Rattle.inp_recon.specs.Synchronised.{Part, AllKeys, AllSwitches, AllLeds, OneAxis, AllSlots, sync_place}
use Rattle.inp_recon.specs.Synchronised.{has_asked_where, has_axis, taken_since_start, has_no_loss}
use Rattle.inp_recon.specs.Synchronised.{is_synchronised_with}
use Rattle.inp_recon.specs.Undisturbed.{is_whole_for, frames_since_start, steps_since_frame_before_start}
use Rattle.inp_recon.specs.Undisturbed.{is_undisturbed}
use Rattle.inp_recon.specs.Faithful.{IsDeviceState, AreReadsFaithful}
use Rattle.inp_recon.proofs.ReadEntries.{IsOfRead, of-read}
use Rattle.inp_recon.proofs.Each.{Each-take, Each-weaker, Each-filter, and-left, and-right, Each-from_all}
use Rattle.inp_recon.proofs.Each.{all-left, all-right}
use Rattle.inp_recon.proofs.QueuedValues.{over_queue, over_queue-idle, Promised, Promised-take}
use Rattle.inp_recon.proofs.FrameEntries.{Receives}
use Rattle.inp_recon.proofs.FrameSteps.{Says}
use Rattle.inp_recon.proofs.FollowedValues.{IsBehind, FollowsReports}
use Rattle.inp_recon.proofs.Sizes.{IsSizedFor-after_events}
use Rattle.inp_recon.proofs.ViewSteps.{length-rows, client_view_with-sized}
use Rattle.inp_recon.proofs.AxisPasses.{axis_after}
use Rattle.inp_recon.proofs.AxesFollow.{axis-after_events, axis-stands}
use Rattle.inp_recon.proofs.SlotPasses.{SlotCell, cell_then, cell_now}
use Rattle.inp_recon.proofs.SlotCells.{rows-cell}
use Rattle.inp_recon.proofs.SlotBatch.{pair}
use Rattle.inp_recon.proofs.SlotsFollow.{cell-after_events, cell-stands}
use Rattle.inp_recon.proofs.FlagClasses.{keys-class, switches-class, leds-class}
use Rattle.inp_recon.proofs.FlagsFollow.{IsFlagClass, flag_after, flag-after_events, flag-stands}
use Rattle.inp_recon.proofs.FlagsFollow.{unsupported-off, unsupported-taken, unsupported-unseen}

-- ---- an accepted read

none_first : (b : Bool) (x : Reply) (rest : Option Reply) → (if b then Some x else rest) ≡ None
    → (b ≡ false) × (rest ≡ None)
none_first true x rest h = absurd cc
none_first false x rest h = (refl, h)

-- its client is open and not revoked
pub receives-read : (eats : Eats) (d : Description) (past : List Step) (client count : ℕ)
    → refused_with eats d past (Read client count) ≡ None → Receives past client
receives-read eats d past client count h =
    let first = none_first (not (is_open past client)) _ _ h in
    let second = none_first (is_revoked past client && true) _ _ first.1 in
    record { is_there = not-false _ first.0; unrevoked = sym (and-true _) ∙ second.0 }

pub taken-read : (eats : Eats) (d : Description) (past : List Step) (client count : ℕ)
    → taken_by_with eats d past client (Read client count)
    ≡ take (min count (visible event_of (queue_with eats d past client))) (queue_with eats d past client)
taken-read eats d past client count = rw eq-eqb

-- ---- what is promised at an item that is taken

Promised-item : {V : Type 0} (P : Entry → V → Type 0) (t : V → Event → V) (v : V) (q : List Entry) (j : ℕ)
    (x : Entry) → slice_get q j ≡ Some x → is_report (event_of x) ≡ true → has_no_loss (take (suc j) q) ≡ true
    → Promised P t v q → P x (over_queue t v (take (suc j) q))
Promised-item P t v [] j x at report none h = absurd cc
Promised-item {V} P t v (y ∷ q) zero x at report none h =
    let is : y ≡ x = cc in
    rw (← is) ((h (not-true _ (and-left _ _ none))).0 (rw is report))
Promised-item P t v (y ∷ q) (suc j) x at report none h =
    Promised-item P t (t v (event_of y)) q j x at report (and-right _ _ none)
    (h (not-true _ (and-left _ _ none))).1

-- ---- what is known where a frame is followed

-- a client that has taken these entries after this past
module _ (eats : Eats) (d : Description) (past : List Step) (client : ℕ) (taken : List Entry) where
  -- it follows the device up to the frame
  pub record IsFollowedTo (f : Frame) : Type 0 where
    pub synchronised : is_synchronised_with eats d past client taken ≡ true
    pub behind : sync_place past client < place f
    pub undisturbed : is_undisturbed eats d past client f ≡ true

  pub behind-followed : (f : Frame) → IsFollowedTo f
      → IsBehind eats d (sync_place past client) client (frames_since_start d past client) f
  unfolding is_undisturbed
  behind-followed f h = (
    h.behind,
    Each-weaker _ _ (λ g kept ended. kept (le-leb (length g.cut.until) (length f.cut.until) ended))
        (frames_since_start d past client)
        (Each-filter (λ g. nat_le (length g.cut.until) (length f.cut.until)) (is_whole_for eats client)
        (frames_since_start d past client) (and-left _ _ h.undisturbed)),
    Each-from_all _ (steps_since_frame_before_start d f.before client) (and-right _ _ h.undisturbed),
  )

  -- what a synchronised client asked for, and that it took no loss
  pub record HasAskedForAll : Type 0 where
    pub keys : has_asked_where (has_kind d EV_KEY) AllKeys past client ≡ true
    pub switches : has_asked_where (has_kind d EV_SW) AllSwitches past client ≡ true
    pub leds : has_asked_where (has_kind d EV_LED) AllLeds past client ≡ true
    pub axes : list_all (λ code. has_asked_where (has_axis d code) (OneAxis code) past client)
        (range_with_len 0 (ABS_MAX + 1)) ≡ true
    pub slots : has_asked_where (nat_lt 0 d.slots) AllSlots past client ≡ true
    pub before : has_no_loss (taken_since_start eats d past client) ≡ true
    pub now : has_no_loss taken ≡ true

  pub all-asked : is_synchronised_with eats d past client taken ≡ true → HasAskedForAll
  unfolding is_synchronised_with
  all-asked h =
      let h1 = and-left _ _ h in
      let h2 = and-left _ _ h1 in
      let h3 = and-left _ _ h2 in
      let h4 = and-left _ _ h3 in
      let none = and-right _ _ h in
      record {
        keys = and-left _ _ h4;
        switches = and-right _ _ h4;
        leds = and-right _ _ h3;
        axes = and-right _ _ h2;
        slots = and-right _ _ h1;
        before = all-left _ (taken_since_start eats d past client) taken none;
        now = all-right _ (taken_since_start eats d past client) taken none;
      }

-- a code past its list is not supported
unsupported-past : (kind greatest count : ℕ) (d : Description) (codes : List Bool)
    → ((code : ℕ) → has_code d kind code ≡ get_or codes code false) → AreCodes count greatest codes
    → (code : ℕ) → count ≤ code → supports d kind code ≡ false
unsupported-past kind greatest count d codes is h code past =
    and_right (has_kind d kind) (has_code d kind code) (is code
    ∙ get_or_past codes code false (omega (arith, h.length_is)))

-- a supported axis is one of the first 64
axis-within : (d : Description) → IsDescription d → (code : ℕ) → has_axis d code ≡ true → code < 64
axis-within d described code has = elim (cases_lt code 64) [
  | inl within ↦ within
  | inr above ↦ absurd
      (cc (and-right (has_kind d EV_ABS) _ (and-left _ _ has), described.axes.within code (omega arith)))
]

pub slot_code : (k : ℕ) → k < 14 → is_slot_code (48 + k) ≡ true
slot_code k h =
    and_from _ _ (le-leb ABS_MT_TOUCH_MAJOR (48 + k) (omega arith))
    (le-leb (48 + k) ABS_MT_TOOL_Y (omega arith))

-- ---- at item j of what a read takes

module _ (eats : Eats) (d : Description) (past : List Step) (client count : ℕ)
    (receives : Receives past client) (j : ℕ) (f : Frame) where
  -- what the read takes, up to the item too, and the view before the read and at it
  abbrev read : List Entry
  read = taken_by_with eats d past client (Read client count)

  abbrev taken : List Entry
  taken = take (suc j) read

  abbrev before : View
  before = client_view_with eats d past client

  abbrev at_item : View
  at_item = view_after_events before (map event_of taken)

  sized_before : IsSizedFor d.slots before
  sized_before = client_view_with-sized eats d past client

  sized : IsSizedFor d.slots at_item
  sized = IsSizedFor-after_events d.slots before (map event_of taken) sized_before

  -- it is a report of this frame, up to which the client follows
  record IsFollowedReport : Type 0 where
    entry : Entry
    at : slice_get read j ≡ Some entry
    report : is_report (event_of entry) ≡ true
    frame : entry.frame ≡ Some f
    followed : IsFollowedTo eats d past client taken f

  module _ (h : IsFollowedReport) where
    asked : HasAskedForAll eats d past client taken
    asked = all-asked eats d past client taken h.followed.synchronised

    -- one value, which what is taken makes of the one before
    value-read : {V : Type 0} (t : V → Event → V) (st : List RawItem → V) (v : V)
        → FollowsReports eats d client t st (sync_place past client) (frames_since_start d past client)
        (steps_since_frame_before_start d past client) (raw d past) v (queue_with eats d past client)
        → over_queue t v taken ≡ st f.cut.until
    value-read t st v stands =
        let says =
        Says st (IsBehind eats d (sync_place past client) client (frames_since_start d past client)) in
        let q : List Entry = queue_with eats d past client in
        Promised-item says t v read j h.entry h.at h.report asked.now
        (rw (taken-read eats d past client count)
        (Promised-take says t v (min count (visible event_of q)) q stands.reports))
        f h.frame (behind-followed eats d past client taken f h.followed)

    -- a flag of any class
    flag-read : {kind : ℕ} {skips : ℤ → Bool} {on : List RawItem → ℕ
        → Bool} {flags_count : ℕ} {part : Part} {flags : View → List Bool}
        (c : IsFlagClass eats d client kind skips on flags_count part flags)
        → has_asked_where (has_kind d kind) part past client ≡ true
        → ((code : ℕ) → flags_count ≤ code → supports d kind code ≡ false)
        → (code : ℕ) → get_or (flags at_item) code false ≡ on f.cut.until code
    flag-read {kind} {skips} {on} {flags_count} {part} {flags} c told beyond code =
        let t : Bool → Event → Bool = flag_after c code in
        let was : Bool = get_or (flags before) code false in
        let off : supports d kind code ≡ false → false ≡ on f.cut.until code =
        λ e. sym (unsupported-off c code e f.cut.until) in
        elim (cases_lt code flags_count) [
          | inl within ↦
              flag-after_events c code within before (map event_of taken) sized_before
              ∙ elim (cases_Bool (supports d kind code)) [
                | inl e ↦ value-read t (λ r. on r code) was
                    (flag-stands c code within past receives asked.before
                    (rw (and-left (has_kind d kind) _ e) at told))
                | inr e ↦
                    over_queue-idle t was taken
                    (Each-take _ (suc j) read (unsupported-taken c code e past (Read client count)))
                    ∙ unsupported-unseen c code within e past ∙ off e
              ]
          | inr above ↦ get_or_past (flags at_item) code false (omega (arith, c.long at_item sized))
              ∙ off (beyond code above)
        ]

    axis-read : IsDescription d → (code : ℕ) → has_axis d code ≡ true
        → get_or at_item.axes code (pos 0) ≡ axis_value d f.cut.until code
    axis-read described code has =
        let within : code < 64 = axis-within d described code has in
        let axes : List ℕ = range_with_len 0 64 in
        let here : get_or axes code 0 ≡ code = get_or-range_with_len 0 64 code 0 within ∙ omega arith in
        let where_has : ℕ → Bool = λ (c : ℕ). has_asked_where (has_axis d c) (OneAxis c) past client in
        let told : where_has code ≡ true =
        ap where_has (sym here)
        ∙ All-get_or (λ c. where_has c ≡ true) axes code 0 (omega (arith, length-range_with_len 0 64))
        (AllPass-from_list_all where_has axes asked.axes) in
        axis-after_events eats d client code has within before (map event_of taken) sized_before
        ∙ value-read (axis_after code) (λ r. axis_value d r code) (get_or before.axes code (pos 0))
        (axis-stands eats d client code has within past receives asked.before (rw has at told))

    cell-read : (slot k : ℕ) → slot < d.slots → k < 14
        → pair at_item.slot (get_or at_item.cells (cell_index (pos slot) (48 + k)) (pos 0))
        ≡ pair (announced d f.cut.until) (cell d f.cut.until (pos slot) (48 + k))
    cell-read slot k within less =
        let some : nat_eq d.slots 0 ≡ false = ne_eqb d.slots 0 (λ e. omega arith) in
        let is_cell : is_slot_code (48 + k) ≡ true = slot_code k less in
        let has : nat_lt 0 d.slots ≡ true = lt-ltb 0 d.slots (omega arith) in
        cell-after_events eats d client some slot (48 + k) within is_cell before
        (map event_of taken) sized_before
        ∙ value-read (cell_then (pos slot) (48 + k)) (cell_now d some (pos slot) (48 + k) is_cell)
        (pair before.slot (get_or before.cells (cell_index (pos slot) (48 + k)) (pos 0)))
        (cell-stands eats d client some slot (48 + k) within is_cell past receives asked.before
        (rw has at asked.slots))

    cells-read : (q : ℕ) → q < length at_item.cells
        → get_or at_item.cells q (pos 0) ≡ get_or (rows d f.cut.until) q (pos 0)
    cells-read q less =
        let slot : ℕ = q / 14 in
        let k : ℕ = q % 14 in
        let long : length at_item.cells ≡ 14 * d.slots = sized.cells in
        let within : slot < d.slots = omega arith in
        let low : k < 14 = omega arith in
        let place : cell_index (pos slot) (48 + k) ≡ q = omega arith in
        rw place at (ap (λ (u : SlotCell). u.1) (cell-read slot k within low)
        ∙ sym (rows-cell d f.cut.until slot (48 + k) within (slot_code k low)))

    -- all of the view
    state-read : IsDescription d → IsDeviceState d f.cut.until at_item
    state-read described = record {
      keys =
          flag-read (keys-class eats d client) asked.keys
          (unsupported-past EV_KEY KEY_MAX 768 d d.keys (λ code. refl) described.keys);
      switches =
          flag-read (switches-class eats d client) asked.switches
          (unsupported-past EV_SW SW_MAX 64 d d.switches (λ code. refl) described.switches);
      leds =
          flag-read (leds-class eats d client) asked.leds
          (unsupported-past EV_LED LED_MAX 64 d d.leds (λ code. refl) described.leds);
      axes = axis-read described;
      cells =
          ext_get_or (pos 0) at_item.cells (rows d f.cut.until) (sized.cells
          ∙ sym (length-rows d f.cut.until)) cells-read;
      slot = λ some. ap (λ (u : SlotCell). u.0) (cell-read 0 0 some (omega arith));
    }

pub reads-faithful : AreReadsFaithful
reads-faithful eats d past client count described accepted j at f is report followed =
    let es : List Entry = taken_by_with eats d past client (Read client count) in
    let h : IsOfRead past [] es j at = of-read past [] es j at is in
    let there : IsFollowedTo eats d at.before client at.taken f =
    record {
      synchronised = followed.synchronised;
      behind = followed.behind;
      undisturbed = followed.undisturbed;
    } in
    let follows : IsFollowedTo eats d past client (take (suc j) es) f =
    rw (h.is_before, h.is_taken) at there in
    rw (h.is_before, h.is_taken)
    (state-read eats d past client count (receives-read eats d past client count accepted.1) j f
    (record {
      entry = at.entry;
      at = h.is_entry;
      report = report.report;
      frame = report.frame;
      followed = follows;
    }) described)
