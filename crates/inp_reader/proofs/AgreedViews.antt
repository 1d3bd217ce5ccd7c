-- Two views that keep what their device cannot have agree after the answers to all that is asked for.
use Rattle.std.proofs.Common.{◌≡◌, ◌≤◌, ◌<◌, inl, inr, ℕ, zero, suc, ◌+◌, ◌*◌, nat_eq, nat_lt, ℤ, pos, Bool}
use Rattle.std.proofs.Common.{true, false, ◌&&◌, ◌||◌, not, List, [], ◌∷◌, ◌++◌, length, refl, sym, ap, ◌∙◌}
use Rattle.std.proofs.Common.{arith}
use Rattle.std.specs.Prelude.{slice_index_or}
use Rattle.std.specs.List.{list_any, range_with_len, filter}
use Rattle.std.proofs.lemmas.Bool.{true≢false, eq-eqb, ltb-true, ltb-false, not-true, cases_eq, cases_lt}
use Rattle.std.proofs.lemmas.Bool.{and_parts, or_parts, or_left, or_right, false_from_ne_true, cond_both}
use Rattle.std.proofs.lemmas.Bool.{lt-ltb, le-leb, le-ltb, eqb-true, cases_Bool}
use Rattle.std.proofs.lemmas.List.{get_or-set_other, get_or-set_same, get_or_past, ext_get_or}
use Rattle.std.proofs.lemmas.List.{nil_from_length, map-append}
use Rattle.std.proofs.lemmas.List.Folds.{list_any-append}
use Rattle.inp_model.specs.declared.event.TheConstants.{EV_KEY, EV_ABS, EV_SW, EV_LED}
use Rattle.inp_model.specs.declared.multi_touch.TheConstants.{ABS_MT_SLOT}
use Rattle.inp_model.specs.declared.step.Step.{Step}
use Rattle.inp_model.specs.declared.step.Step.TheVariants.{GetKeys, GetSwitches, GetLeds, GetAxis, SyncSlots}
use Rattle.inp_model.specs.declared.reply.Reply.{Reply}
use Rattle.inp_model.specs.declared.reply.Reply.TheVariants.{Bits, Axis, Cells}
use Rattle.inp_model.specs.Description.{Description, has_kind, supports, is_multi_touch_code}
use Rattle.inp_model.specs.Reply.{Answer, IsAnswer, accepted, is_accepted}
use Rattle.inp_model.specs.Run.{Call}
use Rattle.inp_recon.specs.declared.view.View.{View}
use Rattle.inp_recon.specs.View.{code_count, with_value_at, first_view, view_after_answer}
use Rattle.inp_recon.proofs.Answered.{keys_after_answer, switches_after_answer, leds_after_answer}
use Rattle.inp_recon.proofs.Answered.{axes_after_answer, slot_after_answer, cells_after_answer}
use Rattle.inp_recon.proofs.Answered.{view_after_answer-parts}
use Rattle.inp_recon.proofs.Sizes.{length-axes_after_answer, length-cells_after_answer}
use Rattle.inp_reader.proofs.QueryAnswers.{answered-as}
use Rattle.inp_reader.specs.Reader.{queries, bit_queries, axis_queries, plain_axes, slot_queries, only_if}
use Rattle.inp_reader.specs.Reader.{axes_among}
use Rattle.inp_recon.specs.Synchronised.{has_axis}
use Rattle.inp_reader.specs.Spare.{IsSpare}
use Rattle.inp_reader.specs.ReaderPlace.{steps_of, view_after_answers}
use Rattle.inp_reader.proofs.Calls.{AreAnswered, AreAccepted}
use Rattle.inp_reader.proofs.SpareAgrees.{IsSpare-first_view}
use Rattle.inp_reader.proofs.StandsAfterTalks.{IsMadeAnew}
use Rattle.inp_reader.proofs.UnsetSlotAxes.{has_cells}

-- What is asked for

abbrev pub is_get_keys : Step → Bool
is_get_keys (GetKeys client) = true
is_get_keys _ = false

abbrev pub is_get_switches : Step → Bool
is_get_switches (GetSwitches client) = true
is_get_switches _ = false

abbrev pub is_get_leds : Step → Bool
is_get_leds (GetLeds client) = true
is_get_leds _ = false

-- an axis with a value of its own, of those that a view has
abbrev pub is_get_axis : ℕ → Step → Bool
is_get_axis code (GetAxis client asked) =
    nat_eq asked code && (nat_lt asked code_count && not (is_multi_touch_code asked))
is_get_axis code _ = false

abbrev pub is_sync_slots : Step → Bool
is_sync_slots (SyncSlots client) = true
is_sync_slots _ = false

-- what of two views is compared
pub record Compared : Type 0 where
  -- whether the keys are
  pub keys : Bool
  -- whether the switches are
  pub switches : Bool
  -- whether the LEDs are
  pub leds : Bool
  -- which axes are, by their codes
  pub axes : ℕ → Bool
  -- whether the current slot and the values of slots are
  pub slots : Bool

-- two views agree in all that is compared and that these steps do not ask for
pub record AgreeBut (which : Compared) (xs : List Step) (v w : View) : Type 0 where
  -- the keys, where they are compared and not asked for
  pub keys : which.keys ≡ true → list_any is_get_keys xs ≡ false → v.keys ≡ w.keys
  -- the switches, where they are compared and not asked for
  pub switches : which.switches ≡ true → list_any is_get_switches xs ≡ false → v.switches ≡ w.switches
  -- the LEDs, where they are compared and not asked for
  pub leds : which.leds ≡ true → list_any is_get_leds xs ≡ false → v.leds ≡ w.leds
  -- the value of each axis that is compared and not asked for
  pub axes : (code : ℕ) → which.axes code ≡ true → list_any (is_get_axis code) xs ≡ false
      → slice_index_or v.axes code (pos 0) ≡ slice_index_or w.axes code (pos 0)
  -- the current slot, where slots are compared and not asked for
  pub slot : which.slots ≡ true → list_any is_sync_slots xs ≡ false → v.slot ≡ w.slot
  -- the values of all slots, where slots are compared and not asked for
  pub cells : which.slots ≡ true → list_any is_sync_slots xs ≡ false → v.cells ≡ w.cells
  -- the first view has a value for each axis code
  pub left_long : length v.axes ≡ code_count
  -- so has the second one
  pub right_long : length w.axes ≡ code_count
  -- both have as many values of slots
  pub cells_long : length v.cells ≡ length w.cells

-- An accepted answer tells what was asked for

abbrev Tells : Step → Reply → Type 0
Tells (GetKeys client) reply = (at : ℕ) × (words : List ℕ) × (reply ≡ Bits at words)
Tells (GetSwitches client) reply = (at : ℕ) × (words : List ℕ) × (reply ≡ Bits at words)
Tells (GetLeds client) reply = (at : ℕ) × (words : List ℕ) × (reply ≡ Bits at words)
Tells (GetAxis client code) reply = (at : ℕ) × (info : _) × (reply ≡ Axis at info)
Tells (SyncSlots client) reply = (at : ℕ) × (count : ℕ) × (slot : ℤ) × (reply ≡ Cells at count slot)
Tells _ reply = Unit {0}

tells-accepted : (d : Description) (past : List Step) (x : Step) → Tells x (accepted d past x).reply
tells-accepted d past (GetKeys client) = (_, _, refl)
tells-accepted d past (GetSwitches client) = (_, _, refl)
tells-accepted d past (GetLeds client) = (_, _, refl)
tells-accepted d past (GetAxis client code) = (_, _, refl)
tells-accepted d past (SyncSlots client) = (_, _, _, refl)
tells-accepted d past _ = tt

tells : (d : Description) (past : List Step) (x : Step) (given : Answer) → IsAnswer d past x given
    → is_accepted given.reply ≡ true → Tells x given.reply
tells d past x given are =
    answered-as d past x given (λ a. is_accepted a.reply ≡ true → Tells x a.reply) are
    (λ is. tells-accepted d past x)
    (λ reply off is. absurd cc)

-- One answer

-- where none of these steps is such a one, the values are the same
abbrev SameUnless : {X : Type 0} → (Step → Bool) → List Step → X → X → Type 0
SameUnless p xs v w = list_any p xs ≡ false → v ≡ w

keys-agree : (x : Step) (reply : Reply) (xs : List Step) (v w : List Bool) → Tells x reply
    → SameUnless is_get_keys (x ∷ xs) v w
    → SameUnless is_get_keys xs (keys_after_answer x reply v) (keys_after_answer x reply w)
keys-agree (GetKeys client) reply xs v w t h none = rw t.2
keys-agree _ reply xs v w t h none = h none

switches-agree : (x : Step) (reply : Reply) (xs : List Step) (v w : List Bool) → Tells x reply
    → SameUnless is_get_switches (x ∷ xs) v w
    → SameUnless is_get_switches xs (switches_after_answer x reply v) (switches_after_answer x reply w)
switches-agree (GetSwitches client) reply xs v w t h none = rw t.2
switches-agree _ reply xs v w t h none = h none

leds-agree : (x : Step) (reply : Reply) (xs : List Step) (v w : List Bool) → Tells x reply
    → SameUnless is_get_leds (x ∷ xs) v w
    → SameUnless is_get_leds xs (leds_after_answer x reply v) (leds_after_answer x reply w)
leds-agree (GetLeds client) reply xs v w t h none = rw t.2
leds-agree _ reply xs v w t h none = h none

slot-agrees : (x : Step) (reply : Reply) (xs : List Step) (v w : ℤ) → Tells x reply
    → SameUnless is_sync_slots (x ∷ xs) v w
    → SameUnless is_sync_slots xs (slot_after_answer x reply v) (slot_after_answer x reply w)
slot-agrees (SyncSlots client) reply xs v w t h none = rw t.3
slot-agrees _ reply xs v w t h none = h none

cells-agree : (x : Step) (reply : Reply) (xs : List Step) (buffer v w : List ℤ) → Tells x reply
    → length v ≡ length w → SameUnless is_sync_slots (x ∷ xs) v w
    → SameUnless is_sync_slots xs (cells_after_answer x reply buffer v) (cells_after_answer x reply buffer w)
cells-agree (SyncSlots client) reply xs buffer v w t long h none = rw (t.3, long)
cells-agree _ reply xs buffer v w t long h none = h none

-- two lists have the same value at this code
abbrev pub SameAt : ℕ → List ℤ → List ℤ → Type 0
SameAt code v w = slice_index_or v code (pos 0) ≡ slice_index_or w code (pos 0)

-- a value that is set in both, or another one in which they agreed
pub set-in-both : (v w : List ℤ) (index code : ℕ) (value : ℤ) → length v ≡ code_count → length w ≡ code_count
    → ((code ≡ index → index < code_count → ⊥) → SameAt code v w)
    → SameAt code (with_value_at code_count v index value) (with_value_at code_count w index value)
set-in-both v w index code value long_v long_w h = elim (cases_lt index code_count) [
  | inl within ↦ rw (lt-ltb index code_count within) (elim (cases_eq code index) [
    | inl same ↦ rw (
      same,
      get_or-set_same v index value (pos 0) (omega (arith, within, long_v)),
      get_or-set_same w index value (pos 0) (omega (arith, within, long_w)),
    )
    | inr apart ↦ rw (
      get_or-set_other v index code value (pos 0) apart,
      get_or-set_other w index code value (pos 0) apart,
    ) (h (λ e lt. apart e))
  ])
  | inr past ↦ rw (le-ltb index code_count past) (h (λ e lt. omega (arith, past, lt)))
]

axes-agree : (x : Step) (reply : Reply) (xs : List Step) (code : ℕ) (v w : List ℤ) → Tells x reply
    → length v ≡ code_count → length w ≡ code_count
    → (list_any (is_get_axis code) (x ∷ xs) ≡ false → SameAt code v w)
    → list_any (is_get_axis code) xs ≡ false
    → SameAt code (axes_after_answer x reply v) (axes_after_answer x reply w)
axes-agree (GetAxis client index) reply xs code v w t long_v long_w h none =
    rw t.2 (elim (cases_Bool (is_multi_touch_code index)) [
      | inl is ↦ rw is (h (rw (is, spared (nat_eq index code) (nat_lt index code_count)) none))
      | inr is ↦ rw is
          (set-in-both v w index code (t.1).value long_v long_w
          (λ spare. h (rw (false_from_ne_true (is_get_axis code (GetAxis client index)) (λ asked.
          let p = and_parts (nat_eq index code) _ asked in
          spare (sym (eqb-true index code p.0))
          (ltb-true index code_count (and_parts (nat_lt index code_count) _ p.1).0))) none)))
    ])
  where
    spared : (a b : Bool)
        → (a && (b && false) || list_any (is_get_axis code) xs) ≡ list_any (is_get_axis code) xs
    spared true true = refl
    spared true false = refl
    spared false b = refl
axes-agree _ reply xs code v w t long_v long_w h none = h none

-- an accepted answer sets what it was asked for alike in both views, and leaves all else
pub agree-answer : (which : Compared) (d : Description) (past : List Step) (x : Step) (xs : List Step)
    (given : Answer) (v w : View) → IsAnswer d past x given → is_accepted given.reply ≡ true
    → length v.cells ≡ 14 * d.slots → AgreeBut which (x ∷ xs) v w
    → AgreeBut which xs (view_after_answer v x given.reply given.cells)
    (view_after_answer w x given.reply given.cells)
agree-answer which d past x xs given v w are accepted sized a =
    let t : Tells x given.reply = tells d past x given are accepted in
    rw (
      view_after_answer-parts v x given.reply given.cells,
      view_after_answer-parts w x given.reply given.cells,
    ) (record {
      keys = λ is. keys-agree x given.reply xs v.keys w.keys t (a.keys is);
      switches = λ is. switches-agree x given.reply xs v.switches w.switches t (a.switches is);
      leds = λ is. leds-agree x given.reply xs v.leds w.leds t (a.leds is);
      axes = λ code is. axes-agree x given.reply xs code v.axes w.axes t a.left_long a.right_long
          (a.axes code is);
      slot = λ is. slot-agrees x given.reply xs v.slot w.slot t (a.slot is);
      cells = λ is. cells-agree x given.reply xs given.cells v.cells w.cells t a.cells_long (a.cells is);
      left_long = length-axes_after_answer x given.reply v.axes ∙ a.left_long;
      right_long = length-axes_after_answer x given.reply w.axes ∙ a.right_long;
      cells_long =
          length-cells_after_answer x given.reply given.cells v.cells
          (has_cells d past x given v.cells are sized) ∙ a.cells_long
          ∙ sym (length-cells_after_answer x given.reply given.cells w.cells
          (has_cells d past x given w.cells are (sym a.cells_long ∙ sized)));
    })

-- an answer that tells the values of slots has as many as the view, and others leave them
pub sized-answer : (d : Description) (past : List Step) (x : Step) (given : Answer) (v : View)
    → IsAnswer d past x given → length v.cells ≡ 14 * d.slots
    → length (view_after_answer v x given.reply given.cells).cells ≡ 14 * d.slots
sized-answer d past x given v are sized =
    rw (view_after_answer-parts v x given.reply given.cells)
    (length-cells_after_answer x given.reply given.cells v.cells
    (has_cells d past x given v.cells are sized) ∙ sized)

-- All answers

-- each step that was asked for is answered, so in the end the views agree in all that is compared
pub agree-answers : (which : Compared) (d : Description) (calls : List Call) (v w : View)
    → AreAnswered d calls → AreAccepted calls → length v.cells ≡ 14 * d.slots
    → AgreeBut which (steps_of calls) v w
    → AgreeBut which [] (view_after_answers v calls) (view_after_answers w calls)
unfolding AreAnswered
agree-answers which d [] v w are accepted sized a = a
agree-answers which d (call ∷ calls) v w are accepted sized a =
    let next : View = view_after_answer v call.step call.answer.reply call.answer.cells in
    let other : View = view_after_answer w call.step call.answer.reply call.answer.cells in
    agree-answers which d calls next other are.2 accepted.1
    (sized-answer d are.0 call.step call.answer v are.1 sized)
    (agree-answer which d are.0 call.step (steps_of calls) call.answer v w are.1 accepted.0 sized a)

-- all is compared
abbrev whole : Compared
whole = record { keys = true; switches = true; leds = true; axes = λ code. true; slots = true }

agree-whole : (v w : View) → AgreeBut whole [] v w → v ≡ w
agree-whole v w a = λ i. record {
  keys = a.keys refl refl i;
  switches = a.switches refl refl i;
  leds = a.leds refl refl i;
  axes =
      ext_get_or (pos 0) v.axes w.axes (a.left_long ∙ sym a.right_long)
      (λ code within. a.axes code refl refl) i;
  slot = a.slot refl refl i;
  cells = a.cells refl refl i;
}

-- What is not asked for

asked-if : (p : Step → Bool) (wanted : Bool) (x : Step) → p x ≡ true → list_any p (only_if wanted x) ≡ wanted
asked-if p true x h = rw h
asked-if p false x h = refl

none-of : (p : Step → Bool) (xs ys : List Step) → list_any p (xs ++ ys) ≡ false
    → (list_any p xs ≡ false) × (list_any p ys ≡ false)
none-of p xs ys h = or_parts (list_any p xs) (list_any p ys) (sym (list_any-append p xs ys) ∙ h)

-- what the parts of all queries ask for
parts : (p : Step → Bool) (d : Description) (client : ℕ) → list_any p (queries d client) ≡ false
    → (list_any p (only_if (has_kind d EV_KEY) (GetKeys client)) ≡ false)
    × (list_any p (only_if (has_kind d EV_LED) (GetLeds client)) ≡ false)
    × (list_any p (only_if (has_kind d EV_SW) (GetSwitches client)) ≡ false)
    × (list_any p (axis_queries client (plain_axes d)) ≡ false) × (list_any p (slot_queries d client) ≡ false)
unfolding queries
parts p d client h =
    let bits : List Step = bit_queries d client in
    let axes : List Step = axis_queries client (plain_axes d) in
    let keys : List Step = only_if (has_kind d EV_KEY) (GetKeys client) in
    let leds : List Step = only_if (has_kind d EV_LED) (GetLeds client) in
    let a = none-of p (bits ++ axes) (slot_queries d client) h in
    let b = none-of p bits axes a.0 in
    let c = none-of p (keys ++ leds) (only_if (has_kind d EV_SW) (GetSwitches client)) b.0 in
    let e = none-of p keys leds c.0 in
    (e.0, e.1, c.1, b.1, a.1)

-- keys are asked for where the device has their type, so where they are not it has none
pub keys-spared : (d : Description) (client : ℕ) → list_any is_get_keys (queries d client) ≡ false
    → has_kind d EV_KEY ≡ false
keys-spared d client h =
    sym (asked-if is_get_keys (has_kind d EV_KEY) (GetKeys client) refl) ∙ (parts is_get_keys d client h).0

-- the same of LEDs
pub leds-spared : (d : Description) (client : ℕ) → list_any is_get_leds (queries d client) ≡ false
    → has_kind d EV_LED ≡ false
leds-spared d client h =
    sym (asked-if is_get_leds (has_kind d EV_LED) (GetLeds client) refl) ∙ (parts is_get_leds d client h).1

-- the same of switches
pub switches-spared : (d : Description) (client : ℕ) → list_any is_get_switches (queries d client) ≡ false
    → has_kind d EV_SW ≡ false
switches-spared d client h =
    sym (asked-if is_get_switches (has_kind d EV_SW) (GetSwitches client) refl)
    ∙ (parts is_get_switches d client h).2

-- slots are asked for where the device has any, so where they are not it has none
pub slots-spared : (d : Description) (client : ℕ)
    → list_any is_sync_slots (queries d client) ≡ false → d.slots ≡ 0
slots-spared d client h =
    let none : d.slots ≤ 0 =
    ltb-false 0 d.slots (sym (asked-if is_sync_slots (nat_lt 0 d.slots) (SyncSlots client) refl)
    ∙ (parts is_sync_slots d client h).4) in
    omega arith

-- an axis that the device has is asked for
axis-in-range : (code : ℕ) (test : ℕ → Bool) (client : ℕ) (first count : ℕ) → first ≤ code
    → code < first + count → test code ≡ true → is_get_axis code (GetAxis client code) ≡ true
    → list_any (is_get_axis code) (axis_queries client (filter test (range_with_len first count))) ≡ true
axis-in-range code test client first zero from below h own = absurd (omega (arith, from, below))
axis-in-range code test client first (suc count) from below h own = elim (cases_eq code first) [
  | inl same ↦
      cond_both (test first) _ _ P
      (λ _. or_left (is_get_axis code (GetAxis client first)) _ (rw (← same) own))
      (λ is. absurd (true≢false (sym h ∙ ap test same ∙ is)))
  | inr apart ↦
      (let later : P (filter test (range_with_len (first + 1) count)) =
      axis-in-range code test client (first + 1) count (omega (arith, from, apart))
      (omega (arith, below)) h own in
      cond_both (test first) _ _ P
      (λ _. or_right (is_get_axis code (GetAxis client first)) _ later) (λ _. later))
]
  where
    P : List ℕ → Type 0
    P xs = list_any (is_get_axis code) (axis_queries client xs) ≡ true

axis-asked : (d : Description) (client code : ℕ) → supports d EV_ABS code ≡ true
    → is_multi_touch_code code ≡ false → code < 64
    → list_any (is_get_axis code) (axis_queries client (plain_axes d)) ≡ true
unfolding axes_among
axis-asked d client code has own below =
    rw (
      map-append (GetAxis client) first second,
      list_any-append (is_get_axis code) (axis_queries client first) (axis_queries client second),
    )
    (elim (cases_lt code ABS_MT_SLOT) [
      | inl low ↦ or_left (list_any (is_get_axis code) (axis_queries client first)) _
          (axis-in-range code (supports d EV_ABS) client 0 47 (omega arith) (omega (arith, low)) has it)
      | inr high ↦ or_right (list_any (is_get_axis code) (axis_queries client first)) _
          (axis-in-range code (supports d EV_ABS) client 62 2 (above high) (omega (arith, below)) has it)
    ])
  where
    first : List ℕ
    first = filter (supports d EV_ABS) (range_with_len 0 47)

    second : List ℕ
    second = filter (supports d EV_ABS) (range_with_len 62 2)

    above : 47 ≤ code → 62 ≤ code
    above h = elim (cases_lt code 62) [
      | inl l ↦ absurd (true≢false (rw (le-leb 47 code h, le-leb code 61 (omega (arith, l))) at own))
      | inr l ↦ l
    ]

    it : is_get_axis code (GetAxis client code) ≡ true
    it = rw (eq-eqb code code refl, lt-ltb code 64 below, own)

-- every plain axis of the device is asked for, so one that is not asked for it has not
pub plain-asked : (d : Description) (client code : ℕ) → list_any (is_get_axis code) (queries d client) ≡ false
    → code < 64 → has_axis d code ≡ false
plain-asked d client code h below = false_from_ne_true (has_axis d code) (λ is.
    let both = and_parts (supports d EV_ABS code) (not (is_multi_touch_code code)) is in
    true≢false (sym (axis-asked d client code both.0 (not-true (is_multi_touch_code code) both.1) below)
    ∙ (parts (is_get_axis code) d client h).3))

agree-spare : (d : Description) (client : ℕ) (v w : View) → IsSpare d v → IsSpare d w
    → AgreeBut whole (queries d client) v w
agree-spare d client v w s t = record {
  keys = λ is h. s.keys (keys-spared d client h) ∙ sym (t.keys (keys-spared d client h));
  switches = λ is h. let none : has_kind d EV_SW ≡ false = switches-spared d client h in s.switches none
      ∙ sym (t.switches none);
  leds = λ is h. let none : has_kind d EV_LED ≡ false = leds-spared d client h in s.leds none
      ∙ sym (t.leds none);
  axes = λ code is h. elim (cases_lt code 64) [
    | inl below ↦ (let none : has_axis d code ≡ false = plain-asked d client code h below in s.axes code none
        ∙ sym (t.axes code none))
    | inr past ↦ get_or_past v.axes code (pos 0) (omega (arith, past, s.sized.axes))
        ∙ sym (get_or_past w.axes code (pos 0) (omega (arith, past, t.sized.axes)))
  ];
  slot = λ is h. let none : d.slots ≡ 0 = slots-spared d client h in s.slot none ∙ sym (t.slot none);
  cells = λ is h. let none : d.slots ≡ 0 =
      slots-spared d client h in nil_from_length v.cells (omega (arith, none, s.sized.cells))
      ∙ sym (nil_from_length w.cells (omega (arith, none, t.sized.cells)));
  left_long = s.sized.axes;
  right_long = t.sized.axes;
  cells_long = s.sized.cells ∙ sym t.sized.cells;
}

-- a reader's view is made anew by the answers to all queries, as a new view is
pub spare-made_anew : (d : Description) (client : ℕ) (v : View) → IsSpare d v → IsMadeAnew d client v
unfolding IsMadeAnew
spare-made_anew d client v s = λ calls steps accepted answered.
    agree-whole (view_after_answers v calls) (view_after_answers (first_view d) calls)
    (agree-answers whole d calls v (first_view d) answered accepted s.sized.cells
    (rw steps (agree-spare d client v (first_view d) s (IsSpare-first_view d))))
