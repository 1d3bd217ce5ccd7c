-- Events and answers leave in a reader's view, as it is in a new one, what the device cannot have.
use Rattle.std.proofs.Common.{◌≡◌, ◌≤◌, ℕ, nat_eq, nat_lt, ℤ, pos, Bool, true, false, ◌&&◌, not, List, []}
use Rattle.std.proofs.Common.{◌∷◌, length, refl, sym, subst, ◌∙◌, if◌then◌else◌, inl, inr, arith}
use Rattle.std.specs.Prelude.{slice_index_or}
use Rattle.std.specs.List.{range_with_len}
use Rattle.std.proofs.lemmas.Bool.{true≢false, false≢true, eqb-true, ne_eqb, cond_both, and_parts, cases_lt}
use Rattle.std.proofs.lemmas.Bool.{cases_eq}
use Rattle.std.proofs.lemmas.List.{get_or-set_other, get_or_past, length-map}
use Rattle.std.proofs.lemmas.List.FromFn.{length-range_with_len}
use Rattle.inp_model.specs.declared.event.Event.{Event}
use Rattle.inp_model.specs.declared.event.TheConstants.{EV_KEY, EV_ABS, EV_SW, EV_LED}
use Rattle.inp_model.specs.declared.multi_touch.TheConstants.{ABS_MT_SLOT}
use Rattle.inp_model.specs.declared.step.Step.{Step}
use Rattle.inp_model.specs.declared.step.Step.TheVariants.{GetKeys, GetSwitches, GetLeds, GetAxis, SyncSlots}
use Rattle.inp_model.specs.declared.reply.Reply.{Reply}
use Rattle.inp_model.specs.declared.reply.Reply.TheVariants.{Bits}
use Rattle.inp_model.specs.RawItem.{RawItem, Occurred, Described}
use Rattle.inp_model.specs.Raw.{raw}
use Rattle.inp_model.specs.State.{key_down, turned_on}
use Rattle.inp_model.specs.Description.{Description, has_kind, has_code, supports, is_multi_touch_code}
use Rattle.inp_model.specs.Event.{is_repeat, is_set}
use Rattle.inp_model.specs.Reply.{Answer, IsAnswer, accepted, is_accepted, code_on, bitmap_of, bits_answer}
use Rattle.inp_model.proofs.Descriptions.{get_or-replicate_same}
use Rattle.inp_recon.proofs.ToldBits.{told_flag}
use Rattle.inp_recon.specs.declared.view.View.{View}
use Rattle.inp_recon.specs.View.{bit_in, bits_in, flags_after_reply, key_count, code_count, with_flag}
use Rattle.inp_recon.specs.View.{axes_after_event, slot_after_event, first_view, view_after_event}
use Rattle.inp_recon.specs.View.{view_after_answer}
use Rattle.inp_recon.proofs.Answered.{keys_after_answer, switches_after_answer, leds_after_answer}
use Rattle.inp_recon.proofs.Answered.{axes_after_answer, slot_after_answer, view_after_answer-parts}
use Rattle.inp_recon.proofs.Sizes.{IsSizedFor-first_view, IsSizedFor-after_event, IsSizedFor-after_answer}
use Rattle.inp_recon.specs.Synchronised.{has_axis}
use Rattle.inp_reader.proofs.QueryAnswers.{answered-as}
use Rattle.inp_reader.specs.Spare.{IsSpare, is_event_of}
use Rattle.inp_reader.proofs.UnsetSlotAxes.{other-after_reply, other-after_event, has_cells}

-- An event of the device

had-kind : (k c : Bool) → (k && c) ≡ true → k ≡ false → ⊥
had-kind true c h none = true≢false none
had-kind false c h none = false≢true h

-- an event of another type than keys leaves them as they are
pub keys-stay : (b c : Bool) (new old : List Bool) → b ≡ false → (if b && c then new else old) ≡ old
keys-stay true c new old h = absurd cc
keys-stay false c new old h = refl

long-bits : (count : ℕ) (words : List ℕ) → length (bits_in count words) ≡ count
unfolding bits_in
long-bits count words = length-map (range_with_len 0 count) (bit_in words) ∙ length-range_with_len 0 count

-- so it is after all answers to a query of these
told-off : (count kind : ℕ) (d : Description) (past : List Step) (code : ℕ) → count ≤ 768
    → code_on d (raw d past) kind code ≡ false
    → slice_index_or (bits_in count (bitmap_of (code_on d (raw d past) kind))) code false ≡ false
told-off count kind d past code few off = elim (cases_lt code count) [
  | inl lt ↦ told_flag count (code_on d (raw d past) kind) code lt (omega (arith, lt, few)) ∙ off
  | inr past_end ↦ get_or_past (bits_in count (bitmap_of (code_on d (raw d past) kind))) code false
      (omega (arith, past_end, long-bits count (bitmap_of (code_on d (raw d past) kind))))
]

flags_refused : (count : ℕ) (reply : Reply) (flags : List Bool) → is_accepted reply ≡ false
    → flags_after_reply count reply flags ≡ flags
flags_refused count (Bits at words) flags h = absurd cc
flags_refused count _ flags h = refl

module _ (d : Description) where
  of-kind : (e : Event) (kind : ℕ) → e.kind ≡ kind → is_event_of d e ≡ true
      → is_event_of d (record e { kind = kind }) ≡ true
  of-kind e kind h is = rw (← h) is

  -- a flag of a type that the device has not is not set
  pub no-keys : (e : Event) → is_event_of d e ≡ true → has_kind d EV_KEY ≡ false
      → nat_eq e.kind EV_KEY ≡ false
  no-keys e is none =
      ne_eqb e.kind EV_KEY
      (λ k. had-kind (has_kind d EV_KEY) (has_code d EV_KEY e.code) (of-kind e EV_KEY k is) none)

  -- an event of the device is no switch's where it has none
  pub no-switches : (e : Event) → is_event_of d e ≡ true → has_kind d EV_SW ≡ false
      → nat_eq e.kind EV_SW ≡ false
  no-switches e is none =
      ne_eqb e.kind EV_SW
      (λ k. had-kind (has_kind d EV_SW) (has_code d EV_SW e.code) (of-kind e EV_SW k is) none)

  -- an event of the device is no LED's where it has none
  pub no-leds : (e : Event) → is_event_of d e ≡ true → has_kind d EV_LED ≡ false
      → nat_eq e.kind EV_LED ≡ false
  no-leds e is none =
      ne_eqb e.kind EV_LED
      (λ k. had-kind (has_kind d EV_LED) (has_code d EV_LED e.code) (of-kind e EV_LED k is) none)

  -- a flag of a code that the device has not is not set by an event that it has, where b tests the event's
  -- type
  flags-after : (kind count : ℕ) (flags : List Bool) (e : Event) (code : ℕ) (b : Bool)
      → (b ≡ true → nat_eq e.kind kind ≡ true) → is_event_of d e ≡ true
      → (is_event_of d (record e { kind = kind }) ≡ true → supports d kind e.code ≡ true)
      → supports d kind code ≡ false
      → slice_index_or (if b then with_flag count flags e else flags) code false
      ≡ slice_index_or flags code false
  flags-after kind count flags e code b of own told none =
      cond_both b _ _ (λ x. slice_index_or x code false ≡ slice_index_or flags code false)
      (λ is. cond_both (nat_lt e.code count) _ _
      (λ x. slice_index_or x code false ≡ slice_index_or flags code false)
      (λ _. get_or-set_other flags e.code code (is_set e) false
      (apart_by (eqb-true e.kind kind (of is)))) (λ _. refl))
      (λ _. refl)
    where
      apart_by : e.kind ≡ kind → code ≡ e.code → ⊥
      apart_by is same = true≢false (rw (← told (of-kind e kind is own), ← same) none)

  -- an axis of its own that an event is about is one that the device has
  axis-supported : (code : ℕ) (value : ℤ)
      → is_event_of d (record { kind = EV_ABS; code = code; value = value }) ≡ true
      → is_multi_touch_code code ≡ false → has_axis d code ≡ true
  axis-supported code value is own = elim (cases_eq code ABS_MT_SLOT) [
    | inl same ↦ absurd (true≢false (rw same at own))
    | inr other ↦
        cc (ne_eqb code ABS_MT_SLOT other, is, own)
  ]

  apart : (code other : ℕ) → has_axis d code ≡ false → has_axis d other ≡ true → code ≡ other → ⊥
  apart code other h k e = true≢false (rw (← k, ← e) h)

  axis-after_event : (axes : List ℤ) (e : Event) (code : ℕ) → is_event_of d e ≡ true → has_axis d code ≡ false
      → slice_index_or (axes_after_event axes e) code (pos 0) ≡ slice_index_or axes code (pos 0)
  axis-after_event axes e code is none = other-after_event axes code e (λ abs own.
      let there = of-kind e EV_ABS (eqb-true e.kind EV_ABS abs) is in
      apart code e.code none (axis-supported e.code e.value there own))

  slot-after_event : (slot : ℤ) (e : Event) → is_event_of d e ≡ true → d.slots ≡ 0
      → slot_after_event slot e ≡ slot
  slot-after_event slot e is none =
      cond_both (nat_eq e.kind EV_ABS && nat_eq e.code ABS_MT_SLOT) e.value slot (λ (z : ℤ). z ≡ slot)
      (λ t.
      let both = and_parts (nat_eq e.kind EV_ABS) (nat_eq e.code ABS_MT_SLOT) t in
      let there = of-kind e EV_ABS (eqb-true e.kind EV_ABS both.0) is in
      let some : nat_lt 0 d.slots ≡ true = sym (rw both.1) ∙ there in
      absurd (false≢true (rw none at some)))
      (λ _. refl)

  -- an event of the device sets only what the device has, so all else stays
  pub IsSpare-after_event : (v : View) (e : Event) → is_event_of d e ≡ true → IsSpare d v
      → IsSpare d (view_after_event v e)
  unfolding view_after_event
  IsSpare-after_event v e is s = record {
    sized = IsSizedFor-after_event d.slots v e s.sized;
    keys = λ none. keys-stay (nat_eq e.kind EV_KEY) (not (is_repeat e)) (with_flag key_count v.keys e) v.keys
        (no-keys e is none) ∙ s.keys none;
    switches = λ none. rw (no-switches e is none) (s.switches none);
    leds = λ none. rw (no-leds e is none) (s.leds none);
    key_codes =
        λ code none. flags-after EV_KEY key_count v.keys e code (nat_eq e.kind EV_KEY && not (is_repeat e))
        (λ h. (and_parts (nat_eq e.kind EV_KEY) (not (is_repeat e)) h).0) is (λ h. h) none
        ∙ s.key_codes code none;
    switch_codes =
        λ code none. flags-after EV_SW code_count v.switches e code (nat_eq e.kind EV_SW) (λ h. h) is
        (λ h. h) none ∙ s.switch_codes code none;
    led_codes = λ code none. flags-after EV_LED code_count v.leds e code (nat_eq e.kind EV_LED) (λ h. h) is
        (λ h. h) none ∙ s.led_codes code none;
    axes = λ code none. axis-after_event v.axes e code is none ∙ s.axes code none;
    slot = λ none. slot-after_event v.slot e is none ∙ s.slot none;
  }

  -- An answer to what the device has

  -- no key or switch that the device has not is on
  pub never_down : (r : List RawItem) (code : ℕ) → supports d EV_KEY code ≡ false → key_down d r code ≡ false
  unfolding key_down
  never_down [] code none = refl
  never_down (Described axis i ∷ r) code none = never_down r code none
  never_down (Occurred e ∷ r) code none = rw none (never_down r code none)

  -- an event of a code that the device has not turns nothing on
  pub never_on : (r : List RawItem) (kind code : ℕ) → supports d kind code ≡ false
      → turned_on d r kind code ≡ false
  unfolding turned_on
  never_on [] kind code none = refl
  never_on (Described axis i ∷ r) kind code none = never_on r kind code none
  never_on (Occurred e ∷ r) kind code none = rw none (never_on r kind code none)

  unfoldable pub IsWanted : Step → Type 0
  IsWanted (GetKeys client) = has_kind d EV_KEY ≡ true
  IsWanted (GetSwitches client) = has_kind d EV_SW ≡ true
  IsWanted (GetLeds client) = has_kind d EV_LED ≡ true
  IsWanted (GetAxis client code) = has_axis d code ≡ true
  IsWanted (SyncSlots client) = nat_lt 0 d.slots ≡ true
  IsWanted _ = Unit {0}

  -- flags of a kind stay as they are where the device has not the kind, and a code off that it has not
  abbrev StaysOff : ℕ → List Bool → List Bool → Type 0
  StaysOff kind flags new =
      (has_kind d kind ≡ false → new ≡ flags) ×
      ((code : ℕ) → supports d kind code ≡ false → slice_index_or flags code false
      ≡ false → slice_index_or new code false ≡ false)

  -- flags of a type that the device has, once they were asked for
  told-stays : (past : List Step) (x : Step) (kind count : ℕ) (given : Answer) (flags : List Bool)
      → has_kind d kind ≡ true → accepted d past x ≡ bits_answer d past kind → count ≤ 768
      → ((code : ℕ) → supports d kind code ≡ false → code_on d (raw d past) kind code ≡ false)
      → IsAnswer d past x given
      → StaysOff kind flags (flags_after_reply count given.reply flags)
  told-stays past x kind count given flags wanted gives few off are = (
    λ none. absurd cc,
    λ code none was.
        let P : Answer → Type 0 =
        λ a. slice_index_or (flags_after_reply count a.reply flags) code false ≡ false in
        answered-as d past x given P are
        (subst P (sym gives) (told-off count kind d past code few (off code none)))
        (λ reply refused. rw (flags_refused count reply flags refused) was),
  )

  keys-answer : (past : List Step) (x : Step) (given : Answer) (keys : List Bool) → IsWanted x
      → IsAnswer d past x given → StaysOff EV_KEY keys (keys_after_answer x given.reply keys)
  unfolding IsWanted
  keys-answer past (GetKeys client) given keys wanted are =
      told-stays past (GetKeys client) EV_KEY key_count given keys wanted refl (omega arith)
      (never_down (raw d past)) are
  keys-answer past _ given keys wanted are = (λ none. refl, λ code none was. was)

  switches-answer : (past : List Step) (x : Step) (given : Answer) (flags : List Bool) → IsWanted x
      → IsAnswer d past x given → StaysOff EV_SW flags (switches_after_answer x given.reply flags)
  unfolding IsWanted
  switches-answer past (GetSwitches client) given flags wanted are =
      told-stays past (GetSwitches client) EV_SW code_count given flags wanted refl (omega arith)
      (never_on (raw d past) EV_SW) are
  switches-answer past _ given flags wanted are = (λ none. refl, λ code none was. was)

  leds-answer : (past : List Step) (x : Step) (given : Answer) (flags : List Bool) → IsWanted x
      → IsAnswer d past x given → StaysOff EV_LED flags (leds_after_answer x given.reply flags)
  unfolding IsWanted
  leds-answer past (GetLeds client) given flags wanted are =
      told-stays past (GetLeds client) EV_LED code_count given flags wanted refl (omega arith)
      (never_on (raw d past) EV_LED) are
  leds-answer past _ given flags wanted are = (λ none. refl, λ code none was. was)

  spare-axes : (x : Step) (reply : Reply) (axes : List ℤ) (code : ℕ) → IsWanted x → has_axis d code ≡ false
      → slice_index_or (axes_after_answer x reply axes) code (pos 0) ≡ slice_index_or axes code (pos 0)
  unfolding IsWanted
  spare-axes (GetAxis client index) reply axes code wanted none =
      other-after_reply axes code index reply (λ _. apart code index none wanted)
  spare-axes _ reply axes code wanted none = refl

  spare-slot : (x : Step) (reply : Reply) (slot : ℤ) → IsWanted x → d.slots ≡ 0
      → slot_after_answer x reply slot ≡ slot
  unfolding IsWanted
  spare-slot (SyncSlots client) reply slot wanted none = absurd (false≢true (rw none at wanted))
  spare-slot _ reply slot wanted none = refl

  -- only what the device has is asked for, and it answers that a code that it has not is off
  pub IsSpare-after_answer : (past : List Step) (v : View) (x : Step) (given : Answer) → IsWanted x
      → IsAnswer d past x given → IsSpare d v → IsSpare d (view_after_answer v x given.reply given.cells)
  IsSpare-after_answer past v x given wanted are s =
      let parts = view_after_answer-parts v x given.reply given.cells in
      let sized =
      IsSizedFor-after_answer d.slots v x given.reply given.cells
      (has_cells d past x given v.cells are s.sized.cells) s.sized in
      rw parts
      (record {
        sized = rw parts at sized;
        keys = λ none. (keys-answer past x given v.keys wanted are).0 none ∙ s.keys none;
        switches = λ none. (switches-answer past x given v.switches wanted are).0 none ∙ s.switches none;
        leds = λ none. (leds-answer past x given v.leds wanted are).0 none ∙ s.leds none;
        key_codes =
            λ code none. (keys-answer past x given v.keys wanted are).1 code none (s.key_codes code none);
        switch_codes =
            λ code none. (switches-answer past x given v.switches wanted are).1 code none
            (s.switch_codes code none);
        led_codes =
            λ code none. (leds-answer past x given v.leds wanted are).1 code none (s.led_codes code none);
        axes = λ code none. spare-axes x given.reply v.axes code wanted none ∙ s.axes code none;
        slot = λ none. spare-slot x given.reply v.slot wanted none ∙ s.slot none;
      })

  -- A new view

  -- in a new view all flags are off, all axes at 0, and slot 0 is the current one
  pub IsSpare-first_view : IsSpare d (first_view d)
  unfolding first_view
  IsSpare-first_view = record {
    sized = IsSizedFor-first_view d;
    keys = λ none. refl;
    switches = λ none. refl;
    leds = λ none. refl;
    key_codes = λ code none. get_or-replicate_same key_count code false;
    switch_codes = λ code none. get_or-replicate_same code_count code false;
    led_codes = λ code none. get_or-replicate_same code_count code false;
    axes = λ code none. get_or-replicate_same code_count code (pos 0);
    slot = λ none. refl;
  }
