-- What an event leaves of a state, part by part.
use Rattle.std.proofs.Common.{◌≡◌, ℕ, ◌<◌, ◌≤◌, Bool, true, false, ◌&&◌, not, if◌then◌else◌, nat_eq, ℤ, pos}
use Rattle.std.proofs.Common.{List, ◌∷◌, length, set, get_or, refl, sym, ap, ◌∙◌, arith, inl, inr}
use Rattle.std.proofs.lemmas.List.{get_or-set_same, get_or-set_other}
use Rattle.std.proofs.lemmas.Bool.{cases_eq, eqb-true, eq-eqb, ne_eqb, cond-true, cond_both, and_from}
use Rattle.std.proofs.lemmas.Bool.{and_left, and_right, and_parts}
use Rattle.std.proofs.lemmas.Bool.Decides.{nat_tests}
use Rattle.inp_model.specs.declared.event.TheConstants.{EV_KEY, EV_ABS, EV_SW, EV_LED, EV_SND, EV_REP}
use Rattle.inp_model.specs.declared.event.TheConstants.{REP_DELAY, REP_PERIOD, ABS_MAX}
use Rattle.inp_model.specs.declared.event.Event.{Event}
use Rattle.inp_model.specs.declared.axis_info.AxisInfo.{AxisInfo}
use Rattle.inp_model.specs.RawItem.{RawItem, Occurred, Described}
use Rattle.inp_model.specs.Description.{Description, supports, no_info, is_multi_touch_code}
use Rattle.inp_model.specs.Event.{is_on, is_repeat, is_set, is_negative, is_multi_touch}
use Rattle.inp_model.specs.Defuzz.{defuzz}
use Rattle.inp_model.specs.State.{key_down, turned_on, repeat_setting, axis_info, axis_value}
use Rattle.inp_state.specs.State.{Values, StateStandsFor}

abbrev pub event : ℕ → ℕ → ℤ → Event
event kind code value = record { kind = kind; code = code; value = value }

-- what holds of the event written with its type holds of the event
pub at_kind : (P : Event → Type 0) (e : Event) (kind : ℕ) → e.kind ≡ kind
    → P (event kind e.code e.value) → P e
at_kind P e kind p h = rw p h

-- ---- which codes an event is on

-- not on those of another type
pub off_kind : (d : Description) (kind code : ℕ) (e : Event) → nat_eq e.kind kind ≡ false
    → is_on d kind code e ≡ false
off_kind d kind code e h = grind arith

-- not on another code
pub off_code : (d : Description) (kind code : ℕ) (e : Event) → (code ≡ e.code → ⊥)
    → is_on d kind code e ≡ false
off_code d kind code e h = grind (arith, nat_tests)

-- on its own, where it is supported
pub on_code : (d : Description) (kind code : ℕ) (value : ℤ) → supports d kind code ≡ true
    → is_on d kind code (event kind code value) ≡ true
on_code d kind code value h =
    and_from (supports d kind code) _ h
    (and_from (nat_eq kind kind) (nat_eq code code) (eq-eqb kind kind refl) (eq-eqb code code refl))

-- not on any, where its own is not supported
pub off_all : (d : Description) (kind code : ℕ) (e : Event) → supports d e.kind e.code ≡ false
    → is_on d kind code e ≡ false
off_all d kind code e h =
    elim (cases_eq e.kind kind) [
      | inl same ↦ elim (cases_eq e.code code) [
        | inl alike ↦ and_left (supports d kind code) (nat_eq e.kind kind && nat_eq e.code code)
            (rw (alike, same) at h)
        | inr other ↦ off_code d kind code e (λ x. other (sym x))
      ]
      | inr other ↦ off_kind d kind code e (grind (arith, nat_tests))
    ]

-- ---- one part, at an event that is on no code of it

pub key_down-stays : (d : Description) (r : List RawItem) (e : Event) (code : ℕ)
    → is_on d EV_KEY code e ≡ false → key_down d (Occurred e ∷ r) code ≡ key_down d r code
unfolding key_down
key_down-stays d r e code h = rw (and_left (is_on d EV_KEY code e) (not (is_repeat e)) h)

pub key_down-repeat : (d : Description) (r : List RawItem) (e : Event) (code : ℕ) → is_repeat e ≡ true
    → key_down d (Occurred e ∷ r) code ≡ key_down d r code
unfolding key_down
key_down-repeat d r e code h = rw (and_right (is_on d EV_KEY code e) (not (is_repeat e)) (ap not h))

pub key_down-set : (d : Description) (r : List RawItem) (e : Event) (code : ℕ) → is_on d EV_KEY code e ≡ true
    → is_repeat e ≡ false → key_down d (Occurred e ∷ r) code ≡ is_set e
unfolding key_down
key_down-set d r e code h k = rw (and_from (is_on d EV_KEY code e) (not (is_repeat e)) h (ap not k))

pub turned_on-stays : (d : Description) (r : List RawItem) (e : Event) (kind code : ℕ)
    → is_on d kind code e ≡ false → turned_on d (Occurred e ∷ r) kind code ≡ turned_on d r kind code
unfolding turned_on
turned_on-stays d r e kind code h = rw h

pub turned_on-set : (d : Description) (r : List RawItem) (e : Event) (kind code : ℕ)
    → is_on d kind code e ≡ true → turned_on d (Occurred e ∷ r) kind code ≡ is_set e
unfolding turned_on
turned_on-set d r e kind code h = rw h

pub repeat_setting-stays : (d : Description) (r : List RawItem) (e : Event) (code : ℕ)
    → is_on d EV_REP code e ≡ false → repeat_setting d (Occurred e ∷ r) code ≡ repeat_setting d r code
unfolding repeat_setting
repeat_setting-stays d r e code h = rw (and_left (is_on d EV_REP code e) (not (is_negative e)) h)

pub repeat_setting-negative : (d : Description) (r : List RawItem) (e : Event) (code : ℕ)
    → is_negative e ≡ true → repeat_setting d (Occurred e ∷ r) code ≡ repeat_setting d r code
unfolding repeat_setting
repeat_setting-negative d r e code h = rw (and_right (is_on d EV_REP code e) (not (is_negative e)) (ap not h))

pub repeat_setting-set : (d : Description) (r : List RawItem) (e : Event) (code : ℕ)
    → is_on d EV_REP code e ≡ true → is_negative e ≡ false → repeat_setting d (Occurred e ∷ r) code ≡ e.value
unfolding repeat_setting
repeat_setting-set d r e code h k = rw (and_from (is_on d EV_REP code e) (not (is_negative e)) h (ap not k))

pub axis_value-stays : (d : Description) (r : List RawItem) (e : Event) (code : ℕ)
    → is_on d EV_ABS code e ≡ false → axis_value d (Occurred e ∷ r) code ≡ axis_value d r code
unfolding axis_value
axis_value-stays d r e code h = rw (and_left (is_on d EV_ABS code e) (not (is_multi_touch e)) h)

pub axis_value-moves : (d : Description) (r : List RawItem) (e : Event) (code : ℕ)
    → is_on d EV_ABS code e ≡ true → is_multi_touch e ≡ false
    → axis_value d (Occurred e ∷ r) code ≡ defuzz e.value (axis_value d r code) (axis_info d r code).fuzz
unfolding axis_value
axis_value-moves d r e code h k = rw (and_from (is_on d EV_ABS code e) (not (is_multi_touch e)) h (ap not k))

pub infos_kept : (d : Description) (r : List RawItem) (s : Values) (e : Event)
    → ((k : ℕ) → k ≤ ABS_MAX → get_or s.infos k no_info ≡ axis_info d r k) → (k : ℕ) → k ≤ ABS_MAX
    → get_or s.infos k no_info ≡ axis_info d (Occurred e ∷ r) k
unfolding axis_info
infos_kept d r s e h k b = h k b

-- ---- one part, at an event on a code of it

pub keys_after : (d : Description) (r : List RawItem) (keys : List Bool) (code : ℕ) (value : ℤ)
    → ((k : ℕ) → get_or keys k false ≡ key_down d r k) → supports d EV_KEY code ≡ true → code < length keys
    → (k : ℕ)
    → get_or (if is_repeat (event EV_KEY code value) then keys
    else set keys code (is_set (event EV_KEY code value))) k false
    ≡ key_down d (Occurred (event EV_KEY code value) ∷ r) k
keys_after d r keys code value h s l k =
    let e : Event = event EV_KEY code value in
    cond_both (is_repeat e) keys (set keys code (is_set e))
    (λ xs. get_or xs k false ≡ key_down d (Occurred e ∷ r) k)
    (λ p. h k ∙ sym (key_down-repeat d r e k p))
    (λ p. elim (cases_eq k code) [
      | inl same ↦ rw (
        same,
        get_or-set_same keys code (is_set e) false l,
        ← key_down-set d r e code (on_code d EV_KEY code value s) p,
        ← same,
      )
      | inr other ↦ get_or-set_other keys code k (is_set e) false other ∙ h k
          ∙ sym (key_down-stays d r e k (off_code d EV_KEY k e other))
    ])

pub bits_after : (d : Description) (r : List RawItem) (bits : List Bool) (kind code : ℕ) (value : ℤ)
    → ((k : ℕ) → get_or bits k false ≡ turned_on d r kind k) → supports d kind code ≡ true
    → code < length bits → (k : ℕ)
    → get_or (set bits code (is_set (event kind code value))) k false
    ≡ turned_on d (Occurred (event kind code value) ∷ r) kind k
bits_after d r bits kind code value h s l k =
    let e : Event = event kind code value in
    elim (cases_eq k code) [
      | inl same ↦ rw (
        same,
        get_or-set_same bits code (is_set e) false l,
        ← turned_on-set d r e kind code (on_code d kind code value s),
        ← same,
      )
      | inr other ↦ get_or-set_other bits code k (is_set e) false other ∙ h k
          ∙ sym (turned_on-stays d r e kind k (off_code d kind k e other))
    ]

pub axes_after : (d : Description) (r : List RawItem) (axes : List ℤ) (code : ℕ) (value : ℤ)
    → ((k : ℕ) → k ≤ ABS_MAX → get_or axes k (pos 0) ≡ axis_value d r k) → supports d EV_ABS code ≡ true
    → is_multi_touch (event EV_ABS code value) ≡ false → code ≤ ABS_MAX → code < length axes → (k : ℕ)
    → k ≤ ABS_MAX
    → get_or (set axes code (defuzz value (get_or axes code (pos 0)) (axis_info d r code).fuzz)) k (pos 0)
    ≡ axis_value d (Occurred (event EV_ABS code value) ∷ r) k
axes_after d r axes code value h s m w l k b =
    let e : Event = event EV_ABS code value in
    let after : ℤ = defuzz value (get_or axes code (pos 0)) (axis_info d r code).fuzz in
    elim (cases_eq k code) [
      | inl same ↦ rw (
        same,
        get_or-set_same axes code after (pos 0) l,
        h code w,
        ← axis_value-moves d r e code (on_code d EV_ABS code value s) m,
        ← same,
      )
      | inr other ↦ get_or-set_other axes code k after (pos 0) other ∙ h k b
          ∙ sym (axis_value-stays d r e k (off_code d EV_ABS k e other))
    ]

pub setting_after : (d : Description) (r : List RawItem) (setting : ℤ) (code : ℕ) (value : ℤ)
    → setting ≡ repeat_setting d r code → supports d EV_REP code ≡ true
    → (if is_negative (event EV_REP code value) then setting else value)
    ≡ repeat_setting d (Occurred (event EV_REP code value) ∷ r) code
setting_after d r setting code value h s =
    let e : Event = event EV_REP code value in
    cond_both (is_negative e) setting value (λ z. z ≡ repeat_setting d (Occurred e ∷ r) code)
    (λ p. h ∙ sym (repeat_setting-negative d r e code p))
    (λ p. sym (repeat_setting-set d r e code (on_code d EV_REP code value s) p))

-- ---- the whole state

-- at an event that is on no code of any part
pub StateStandsFor-still : (d : Description) (r : List RawItem) (s : Values) (e : Event)
    → ((code : ℕ) → is_on d EV_KEY code e ≡ false) → ((code : ℕ) → is_on d EV_SW code e ≡ false)
    → ((code : ℕ) → is_on d EV_LED code e ≡ false) → ((code : ℕ) → is_on d EV_SND code e ≡ false)
    → ((code : ℕ) → is_on d EV_ABS code e ≡ false) → ((code : ℕ) → is_on d EV_REP code e ≡ false)
    → StateStandsFor d r s → StateStandsFor d (Occurred e ∷ r) s
StateStandsFor-still d r s e key sw led snd abs rep h = record {
  keys = λ k. h.keys k ∙ sym (key_down-stays d r e k (key k));
  switches = λ k. h.switches k ∙ sym (turned_on-stays d r e EV_SW k (sw k));
  leds = λ k. h.leds k ∙ sym (turned_on-stays d r e EV_LED k (led k));
  sounds = λ k. h.sounds k ∙ sym (turned_on-stays d r e EV_SND k (snd k));
  axes = λ k b. h.axes k b ∙ sym (axis_value-stays d r e k (abs k));
  infos = infos_kept d r s e h.infos;
  delay = h.delay ∙ sym (repeat_setting-stays d r e REP_DELAY (rep REP_DELAY));
  period = h.period ∙ sym (repeat_setting-stays d r e REP_PERIOD (rep REP_PERIOD));
}

-- at an event that is not supported
pub StateStandsFor-unsupported : (d : Description) (r : List RawItem) (s : Values) (e : Event)
    → supports d e.kind e.code ≡ false → StateStandsFor d r s → StateStandsFor d (Occurred e ∷ r) s
StateStandsFor-unsupported d r s e u h =
    StateStandsFor-still d r s e (λ k. off_all d EV_KEY k e u) (λ k. off_all d EV_SW k e u)
    (λ k. off_all d EV_LED k e u) (λ k. off_all d EV_SND k e u) (λ k. off_all d EV_ABS k e u)
    (λ k. off_all d EV_REP k e u) h

-- at an event of a type without state
pub StateStandsFor-stateless : (d : Description) (r : List RawItem) (s : Values) (e : Event)
    → nat_eq e.kind EV_KEY ≡ false → nat_eq e.kind EV_SW ≡ false → nat_eq e.kind EV_LED ≡ false
    → nat_eq e.kind EV_SND ≡ false → nat_eq e.kind EV_ABS ≡ false → nat_eq e.kind EV_REP ≡ false
    → StateStandsFor d r s → StateStandsFor d (Occurred e ∷ r) s
StateStandsFor-stateless d r s e key sw led snd abs rep h =
    StateStandsFor-still d r s e (λ k. off_kind d EV_KEY k e key) (λ k. off_kind d EV_SW k e sw)
    (λ k. off_kind d EV_LED k e led) (λ k. off_kind d EV_SND k e snd) (λ k. off_kind d EV_ABS k e abs)
    (λ k. off_kind d EV_REP k e rep) h

-- what is kept of the other types stands after an event

abbrev KeysStand : Description → List RawItem → List Bool → Type 0
KeysStand d r keys = (k : ℕ) → get_or keys k false ≡ key_down d r k

abbrev BitsStand : Description → List RawItem → ℕ → List Bool → Type 0
BitsStand d r kind bits = (k : ℕ) → get_or bits k false ≡ turned_on d r kind k

abbrev AxesStand : Description → List RawItem → List ℤ → Type 0
AxesStand d r axes = (k : ℕ) → k ≤ ABS_MAX → get_or axes k (pos 0) ≡ axis_value d r k

abbrev Unless : Bool → Type 0 → Type 0
Unless true P = Unit {0}
Unless false P = P

unless : (b : Bool) (P : Type 0) → (b ≡ false → P) → Unless b P
unless true P h = tt
unless false P h = h refl

record OthersStand (d : Description) (r : List RawItem) (s : Values) (e : Event) : Type 0 where
  keys : Unless (nat_eq e.kind EV_KEY) (KeysStand d (Occurred e ∷ r) s.keys)
  switches : Unless (nat_eq e.kind EV_SW) (BitsStand d (Occurred e ∷ r) EV_SW s.switches)
  leds : Unless (nat_eq e.kind EV_LED) (BitsStand d (Occurred e ∷ r) EV_LED s.leds)
  sounds : Unless (nat_eq e.kind EV_SND) (BitsStand d (Occurred e ∷ r) EV_SND s.sounds)
  axes : Unless (nat_eq e.kind EV_ABS) (AxesStand d (Occurred e ∷ r) s.axes)
  infos : (k : ℕ) → k ≤ ABS_MAX → get_or s.infos k no_info ≡ axis_info d (Occurred e ∷ r) k
  delay : Unless (nat_eq e.kind EV_REP) (s.delay ≡ repeat_setting d (Occurred e ∷ r) REP_DELAY)
  period : Unless (nat_eq e.kind EV_REP) (s.period ≡ repeat_setting d (Occurred e ∷ r) REP_PERIOD)

others_stand : (d : Description) (r : List RawItem) (s : Values) (e : Event) → StateStandsFor d r s
    → OthersStand d r s e
others_stand d r s e h = record {
  keys = unless (nat_eq e.kind EV_KEY) (KeysStand d (Occurred e ∷ r) s.keys)
      (λ n k. h.keys k ∙ sym (key_down-stays d r e k (off_kind d EV_KEY k e n)));
  switches = bits EV_SW s.switches h.switches;
  leds = bits EV_LED s.leds h.leds;
  sounds = bits EV_SND s.sounds h.sounds;
  axes = unless (nat_eq e.kind EV_ABS) (AxesStand d (Occurred e ∷ r) s.axes)
      (λ n k b. h.axes k b ∙ sym (axis_value-stays d r e k (off_kind d EV_ABS k e n)));
  infos = infos_kept d r s e h.infos;
  delay = setting REP_DELAY s.delay h.delay;
  period = setting REP_PERIOD s.period h.period;
}
  where
    bits : (kind : ℕ) (xs : List Bool) → BitsStand d r kind xs
        → Unless (nat_eq e.kind kind) (BitsStand d (Occurred e ∷ r) kind xs)
    bits kind xs stand = unless (nat_eq e.kind kind) (BitsStand d (Occurred e ∷ r) kind xs)
        (λ n k. stand k ∙ sym (turned_on-stays d r e kind k (off_kind d kind k e n)))

    setting : (code : ℕ) (x : ℤ) → x ≡ repeat_setting d r code
        → Unless (nat_eq e.kind EV_REP) (x ≡ repeat_setting d (Occurred e ∷ r) code)
    setting code x stands = unless (nat_eq e.kind EV_REP) (x ≡ repeat_setting d (Occurred e ∷ r) code)
        (λ n. stands ∙ sym (repeat_setting-stays d r e code (off_kind d EV_REP code e n)))

pub StateStandsFor-key : (d : Description) (r : List RawItem) (s : Values) (code : ℕ) (value : ℤ)
    → supports d EV_KEY code ≡ true → code < length s.keys → StateStandsFor d r s
    → StateStandsFor d (Occurred (event EV_KEY code value) ∷ r)
    (record s {
      keys = if is_repeat (event EV_KEY code value) then s.keys
          else set s.keys code (is_set (event EV_KEY code value));
    })
StateStandsFor-key d r s code value u l h =
    let others = others_stand d r s (event EV_KEY code value) h in
    assumption (keys_after d r s.keys code value h.keys u l, others)

pub StateStandsFor-switch : (d : Description) (r : List RawItem) (s : Values) (code : ℕ) (value : ℤ)
    → supports d EV_SW code ≡ true → code < length s.switches → StateStandsFor d r s
    → StateStandsFor d (Occurred (event EV_SW code value) ∷ r)
    (record s { switches = set s.switches code (is_set (event EV_SW code value)) })
StateStandsFor-switch d r s code value u l h =
    let others = others_stand d r s (event EV_SW code value) h in
    assumption (bits_after d r s.switches EV_SW code value h.switches u l, others)

pub StateStandsFor-led : (d : Description) (r : List RawItem) (s : Values) (code : ℕ) (value : ℤ)
    → supports d EV_LED code ≡ true → code < length s.leds → StateStandsFor d r s
    → StateStandsFor d (Occurred (event EV_LED code value) ∷ r)
    (record s { leds = set s.leds code (is_set (event EV_LED code value)) })
StateStandsFor-led d r s code value u l h =
    let others = others_stand d r s (event EV_LED code value) h in
    assumption (bits_after d r s.leds EV_LED code value h.leds u l, others)

pub StateStandsFor-sound : (d : Description) (r : List RawItem) (s : Values) (code : ℕ) (value : ℤ)
    → supports d EV_SND code ≡ true → code < length s.sounds → StateStandsFor d r s
    → StateStandsFor d (Occurred (event EV_SND code value) ∷ r)
    (record s { sounds = set s.sounds code (is_set (event EV_SND code value)) })
StateStandsFor-sound d r s code value u l h =
    let others = others_stand d r s (event EV_SND code value) h in
    assumption (bits_after d r s.sounds EV_SND code value h.sounds u l, others)

pub StateStandsFor-axis : (d : Description) (r : List RawItem) (s : Values) (code : ℕ) (value : ℤ)
    → supports d EV_ABS code ≡ true → is_multi_touch (event EV_ABS code value) ≡ false → code ≤ ABS_MAX
    → code < length s.axes → StateStandsFor d r s
    → StateStandsFor d (Occurred (event EV_ABS code value) ∷ r)
    (record s {
      axes = set s.axes code (defuzz value (get_or s.axes code (pos 0)) (axis_info d r code).fuzz);
    })
StateStandsFor-axis d r s code value u m w l h =
    let others = others_stand d r s (event EV_ABS code value) h in
    assumption (axes_after d r s.axes code value h.axes u m w l, others)

pub StateStandsFor-delay : (d : Description) (r : List RawItem) (s : Values) (value : ℤ)
    → supports d EV_REP REP_DELAY ≡ true → StateStandsFor d r s
    → StateStandsFor d (Occurred (event EV_REP REP_DELAY value) ∷ r)
    (record s { delay = if is_negative (event EV_REP REP_DELAY value) then s.delay else value })
StateStandsFor-delay d r s value u h =
    let e : Event = event EV_REP REP_DELAY value in
    let others = others_stand d r s e h in
    let period =
    h.period
    ∙ sym (repeat_setting-stays d r e REP_PERIOD
    (off_code d EV_REP REP_PERIOD e (λ x. absurd (omega arith)))) in
    assumption (setting_after d r s.delay REP_DELAY value h.delay u, period, others)

pub StateStandsFor-period : (d : Description) (r : List RawItem) (s : Values) (value : ℤ)
    → supports d EV_REP REP_PERIOD ≡ true → StateStandsFor d r s
    → StateStandsFor d (Occurred (event EV_REP REP_PERIOD value) ∷ r)
    (record s { period = if is_negative (event EV_REP REP_PERIOD value) then s.period else value })
StateStandsFor-period d r s value u h =
    let e : Event = event EV_REP REP_PERIOD value in
    let others = others_stand d r s e h in
    let delay =
    h.delay
    ∙ sym (repeat_setting-stays d r e REP_DELAY
    (off_code d EV_REP REP_DELAY e (λ x. absurd (omega arith)))) in
    assumption (setting_after d r s.period REP_PERIOD value h.period u, delay, others)

-- ---- a multi-touch event, which belongs to the slots

axis_value-multi_touch : (d : Description) (r : List RawItem) (e : Event) (code : ℕ) → is_multi_touch e ≡ true
    → axis_value d (Occurred e ∷ r) code ≡ axis_value d r code
unfolding axis_value
axis_value-multi_touch d r e code h =
    rw (and_right (is_on d EV_ABS code e) (not (is_multi_touch e)) (ap not h))

-- it changes nothing here; for whoever keeps slots beside a state
pub StateStandsFor-multi_touch : (d : Description) (r : List RawItem) (s : Values) (e : Event)
    → is_multi_touch e ≡ true → StateStandsFor d r s → StateStandsFor d (Occurred e ∷ r) s
StateStandsFor-multi_touch d r s e m h =
    let axis : e.kind ≡ EV_ABS =
    eqb-true e.kind EV_ABS (and_parts (nat_eq e.kind EV_ABS) (is_multi_touch_code e.code) m).0 in
    let other : (kind code : ℕ) → nat_eq EV_ABS kind ≡ false → is_on d kind code e ≡ false =
    λ kind code n. off_kind d kind code e (rw axis n) in
    record {
      keys = λ k. h.keys k ∙ sym (key_down-stays d r e k (other EV_KEY k refl));
      switches = λ k. h.switches k ∙ sym (turned_on-stays d r e EV_SW k (other EV_SW k refl));
      leds = λ k. h.leds k ∙ sym (turned_on-stays d r e EV_LED k (other EV_LED k refl));
      sounds = λ k. h.sounds k ∙ sym (turned_on-stays d r e EV_SND k (other EV_SND k refl));
      axes = λ k b. h.axes k b ∙ sym (axis_value-multi_touch d r e k m);
      infos = infos_kept d r s e h.infos;
      delay = h.delay ∙ sym (repeat_setting-stays d r e REP_DELAY (other EV_REP REP_DELAY refl));
      period = h.period ∙ sym (repeat_setting-stays d r e REP_PERIOD (other EV_REP REP_PERIOD refl));
    }

-- ---- an axis that is described anew

axis_value-described : (d : Description) (r : List RawItem) (code : ℕ) (i : AxisInfo) (k : ℕ)
    → axis_value d (Described code i ∷ r) k ≡ (if nat_eq code k then i.value else axis_value d r k)
unfolding axis_value
axis_value-described d r code i k = refl

axis_info-described : (d : Description) (r : List RawItem) (code : ℕ) (i : AxisInfo) (k : ℕ)
    → axis_info d (Described code i ∷ r) k ≡ (if nat_eq code k then i else axis_info d r k)
unfolding axis_info
axis_info-described d r code i k = refl

-- its value and its description are those that it was given
pub StateStandsFor-described : (d : Description) (r : List RawItem) (s : Values) (code : ℕ) (i : AxisInfo)
    → code < length s.axes → code < length s.infos → StateStandsFor d r s
    → StateStandsFor d (Described code i ∷ r)
    (record s { axes = set s.axes code i.value; infos = set s.infos code i })
unfolding key_down turned_on repeat_setting
StateStandsFor-described d r s code i within there h = record {
  keys = h.keys;
  switches = h.switches;
  leds = h.leds;
  sounds = h.sounds;
  axes = λ k b. elim (cases_eq k code) [
    | inl same ↦ cc (
      same,
      get_or-set_same s.axes code i.value (pos 0) within,
      sym (axis_value-described d r code i k
          ∙ cond-true (nat_eq code k) i.value (axis_value d r k) (eq-eqb code k (sym same))),
    )
    | inr other ↦ get_or-set_other s.axes code k i.value (pos 0) other ∙ h.axes k b
        ∙ sym (rw (axis_value-described d r code i k, ne_eqb code k (λ e. other (sym e))))
  ];
  infos = λ k b. elim (cases_eq k code) [
    | inl same ↦ cc (
      same,
      get_or-set_same s.infos code i no_info there,
      sym (axis_info-described d r code i k
          ∙ cond-true (nat_eq code k) i (axis_info d r k) (eq-eqb code k (sym same))),
    )
    | inr other ↦ get_or-set_other s.infos code k i no_info other ∙ h.infos k b
        ∙ sym (rw (axis_info-described d r code i k, ne_eqb code k (λ e. other (sym e))))
  ];
  delay = h.delay;
  period = h.period;
}
