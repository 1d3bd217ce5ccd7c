-- What each arm of the code leaves and passes, from what its call changed.
use Rattle.std.proofs.Common.{◌≡◌, ℕ, ◌<◌, ◌≤◌, Bool, true, false, if◌then◌else◌, ◌&&◌, nat_le, ℤ, pos, List}
use Rattle.std.proofs.Common.{◌∷◌, length, set, get_or, refl, ap, ◌∙◌, arith, Option, Some, None}
use Rattle.std.specs.Ordering.{int_eq}
use Rattle.std.proofs.lemmas.Bool.Decides.{nat_tests}
use Rattle.inp_model.specs.declared.event.TheConstants.{EV_SYN, EV_KEY, EV_REL, EV_ABS, EV_SW, EV_LED, EV_SND}
use Rattle.inp_model.specs.declared.event.TheConstants.{EV_REP, REP_DELAY, REP_PERIOD, ABS_MAX}
use Rattle.inp_model.specs.declared.event.Event.{Event}
use Rattle.inp_model.specs.declared.axis_info.AxisInfo.{AxisInfo}
use Rattle.inp_model.specs.RawItem.{RawItem, Occurred, Described}
use Rattle.inp_model.specs.Description.{Description, has_kind, supports}
use Rattle.inp_model.specs.Event.{is_repeat, is_set, is_negative, is_multi_touch}
use Rattle.inp_model.specs.Defuzz.{defuzz}
use Rattle.inp_model.specs.State.{axis_info}
use Rattle.inp_model.specs.Passed.{passes_as, differ}
use Rattle.inp_state.specs.State.{Values, StateStandsFor}
use Rattle.inp_state.proofs.Steps.{event, at_kind, StateStandsFor-stateless, StateStandsFor-key}
use Rattle.inp_state.proofs.Steps.{StateStandsFor-switch, StateStandsFor-led, StateStandsFor-sound}
use Rattle.inp_state.proofs.Steps.{StateStandsFor-axis, StateStandsFor-delay, StateStandsFor-period}
use Rattle.inp_state.proofs.Steps.{StateStandsFor-described}
use Rattle.inp_state.proofs.Passes.{passes-key, passes-switch, passes-led, passes-axis, passes-setting}

pub key-stands : (d : Description) (r : List RawItem) (s : Values) (e : Event) (new : List Bool)
    → e.kind ≡ EV_KEY → supports d e.kind e.code ≡ true → e.code < length s.keys
    → new ≡ (if is_repeat e then s.keys else set s.keys e.code (is_set e)) → StateStandsFor d r s
    → StateStandsFor d (Occurred e ∷ r) (record s { keys = new })
key-stands d r s e new p u l n h =
    rw n
    (at_kind (λ x. supports d x.kind x.code ≡ true → x.code < length s.keys
    → StateStandsFor d (Occurred x ∷ r)
    (record s { keys = if is_repeat x then s.keys else set s.keys x.code (is_set x) })) e EV_KEY p
    (λ v m. StateStandsFor-key d r s e.code e.value v m h) u l)

pub key-passes : (d : Description) (r : List RawItem) (s : Values) (e : Event) (given : Option ℤ)
    → e.kind ≡ EV_KEY → supports d e.kind e.code ≡ true
    → given ≡ (if is_repeat e then Some e.value else if differ (get_or s.keys e.code false) (is_set e)
    then Some e.value else None) → StateStandsFor d r s → given ≡ passes_as d r e
key-passes d r s e given p u g h =
    g ∙ at_kind (λ x. supports d x.kind x.code ≡ true
    → (if is_repeat x then Some x.value else if differ (get_or s.keys x.code false) (is_set x)
    then Some x.value else None) ≡ passes_as d r x) e EV_KEY p
    (λ v. passes-key d r s.keys e.code e.value h.keys v) u

pub switch-stands : (d : Description) (r : List RawItem) (s : Values) (e : Event) (new : List Bool)
    → e.kind ≡ EV_SW → supports d e.kind e.code ≡ true → e.code < length s.switches
    → new ≡ set s.switches e.code (is_set e) → StateStandsFor d r s
    → StateStandsFor d (Occurred e ∷ r) (record s { switches = new })
switch-stands d r s e new p u l n h =
    rw n
    (at_kind (λ x. supports d x.kind x.code ≡ true → x.code < length s.switches
    → StateStandsFor d (Occurred x ∷ r) (record s { switches = set s.switches x.code (is_set x) })) e EV_SW p
    (λ v m. StateStandsFor-switch d r s e.code e.value v m h) u l)

pub switch-passes : (d : Description) (r : List RawItem) (s : Values) (e : Event) (given : Option ℤ)
    → e.kind ≡ EV_SW → supports d e.kind e.code ≡ true
    → given ≡ (if differ (get_or s.switches e.code false) (is_set e) then Some e.value else None)
    → StateStandsFor d r s → given ≡ passes_as d r e
switch-passes d r s e given p u g h =
    g ∙ at_kind (λ x. supports d x.kind x.code ≡ true
    → (if differ (get_or s.switches x.code false) (is_set x) then Some x.value else None)
    ≡ passes_as d r x) e EV_SW p
    (λ v. passes-switch d r s.switches e.code e.value h.switches v) u

pub led-stands : (d : Description) (r : List RawItem) (s : Values) (e : Event) (new : List Bool)
    → e.kind ≡ EV_LED → supports d e.kind e.code ≡ true → e.code < length s.leds
    → new ≡ set s.leds e.code (is_set e) → StateStandsFor d r s
    → StateStandsFor d (Occurred e ∷ r) (record s { leds = new })
led-stands d r s e new p u l n h =
    rw n
    (at_kind (λ x. supports d x.kind x.code ≡ true → x.code < length s.leds
    → StateStandsFor d (Occurred x ∷ r) (record s { leds = set s.leds x.code (is_set x) })) e EV_LED p
    (λ v m. StateStandsFor-led d r s e.code e.value v m h) u l)

pub led-passes : (d : Description) (r : List RawItem) (s : Values) (e : Event) (given : Option ℤ)
    → e.kind ≡ EV_LED → supports d e.kind e.code ≡ true
    → given ≡ (if differ (get_or s.leds e.code false) (is_set e) then Some e.value else None)
    → StateStandsFor d r s → given ≡ passes_as d r e
led-passes d r s e given p u g h =
    g ∙ at_kind (λ x. supports d x.kind x.code ≡ true
    → (if differ (get_or s.leds x.code false) (is_set x) then Some x.value else None)
    ≡ passes_as d r x) e EV_LED p
    (λ v. passes-led d r s.leds e.code e.value h.leds v) u

pub sound-stands : (d : Description) (r : List RawItem) (s : Values) (e : Event) (new : List Bool)
    → e.kind ≡ EV_SND → supports d e.kind e.code ≡ true → e.code < length s.sounds
    → new ≡ set s.sounds e.code (is_set e) → StateStandsFor d r s
    → StateStandsFor d (Occurred e ∷ r) (record s { sounds = new })
sound-stands d r s e new p u l n h =
    rw n
    (at_kind (λ x. supports d x.kind x.code ≡ true → x.code < length s.sounds
    → StateStandsFor d (Occurred x ∷ r) (record s { sounds = set s.sounds x.code (is_set x) })) e EV_SND p
    (λ v m. StateStandsFor-sound d r s e.code e.value v m h) u l)

pub axis-stands : (d : Description) (r : List RawItem) (s : Values) (e : Event) (new : List ℤ) (fuzz : ℤ)
    → e.kind ≡ EV_ABS → supports d e.kind e.code ≡ true → is_multi_touch e ≡ false → e.code ≤ ABS_MAX
    → e.code < length s.axes → fuzz ≡ (axis_info d r e.code).fuzz
    → new ≡ set s.axes e.code (defuzz e.value (get_or s.axes e.code (pos 0)) fuzz) → StateStandsFor d r s
    → StateStandsFor d (Occurred e ∷ r) (record s { axes = new })
axis-stands d r s e new fuzz p u m w l f n h =
    let moved = n ∙ ap (λ (z : ℤ). set s.axes e.code (defuzz e.value (get_or s.axes e.code (pos 0)) z)) f in
    rw moved
    (at_kind (λ x. supports d x.kind x.code ≡ true → is_multi_touch x ≡ false
    → StateStandsFor d (Occurred x ∷ r)
    (record s {
      axes = set s.axes x.code (defuzz x.value (get_or s.axes x.code (pos 0)) (axis_info d r x.code).fuzz);
    })) e EV_ABS
    p
    (λ v t. StateStandsFor-axis d r s e.code e.value v t w l h) u m)

pub axis-passes : (d : Description) (r : List RawItem) (s : Values) (e : Event) (given : Option ℤ) (fuzz : ℤ)
    → e.kind ≡ EV_ABS → supports d e.kind e.code ≡ true → is_multi_touch e ≡ false → e.code ≤ ABS_MAX
    → fuzz ≡ (axis_info d r e.code).fuzz
    → given ≡ (if int_eq (get_or s.axes e.code (pos 0)) (defuzz e.value (get_or s.axes e.code (pos 0)) fuzz)
    then None else Some (defuzz e.value (get_or s.axes e.code (pos 0)) fuzz)) → StateStandsFor d r s
    → given ≡ passes_as d r e
axis-passes d r s e given fuzz p u m w f g h =
    rw (g, f) (at_kind (λ x. supports d x.kind x.code ≡ true → is_multi_touch x ≡ false
    → (if int_eq (get_or s.axes x.code (pos 0))
    (defuzz x.value (get_or s.axes x.code (pos 0)) (axis_info d r x.code).fuzz) then None
    else Some (defuzz x.value (get_or s.axes x.code (pos 0)) (axis_info d r x.code).fuzz)) ≡ passes_as d r x)
    e EV_ABS p (λ v t. passes-axis d r s.axes e.code e.value (h.axes e.code w) v t) u m)

at_both : (P : Event → Type 0) (e : Event) (kind code : ℕ) → e.kind ≡ kind → e.code ≡ code
    → P (event kind code e.value) → P e
at_both P e kind code p q h = at_kind P e kind p (rw q h)

pub delay-stands : (d : Description) (r : List RawItem) (s : Values) (e : Event) (new : ℤ) → e.kind ≡ EV_REP
    → e.code ≡ REP_DELAY → supports d e.kind e.code ≡ true
    → new ≡ (if is_negative e then s.delay else e.value) → StateStandsFor d r s
    → StateStandsFor d (Occurred e ∷ r) (record s { delay = new })
delay-stands d r s e new p q u n h =
    rw n
    (at_both (λ x. supports d x.kind x.code ≡ true
    → StateStandsFor d (Occurred x ∷ r) (record s { delay = if is_negative x then s.delay else x.value })) e
    EV_REP REP_DELAY p q
    (λ v. StateStandsFor-delay d r s e.value v h) u)

pub period-stands : (d : Description) (r : List RawItem) (s : Values) (e : Event) (new : ℤ) → e.kind ≡ EV_REP
    → e.code ≡ REP_PERIOD → supports d e.kind e.code ≡ true
    → new ≡ (if is_negative e then s.period else e.value) → StateStandsFor d r s
    → StateStandsFor d (Occurred e ∷ r) (record s { period = new })
period-stands d r s e new p q u n h =
    rw n
    (at_both (λ x. supports d x.kind x.code ≡ true
    → StateStandsFor d (Occurred x ∷ r) (record s { period = if is_negative x then s.period else x.value })) e
    EV_REP REP_PERIOD p q
    (λ v. StateStandsFor-period d r s e.value v h) u)

pub delay-passes : (d : Description) (r : List RawItem) (s : Values) (e : Event) (given : Option ℤ)
    → e.kind ≡ EV_REP → e.code ≡ REP_DELAY → supports d e.kind e.code ≡ true
    → given ≡ (if int_eq s.delay (if is_negative e then s.delay else e.value) then None else Some e.value)
    → StateStandsFor d r s → given ≡ passes_as d r e
delay-passes d r s e given p q u g h =
    g ∙ at_both (λ x. supports d x.kind x.code ≡ true
    → (if int_eq s.delay (if is_negative x then s.delay else x.value) then None else Some x.value)
    ≡ passes_as d r x) e EV_REP REP_DELAY p q
    (λ v. passes-setting d r s.delay REP_DELAY e.value h.delay v) u

pub period-passes : (d : Description) (r : List RawItem) (s : Values) (e : Event) (given : Option ℤ)
    → e.kind ≡ EV_REP → e.code ≡ REP_PERIOD → supports d e.kind e.code ≡ true
    → given ≡ (if int_eq s.period (if is_negative e then s.period else e.value) then None else Some e.value)
    → StateStandsFor d r s → given ≡ passes_as d r e
period-passes d r s e given p q u g h =
    g ∙ at_both (λ x. supports d x.kind x.code ≡ true
    → (if int_eq s.period (if is_negative x then s.period else x.value) then None else Some x.value)
    ≡ passes_as d r x) e EV_REP REP_PERIOD p q
    (λ v. passes-setting d r s.period REP_PERIOD e.value h.period v) u

-- an event of a type without state
pub syn-stands : (d : Description) (r : List RawItem) (s : Values) (e : Event) → e.kind ≡ EV_SYN
    → StateStandsFor d r s → StateStandsFor d (Occurred e ∷ r) s
syn-stands d r s e p h =
    at_kind (λ x. StateStandsFor d (Occurred x ∷ r) s) e EV_SYN p
    (StateStandsFor-stateless d r s (event EV_SYN e.code e.value) refl refl refl refl refl refl h)

pub motion-stands : (d : Description) (r : List RawItem) (s : Values) (e : Event) → e.kind ≡ EV_REL
    → StateStandsFor d r s → StateStandsFor d (Occurred e ∷ r) s
motion-stands d r s e p h =
    at_kind (λ x. StateStandsFor d (Occurred x ∷ r) s) e EV_REL p
    (StateStandsFor-stateless d r s (event EV_REL e.code e.value) refl refl refl refl refl refl h)

second : (a b : Bool) → (a && b) ≡ true → b ≡ true
second true b h = h
second false b h = absurd (cc h)

-- a code of the autorepeat is one of its two settings
pub setting-within : (d : Description) (kind code : ℕ) → kind ≡ EV_REP
    → supports d kind code ≡ true → code ≤ 1
setting-within d kind code p s =
    let least : nat_le code 1 ≡ true = second (has_kind d EV_REP) (nat_le code 1) (rw p at s) in
    grind (arith, nat_tests)

-- an axis described anew
pub described-stands : (d : Description) (r : List RawItem) (s : Values) (code : ℕ) (i : AxisInfo)
    (axes : List ℤ) (infos : List AxisInfo) → code < length s.axes → code < length s.infos
    → axes ≡ set s.axes code i.value → infos ≡ set s.infos code i → StateStandsFor d r s
    → StateStandsFor d (Described code i ∷ r) (record s { axes = axes; infos = infos })
described-stands d r s code i axes infos within there a b h =
    rw (a, b) (StateStandsFor-described d r s code i within there h)
