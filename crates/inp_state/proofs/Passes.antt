-- Under which value an event is passed, by its type, from what is kept.
use Rattle.std.proofs.Common.{◌≡◌, ℕ, Bool, true, false, not, if◌then◌else◌, nat_eq, ℤ, pos, List, ◌∷◌}
use Rattle.std.proofs.Common.{get_or, refl, sym, ◌∙◌, Some, None}
use Rattle.std.specs.Ordering.{int_eq}
use Rattle.inp_model.specs.declared.event.TheConstants.{EV_SYN, EV_KEY, EV_ABS, EV_SW, EV_LED, EV_REP}
use Rattle.inp_model.specs.declared.event.Event.{Event}
use Rattle.inp_model.specs.RawItem.{RawItem, Occurred}
use Rattle.inp_model.specs.Description.{Description, supports}
use Rattle.inp_model.specs.Event.{is_repeat, is_set, is_negative, is_multi_touch}
use Rattle.inp_model.specs.Defuzz.{defuzz}
use Rattle.inp_model.specs.State.{key_down, turned_on, repeat_setting, axis_info, axis_value}
use Rattle.inp_model.specs.Passed.{passed_if, moved_to, switch_passes, code_passes_as, passes_as, differ}
use Rattle.inp_state.proofs.Steps.{event, on_code, key_down-set, turned_on-set, axis_value-moves}
use Rattle.inp_state.proofs.Steps.{setting_after}

differ_same : (a b c d : Bool) (v : ℤ) → a ≡ c → b ≡ d → passed_if (differ a b) v ≡ passed_if (differ c d) v
differ_same a b c d v p q = cc

moved_same : (a b c d : ℤ) → a ≡ c → b ≡ d → moved_to a b ≡ moved_to c d
moved_same a b c d p q = cc

settings_same : (a b c d v : ℤ) → a ≡ c → b ≡ d
    → passed_if (not (int_eq a b)) v ≡ passed_if (not (int_eq c d)) v
settings_same a b c d v p q = cc

-- a setting is passed where it is not the same
pub changed : (same : Bool) (v : ℤ) → (if same then None else Some v) ≡ passed_if (not same) v
changed true v = refl
changed false v = refl

-- what is not supported
pub passes-unsupported : (d : Description) (r : List RawItem) (e : Event) → nat_eq e.kind EV_SYN ≡ false
    → supports d e.kind e.code ≡ false → None ≡ passes_as d r e
passes-unsupported d r e h k = sym (cc (h, k))

-- what is supported, written with its type
on_kind : (d : Description) (r : List RawItem) (kind code : ℕ) (value : ℤ) → nat_eq kind EV_SYN ≡ false
    → supports d kind code ≡ true
    → code_passes_as d r (event kind code value) ≡ passes_as d r (event kind code value)
on_kind d r kind code value h k = sym (cc (h, k))

-- EV_KEY
key_by : (d : Description) (r : List RawItem) (keys : List Bool) (code : ℕ) (value : ℤ) (repeat : Bool)
    → is_repeat (event EV_KEY code value) ≡ repeat → ((k : ℕ) → get_or keys k false ≡ key_down d r k)
    → supports d EV_KEY code ≡ true
    → (if repeat then Some value
    else passed_if (differ (get_or keys code false) (is_set (event EV_KEY code value))) value)
    ≡ passed_if (if repeat then true
    else differ (key_down d r code) (key_down d (Occurred (event EV_KEY code value) ∷ r) code)) value
key_by d r keys code value true p h u = refl
key_by d r keys code value false p h u =
    differ_same (get_or keys code false) (is_set (event EV_KEY code value)) (key_down d r code)
    (key_down d (Occurred (event EV_KEY code value) ∷ r) code) value (h code)
    (sym (key_down-set d r (event EV_KEY code value) code (on_code d EV_KEY code value u) p))

pub passes-key : (d : Description) (r : List RawItem) (keys : List Bool) (code : ℕ) (value : ℤ)
    → ((k : ℕ) → get_or keys k false ≡ key_down d r k) → supports d EV_KEY code ≡ true
    → (if is_repeat (event EV_KEY code value) then Some value
    else passed_if (differ (get_or keys code false) (is_set (event EV_KEY code value))) value)
    ≡ passes_as d r (event EV_KEY code value)
passes-key d r keys code value h u =
    key_by d r keys code value (is_repeat (event EV_KEY code value)) refl h u
    ∙ on_kind d r EV_KEY code value refl u

-- EV_SW, EV_LED
turned_same : (d : Description) (r : List RawItem) (bits : List Bool) (kind code : ℕ) (value : ℤ)
    → ((k : ℕ) → get_or bits k false ≡ turned_on d r kind k) → supports d kind code ≡ true
    → passed_if (differ (get_or bits code false) (is_set (event kind code value))) value
    ≡ passed_if (switch_passes d r (event kind code value)) value
turned_same d r bits kind code value h u =
    let e : Event = event kind code value in
    differ_same (get_or bits code false) (is_set e) (turned_on d r kind code)
    (turned_on d (Occurred e ∷ r) kind code) value (h code)
    (sym (turned_on-set d r e kind code (on_code d kind code value u)))

pub passes-switch : (d : Description) (r : List RawItem) (bits : List Bool) (code : ℕ) (value : ℤ)
    → ((k : ℕ) → get_or bits k false ≡ turned_on d r EV_SW k) → supports d EV_SW code ≡ true
    → passed_if (differ (get_or bits code false) (is_set (event EV_SW code value))) value
    ≡ passes_as d r (event EV_SW code value)
passes-switch d r bits code value h u =
    turned_same d r bits EV_SW code value h u ∙ on_kind d r EV_SW code value refl u

pub passes-led : (d : Description) (r : List RawItem) (bits : List Bool) (code : ℕ) (value : ℤ)
    → ((k : ℕ) → get_or bits k false ≡ turned_on d r EV_LED k) → supports d EV_LED code ≡ true
    → passed_if (differ (get_or bits code false) (is_set (event EV_LED code value))) value
    ≡ passes_as d r (event EV_LED code value)
passes-led d r bits code value h u =
    turned_same d r bits EV_LED code value h u ∙ on_kind d r EV_LED code value refl u

-- EV_ABS
pub passes-axis : (d : Description) (r : List RawItem) (axes : List ℤ) (code : ℕ) (value : ℤ)
    → get_or axes code (pos 0) ≡ axis_value d r code → supports d EV_ABS code ≡ true
    → is_multi_touch (event EV_ABS code value) ≡ false
    → moved_to (get_or axes code (pos 0)) (defuzz value (get_or axes code (pos 0)) (axis_info d r code).fuzz)
    ≡ passes_as d r (event EV_ABS code value)
passes-axis d r axes code value h u m =
    let e : Event = event EV_ABS code value in
    let after : defuzz value (get_or axes code (pos 0)) (axis_info d r code).fuzz
    ≡ axis_value d (Occurred e ∷ r) code =
    rw h (sym (axis_value-moves d r e code (on_code d EV_ABS code value u) m)) in
    moved_same (get_or axes code (pos 0)) (defuzz value (get_or axes code (pos 0)) (axis_info d r code).fuzz)
    (axis_value d r code) (axis_value d (Occurred e ∷ r) code) h after
    ∙ sym (rw m)
    ∙ on_kind d r EV_ABS code value refl u

-- EV_REP
pub passes-setting : (d : Description) (r : List RawItem) (setting : ℤ) (code : ℕ) (value : ℤ)
    → setting ≡ repeat_setting d r code → supports d EV_REP code ≡ true
    → (if int_eq setting (if is_negative (event EV_REP code value) then setting else value) then None
    else Some value) ≡ passes_as d r (event EV_REP code value)
passes-setting d r setting code value h u =
    let e : Event = event EV_REP code value in
    changed (int_eq setting (if is_negative e then setting else value)) value
    ∙ settings_same setting (if is_negative e then setting else value) (repeat_setting d r code)
    (repeat_setting d (Occurred e ∷ r) code) value h (setting_after d r setting code value h u)
    ∙ on_kind d r EV_REP code value refl u
