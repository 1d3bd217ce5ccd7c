-- Under which value a multi-touch event is passed, and with which flags.
use Rattle.std.proofs.Common.{◌≡◌, ℕ, Bool, true, false, ◌&&◌, not, if◌then◌else◌, nat_eq, ℤ, List, refl}
use Rattle.std.proofs.Common.{Option, Some, None}
use Rattle.std.specs.Prelude.{is_some}
use Rattle.std.specs.Ordering.{int_eq}
use Rattle.inp_model.specs.declared.event.TheConstants.{EV_ABS}
use Rattle.inp_model.specs.declared.multi_touch.TheConstants.{ABS_MT_SLOT}
use Rattle.inp_model.proofs.MultiTouchCodes.{slot_code-multi_touch, slot_code-not_slot}
use Rattle.inp_model.specs.RawItem.{RawItem}
use Rattle.inp_model.specs.Description.{Description, supports, is_multi_touch_code, is_slot_code}
use Rattle.inp_model.specs.State.{staged, cell}
use Rattle.inp_model.specs.Passed.{announced, passes_as, multi_touch_passes_as, moved_to, cell_after}
use Rattle.inp_caps.specs.Disposition.{flags, flags_after}
use Rattle.inp_slots.specs.Slots.{touch}

-- ---- the value

pub passes-unsupported : (d : Description) (r : List RawItem) (code : ℕ) (value : ℤ)
    → supports d EV_ABS code ≡ false → passes_as d r (touch code value) ≡ None
passes-unsupported d r code value h = rw h

-- a supported code
pub passes-touch : (d : Description) (r : List RawItem) (code : ℕ) (value : ℤ) → supports d EV_ABS code ≡ true
    → is_multi_touch_code code ≡ true
    → passes_as d r (touch code value) ≡ multi_touch_passes_as d r (touch code value)
passes-touch d r code value h k = rw (h, k)

pub passes-name : (d : Description) (r : List RawItem) (value : ℤ) → supports d EV_ABS ABS_MT_SLOT ≡ true
    → passes_as d r (touch ABS_MT_SLOT value) ≡ None
passes-name d r value h = passes-touch d r ABS_MT_SLOT value h refl

-- a value of a slot, on a device with slots and without
abbrev value_passes_as : Description → List RawItem → ℕ → ℤ → Option ℤ
value_passes_as d r code value =
    if nat_eq d.slots 0 then Some value
    else moved_to (cell d r (staged d r) code) (cell_after d r (touch code value))

passes-slot : (d : Description) (r : List RawItem) (code : ℕ) (value : ℤ) → supports d EV_ABS code ≡ true
    → is_slot_code code ≡ true → passes_as d r (touch code value) ≡ value_passes_as d r code value
passes-slot d r code value h k =
    rw (passes-touch d r code value h (slot_code-multi_touch code k), slot_code-not_slot code k)

pub passes-without_slots : (d : Description) (r : List RawItem) (code : ℕ) (value : ℤ)
    → supports d EV_ABS code ≡ true → is_slot_code code ≡ true → nat_eq d.slots 0 ≡ true
    → passes_as d r (touch code value) ≡ Some value
passes-without_slots d r code value h k z = rw (passes-slot d r code value h k, z)

pub passes-value : (d : Description) (r : List RawItem) (code : ℕ) (value : ℤ) → supports d EV_ABS code ≡ true
    → is_slot_code code ≡ true → nat_eq d.slots 0 ≡ false
    → passes_as d r (touch code value)
    ≡ moved_to (cell d r (staged d r) code) (cell_after d r (touch code value))
passes-value d r code value h k z = rw (passes-slot d r code value h k, z)

-- ---- the flags

flags_by : (passed same : Bool)
    → flags passed false (passed && not same) (passed && false)
    ≡ (if passed then (if same then 1 else 5) else 0)
flags_by true true = refl
flags_by true false = refl
flags_by false same = refl

slot_flags : (slot passed same : Bool) → slot ≡ true
    → flags passed false ((slot && passed) && not same) (passed && false)
    ≡ (if passed then (if same then 1 else 5) else 0)
slot_flags true passed same h = flags_by passed same
slot_flags false passed same h = absurd (cc h)

-- the flags of a value of a slot, by the value under which it is passed
pub flags-value : (d : Description) (r : List RawItem) (code : ℕ) (value : ℤ) (given : Option ℤ)
    → is_slot_code code ≡ true → passes_as d r (touch code value) ≡ given
    → flags_after d r (touch code value)
    ≡ (if is_some given then (if int_eq (staged d r) (announced d r) then 1 else 5) else 0)
flags-value d r code value given k p =
    rw (
      slot_flags (is_slot_code code) (is_some (passes_as d r (touch code value)))
          (int_eq (staged d r) (announced d r)) k,
      p,
    )
