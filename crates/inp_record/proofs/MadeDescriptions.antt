-- What a description is like that the accepted lines of a device give.
use Rattle.std.proofs.Common.{◌≡◌, ℕ, zero, suc, ◌-◌, ◌<◌, ◌≤◌, ℤ, pos, Bool, true, false, ◌&&◌, not}
use Rattle.std.proofs.Common.{if◌then◌else◌, nat_eq, nat_le, nat_lt, FitsSigned, w32, List, ◌∷◌, length}
use Rattle.std.proofs.Common.{replicate, get_or, set, Some, None, Ok, Err, refl, sym, ap, subst, ◌∙◌, ◌⊎◌}
use Rattle.std.proofs.Common.{inl, inr, arith}
use Rattle.std.proofs.lemmas.Bool.{cases_eq, cond_both, eqb-true, leb-true, ltb-false, and_parts}
use Rattle.std.proofs.lemmas.Bool.Decides.{nat_tests}
use Rattle.std.proofs.lemmas.Int.{ints}
use Rattle.std.proofs.lemmas.List.{length-set, length-replicate, get_or-set_same, get_or-set_other}
use Rattle.std.proofs.lemmas.List.{set-get_or}
use Rattle.inp_model.specs.declared.event.TheConstants.{EV_SYN, EV_KEY, EV_REL, EV_ABS, EV_MSC, EV_SW, EV_LED}
use Rattle.inp_model.specs.declared.event.TheConstants.{EV_SND, ABS_MAX}
use Rattle.inp_model.specs.declared.multi_touch.TheConstants.{ABS_MT_SLOT, ABS_MT_TRACKING_ID}
use Rattle.inp_model.specs.declared.limits.TheConstants.{SLOTS_MAX, HINT_MIN, HINT_MAX, LOG_MAX, FILTERS_MAX}
use Rattle.inp_model.specs.declared.stamped.TheConstants.{MOMENT_MAX}
use Rattle.inp_model.specs.declared.axis_info.AxisInfo.{AxisInfo}
use Rattle.inp_model.specs.declared.filter.Filter as filter
use Rattle.inp_model.specs.Description.{Description, no_info, is_kind, is_bad_axis, AreFilters, is_filter}
use Rattle.inp_model.specs.Description.{syn_alone}
use Rattle.inp_model.proofs.Descriptions.{get_or-replicate_same, is_bad_axis-no_info}
use Rattle.inp_caps.specs.declared.caps_refused.CapsRefused.TheVariants.{BadCode, BadAxis, BadFilter}
use Rattle.inp_caps.specs.Builder.{is_code, with_kind, with_code, with_axis, with_filter, filter_answer}
use Rattle.inp_caps.specs.Builder.{with_default_axis, with_slot_axes, built}
use Rattle.inp_caps.proofs.Filters.{AreFilters-more}
use Rattle.inp_record.specs.declared.item.Item.{Item}
use Rattle.inp_record.specs.declared.item.Item.TheVariants.{Device, Hint, Log, Realtime, Boottime, Slots}
use Rattle.inp_record.specs.declared.item.Item.TheVariants.{Kind, Code, Axis, Filter}
use Rattle.inp_record.specs.declared.context.Context.{Context}
use Rattle.inp_record.specs.ItemsBefore.{after}
use Rattle.inp_record.specs.Meaning.{builder_refusal}
use Rattle.std.specs.Result.{result_err}
use Rattle.inp_record.proofs.Sayable.{IsSayableInfo, IsAccepted}

-- sixty-four types, none of them unknown, EV_SYN among them
pub record AreKnownKinds (kinds : List Bool) : Type 0 where
  -- the list has its full length
  pub length_is : length kinds ≡ 64
  -- what is there is known
  pub known : (kind : ℕ) → get_or kinds kind false ≡ true → is_kind kind ≡ true
  -- EV_SYN is always there
  pub syn : get_or kinds EV_SYN false ≡ true

-- so many codes of a type, none of them unknown, and their type, where there is one
pub record AreKnownCodes (kinds : List Bool) (kind count : ℕ) (codes : List Bool) : Type 0 where
  -- the list has its full length
  pub length_is : length codes ≡ count
  -- what is there is known
  pub known : (code : ℕ) → get_or codes code false ≡ true → is_code kind code ≡ true
  -- where a code is there, its type is there too
  pub typed : (code : ℕ) → get_or codes code false ≡ true → get_or kinds kind false ≡ true

-- the codes of all types but EV_ABS
pub record AreKnownLists (kinds ks rs ms ws ls ss : List Bool) : Type 0 where
  -- for EV_KEY
  pub keys : AreKnownCodes kinds EV_KEY 768 ks
  -- for EV_REL
  pub relatives : AreKnownCodes kinds EV_REL 64 rs
  -- for EV_MSC
  pub miscs : AreKnownCodes kinds EV_MSC 64 ms
  -- for EV_SW
  pub switches : AreKnownCodes kinds EV_SW 64 ws
  -- for EV_LED
  pub leds : AreKnownCodes kinds EV_LED 64 ls
  -- for EV_SND
  pub sounds : AreKnownCodes kinds EV_SND 64 ss

-- sixty-four axes and their type, where there is one; an axis that is not there has no data
pub record AreKnownAxes (kinds axes : List Bool) (infos : List AxisInfo) : Type 0 where
  -- the list has its full length
  pub length_is : length axes ≡ 64
  -- there are data for each axis of the list
  pub infos_length : length infos ≡ 64
  -- where a code is there, its type is there too
  pub typed : (code : ℕ) → get_or axes code false ≡ true → get_or kinds EV_ABS false ≡ true
  -- an axis that is not there has no data
  pub plain : (code : ℕ) → get_or axes code false ≡ false → get_or infos code no_info ≡ no_info
  -- no axis has data that a builder refuses
  pub good : (code : ℕ) → is_bad_axis code (get_or infos code no_info) ≡ false
  -- the values of each axis fit in 32 bits with a sign
  pub said : (code : ℕ) → IsSayableInfo (get_or infos code no_info)

-- numbers in their ranges
pub record AreNumbers (s h l r b : ℕ) : Type 0 where
  -- there are no more slots than a device may have
  pub slots : nat_le s SLOTS_MAX ≡ true
  -- the hint is in its range
  pub hint : (nat_le HINT_MIN h && nat_le h HINT_MAX) ≡ true
  -- the limit of the history is in its range
  pub log_limit : (nat_le 1 l && nat_le l LOG_MAX) ≡ true
  -- the realtime offset is a moment within its limit
  pub realtime : nat_le r MOMENT_MAX ≡ true
  -- the boottime offset is a moment within its limit
  pub boottime : nat_le b MOMENT_MAX ≡ true

-- a description as lines give it
pub record IsGathered (d : Description) : Type 0 where
  -- its types
  pub kinds : AreKnownKinds d.kinds
  -- its codes, of all types but EV_ABS
  pub lists : AreKnownLists d.kinds d.keys d.relatives d.miscs d.switches d.leds d.sounds
  -- its axes and their data
  pub axes : AreKnownAxes d.kinds d.axes d.infos
  -- its filters
  pub filters : AreFilters d.filters
  -- its numbers
  pub numbers : AreNumbers d.slots d.hint d.log_limit d.realtime d.boottime

-- a description of a device: with slots it has the axes that slots need
pub record IsMadeDescription (d : Description) : Type 0 where
  -- lines can give it
  pub gathered : IsGathered d
  -- it has the axes that its slots need, so building adds nothing
  pub whole : built d ≡ d

-- one more truth in a list

set_true : (l : List Bool) (i k : ℕ) → get_or (set l i true) k false ≡ true
    → (k ≡ i) ⊎ (get_or l k false ≡ true)
set_true l i k e =
    elim (cases_eq k i) [
      | inl same ↦ inl same
      | inr other ↦ inr (sym (get_or-set_other l i k true false other) ∙ e)
    ]

pub set_more : (l : List Bool) (i k : ℕ) → get_or l k false ≡ true → get_or (set l i true) k false ≡ true
set_more (x ∷ l) zero zero e = refl
set_more (x ∷ l) (suc i) (suc k) e = set_more l i k e
set_more l i k e = e

set_again : (l : List Bool) (i : ℕ) → get_or l i false ≡ true → set l i true ≡ l
set_again l i e = rw (← e) (set-get_or l i false)

retyped : {kinds : List Bool} {kind count : ℕ} {codes : List Bool} (new : ℕ)
    → AreKnownCodes kinds kind count codes → AreKnownCodes (set kinds new true) kind count codes
retyped {kinds} new k =
    record {
      length_is = k.length_is;
      known = k.known;
      typed = λ code e. set_more kinds new _ (k.typed code e);
    }

-- a code more of a type that is there
module _ (d : Description) (g : IsGathered d) (kind code : ℕ) (known : is_code kind code ≡ true)
    (typed : get_or d.kinds kind false ≡ true) where
  code_more : {this count : ℕ} {codes : List Bool} → nat_eq kind this ≡ true
      → AreKnownCodes d.kinds this count codes → AreKnownCodes d.kinds this count (set codes code true)
  code_more {this} {count} {codes} same k =
      let is : kind ≡ this = eqb-true _ _ same in
      let this_known : is_code this code ≡ true = rw is at known in
      record {
        length_is = length-set codes code true ∙ k.length_is;
        known = λ c e. elim (set_true codes code c e) [
          | inl here ↦ rw here this_known
          | inr old ↦ k.known c old
        ];
        typed = λ c e. rw is at typed;
      }

  -- the same description with these codes
  with_lists : {ks rs ms ws ls ss : List Bool} → AreKnownCodes d.kinds EV_KEY 768 ks
      → AreKnownCodes d.kinds EV_REL 64 rs → AreKnownCodes d.kinds EV_MSC 64 ms
      → AreKnownCodes d.kinds EV_SW 64 ws → AreKnownCodes d.kinds EV_LED 64 ls
      → AreKnownCodes d.kinds EV_SND 64 ss
      → IsGathered (record d { keys = ks; relatives = rs; miscs = ms; switches = ws; leds = ls; sounds = ss })
  with_lists ks rs ms ws ls ss =
      record {
        kinds = g.kinds;
        lists =
            record { keys = ks; relatives = rs; miscs = ms; switches = ws; leds = ls; sounds = ss };
        axes = g.axes;
        filters = g.filters;
        numbers = g.numbers;
      }

  gathered_code : IsGathered (with_code d kind code)
  gathered_code =
      let l = g.lists in
      cond_both (nat_eq kind EV_KEY) _ _ IsGathered
      (λ is. with_lists (code_more is l.keys) l.relatives l.miscs l.switches l.leds l.sounds)
      λ _. cond_both (nat_eq kind EV_REL) _ _ IsGathered
      (λ is. with_lists l.keys (code_more is l.relatives) l.miscs l.switches l.leds l.sounds)
      λ _. cond_both (nat_eq kind EV_MSC) _ _ IsGathered
      (λ is. with_lists l.keys l.relatives (code_more is l.miscs) l.switches l.leds l.sounds)
      λ _. cond_both (nat_eq kind EV_SW) _ _ IsGathered
      (λ is. with_lists l.keys l.relatives l.miscs (code_more is l.switches) l.leds l.sounds)
      λ _. cond_both (nat_eq kind EV_LED) _ _ IsGathered
      (λ is. with_lists l.keys l.relatives l.miscs l.switches (code_more is l.leds) l.sounds)
      λ _. cond_both (nat_eq kind EV_SND) _ _ IsGathered
      (λ is. with_lists l.keys l.relatives l.miscs l.switches l.leds (code_more is l.sounds))
      λ _. g

-- what holds of each axis and of a new one holds of each axis with the new one
at_each : (P : ℕ → AxisInfo → Type 0) (infos : List AxisInfo) (code : ℕ) (i : AxisInfo) → code < length infos
    → P code i → ((c : ℕ) → P c (get_or infos c no_info)) → (c : ℕ)
    → P c (get_or (set infos code i) c no_info)
at_each P infos code i within new old c =
    elim (cases_eq c code) [
      | inl same ↦ rw (same, get_or-set_same) new
      | inr other ↦ rw get_or-set_other (old c)
    ]

-- a type more, and an axis more
module _ (d : Description) (g : IsGathered d) where
  gathered_kind : (kind : ℕ) → is_kind kind ≡ true → IsGathered (with_kind d kind)
  gathered_kind kind known =
      let l = g.lists in
      let a = g.axes in
      record {
        kinds = record {
          length_is = length-set d.kinds kind true ∙ g.kinds.length_is;
          known = λ j e. elim (set_true d.kinds kind j e) [
            | inl same ↦ rw same known
            | inr old ↦ g.kinds.known j old
          ];
          syn = set_more d.kinds kind EV_SYN g.kinds.syn;
        };
        lists = record {
          keys = retyped kind l.keys;
          relatives = retyped kind l.relatives;
          miscs = retyped kind l.miscs;
          switches = retyped kind l.switches;
          leds = retyped kind l.leds;
          sounds = retyped kind l.sounds;
        };
        axes = record {
          length_is = a.length_is;
          infos_length = a.infos_length;
          typed = λ code e. set_more d.kinds kind EV_ABS (a.typed code e);
          plain = a.plain;
          good = a.good;
          said = a.said;
        };
        filters = g.filters;
        numbers = g.numbers;
      }

  kind_there : (kind : ℕ) → is_kind kind ≡ true → get_or (set d.kinds kind true) kind false ≡ true
  kind_there kind known = let within : kind < 64 =
      grind (arith, nat_tests) in get_or-set_same d.kinds kind true false (omega (arith, g.kinds.length_is))

  -- an axis more, with its type there
  gathered_axis : (code : ℕ) (i : AxisInfo) → code ≤ ABS_MAX → is_bad_axis code i ≡ false → IsSayableInfo i
      → get_or d.kinds EV_ABS false ≡ true → IsGathered (with_axis d code i)
  gathered_axis code i within good said typed =
      let a = g.axes in
      let in_axes : code < length d.axes = omega (arith, a.length_is) in
      let in_infos : code < length d.infos = omega (arith, a.infos_length) in
      record {
        kinds = g.kinds;
        lists = g.lists;
        axes = record {
          length_is = length-set d.axes code true ∙ a.length_is;
          infos_length = length-set d.infos code i ∙ a.infos_length;
          typed = λ c e. typed;
          plain = λ c e. elim (cases_eq c code) [
            | inl same ↦ let on : get_or (set d.axes code true) c false ≡ true =
                rw same (get_or-set_same d.axes code true false in_axes) in absurd (cc (on, e))
            | inr other ↦ get_or-set_other d.infos code c i no_info other
                ∙ a.plain c (sym (get_or-set_other d.axes code c true false other) ∙ e)
          ];
          good = at_each (λ c x. is_bad_axis c x ≡ false) d.infos code i in_infos good a.good;
          said = at_each (λ c x. IsSayableInfo x) d.infos code i in_infos said a.said;
        };
        filters = g.filters;
        numbers = g.numbers;
      }

-- EV_SYN alone

none_of : {kinds : List Bool} {kind count : ℕ} → AreKnownCodes kinds kind count (replicate count false)
none_of {kinds} {kind} {count} =
    let off : (code : ℕ) → get_or (replicate count false) code false ≡ true → ⊥ =
    λ code e. cc (get_or-replicate_same count code false, e) in
    record {
      length_is = length-replicate count false;
      known = λ code e. absurd (off code e);
      typed = λ code e. absurd (off code e);
    }

said_none : IsSayableInfo no_info
said_none = let fits : FitsSigned w32 (pos 0) =
    grind (arith, ints) in
    record { value = fits; minimum = fits; maximum = fits; fuzz = fits; flat = fits; resolution = fits }

axes_none : (kinds : List Bool) → AreKnownAxes kinds (replicate 64 false) (replicate 64 no_info)
axes_none kinds =
    let none : (code : ℕ) → get_or (replicate 64 no_info) code no_info ≡ no_info =
    λ code. get_or-replicate_same 64 code no_info in
    record {
      length_is = length-replicate 64 false;
      infos_length = length-replicate 64 no_info;
      typed = (none_of {kinds = kinds} {kind = EV_ABS} {count = 64}).typed;
      plain = λ code e. none code;
      good = λ code. ap (is_bad_axis code) (none code) ∙ is_bad_axis-no_info code;
      said = λ code. subst IsSayableInfo (sym (none code)) said_none;
    }

known_alone : (n kind : ℕ) → get_or (true ∷ replicate n false) kind false ≡ true → is_kind kind ≡ true
known_alone n zero e = refl
known_alone n (suc kind) e = absurd (cc (get_or-replicate_same n kind false, e))

-- a device begins with EV_SYN alone, no codes, and numbers in their ranges
pub gathered_alone : IsGathered syn_alone
gathered_alone = record {
  kinds = record { length_is = refl; known = known_alone 63; syn = refl };
  lists = record {
    keys = none_of;
    relatives = none_of;
    miscs = none_of;
    switches = none_of;
    leds = none_of;
    sounds = none_of;
  };
  axes = axes_none (true ∷ replicate 63 false);
  filters = record { few = omega arith; good = refl };
  numbers = record { slots = refl; hint = refl; log_limit = refl; realtime = refl; boottime = refl };
}

-- what lines that are not refused give

passes : {X : Type 0} (b : Bool) (why : X) → (if b then None else Some why) ≡ None → b ≡ true
passes true why e = refl
passes false why e = absurd (cc e)

axis_passes : (a b : Bool) → (if a then Some BadCode else if b then Some BadAxis else None) ≡ None
    → (a ≡ false) × (b ≡ false)
axis_passes false false e = (refl, refl)
axis_passes a b e = absurd (cc e)

gathered_numbers : {d : Description} {slots hint log_limit realtime boottime : ℕ} → IsGathered d
    → nat_le slots SLOTS_MAX ≡ true → (nat_le HINT_MIN hint && nat_le hint HINT_MAX) ≡ true
    → (nat_le 1 log_limit && nat_le log_limit LOG_MAX) ≡ true → nat_le realtime MOMENT_MAX ≡ true
    → nat_le boottime MOMENT_MAX ≡ true
    → IsGathered (record d {
      slots = slots;
      hint = hint;
      log_limit = log_limit;
      realtime = realtime;
      boottime = boottime;
    })
gathered_numbers g s h l r b =
    record {
      kinds = g.kinds;
      lists = g.lists;
      axes = g.axes;
      filters = g.filters;
      numbers = record { slots = s; hint = h; log_limit = l; realtime = r; boottime = b };
    }

filter_passes : (good : Bool) (full : Bool)
    → result_err (if not good then Err BadCode else if full then Err BadFilter else Ok (tt {0})) ≡ None
    → (good ≡ true) × (full ≡ false)
filter_passes true false e = (refl, refl)
filter_passes good full e = absurd (cc e)

module _ (d : Description) (g : IsGathered d) where
  with_coded : (kind code : ℕ) → is_code kind code ≡ true
      → IsGathered (with_code (with_kind d kind) kind code)
  with_coded kind code e =
      let known : is_kind kind ≡ true = grind (arith, nat_tests) in
      gathered_code (with_kind d kind) (gathered_kind d g kind known) kind code e (kind_there d g kind known)

  with_described : (code : ℕ) (i : AxisInfo) → builder_refusal d (Axis code i) ≡ None → IsSayableInfo i
      → IsGathered (with_axis (with_kind d EV_ABS) code i)
  with_described code i e said =
      let passed = axis_passes (nat_lt ABS_MAX code) (is_bad_axis code i) e in
      gathered_axis (with_kind d EV_ABS) (gathered_kind d g EV_ABS refl) code i
      (ltb-false _ _ passed.0) passed.1 said (kind_there d g EV_ABS refl)

  with_filtered : (f : filter.Filter) → result_err (filter_answer d f) ≡ None → IsGathered (with_filter d f)
  with_filtered f e =
      let passed = filter_passes (is_filter f) (nat_eq (length d.filters) FILTERS_MAX) e in
      let most : length d.filters ≤ FILTERS_MAX = g.filters.few in
      let room : length d.filters < FILTERS_MAX = grind (arith, nat_tests, passed.1, most) in
      record {
        kinds = g.kinds;
        lists = g.lists;
        axes = g.axes;
        filters = AreFilters-more d.filters f g.filters room passed.0;
        numbers = g.numbers;
      }

-- a description behind a line that is accepted
pub gathered_after : (c : Context) (i : Item) → IsAccepted c i → IsGathered c.builder
    → IsGathered (after i c).builder
gathered_after c (Device requested name) a g = gathered_alone
gathered_after c (Hint count) a g = let n =
    g.numbers in gathered_numbers g n.slots (passes _ _ a.fits) n.log_limit n.realtime n.boottime
gathered_after c (Log count) a g = let n =
    g.numbers in gathered_numbers g n.slots n.hint (passes _ _ a.fits) n.realtime n.boottime
gathered_after c (Realtime offset) a g = let n =
    g.numbers in gathered_numbers g n.slots n.hint n.log_limit (passes _ _ a.fits) n.boottime
gathered_after c (Boottime offset) a g = let n =
    g.numbers in gathered_numbers g n.slots n.hint n.log_limit n.realtime (passes _ _ a.fits)
gathered_after c (Slots count) a g = let n =
    g.numbers in
    gathered_numbers g (and_parts _ _ (passes _ _ a.fits)).1 n.hint n.log_limit n.realtime n.boottime
gathered_after c (Kind kind) a g = gathered_kind c.builder g kind (passes _ _ a.fits)
gathered_after c (Code kind code) a g = with_coded c.builder g kind code (passes _ _ a.fits)
gathered_after c (Axis code info) a g = with_described c.builder g code info a.fits a.sayable.1
gathered_after c (Filter filter) a g = with_filtered c.builder g filter a.fits
gathered_after c i a g = g

-- the axes that slots need

default_kinds : (d : Description) (code : ℕ) (m : ℤ) → (with_default_axis d code m).kinds ≡ d.kinds
default_kinds d code m =
    cond_both (get_or d.axes code false) _ _ (λ (x : Description). x.kinds ≡ d.kinds) (λ e. refl) (λ e. refl)

default_axes : (d : Description) (code other : ℕ) (m : ℤ) → get_or d.axes other false ≡ true
    → get_or (with_default_axis d code m).axes other false ≡ true
default_axes d code other m h =
    cond_both (get_or d.axes code false) _ _ (λ (x : Description). get_or x.axes other false ≡ true) (λ e. h)
    (λ e. set_more d.axes code other h)

module _ (d : Description) (g : IsGathered d) where
  default_there : (code : ℕ) (m : ℤ) → code ≤ ABS_MAX
      → get_or (with_default_axis d code m).axes code false ≡ true
  default_there code m within =
      cond_both (get_or d.axes code false) _ _ (λ (x : Description). get_or x.axes code false ≡ true) (λ e. e)
      (λ e. get_or-set_same d.axes code true false (omega (arith, g.axes.length_is)))

  gathered_default : (code : ℕ) (m : ℤ) → code ≤ ABS_MAX
      → is_bad_axis code (record no_info { maximum = m }) ≡ false → FitsSigned w32 m
      → get_or d.kinds EV_ABS false ≡ true → IsGathered (with_default_axis d code m)
  gathered_default code m within good fits typed =
      let said : IsSayableInfo (record no_info { maximum = m }) =
      record {
        value = said_none.value;
        minimum = said_none.value;
        maximum = fits;
        fuzz = said_none.value;
        flat = said_none.value;
        resolution = said_none.value;
      } in
      cond_both (get_or d.axes code false) _ _ IsGathered (λ e. g)
      (λ e. gathered_axis d g code (record no_info { maximum = m }) within good said typed)

-- a type that is there already changes nothing
pub kind_again : (d : Description) (kind : ℕ) → get_or d.kinds kind false ≡ true → with_kind d kind ≡ d
kind_again d kind e = rw set_again

-- what is built has as many slots
pub built_slots : (d : Description) → (built d).slots ≡ d.slots
built_slots d = grind (arith, nat_tests)

-- and the same filters
pub built_filters : (d : Description) → (built d).filters ≡ d.filters
built_filters d = grind (arith, nat_tests)

-- a description that has them
record HasSlotAxes (d : Description) : Type 0 where
  kind : get_or d.kinds EV_ABS false ≡ true
  slot : get_or d.axes ABS_MT_SLOT false ≡ true
  tracking_id : get_or d.axes ABS_MT_TRACKING_ID false ≡ true

slot_axes_again : (d : Description) → HasSlotAxes d → with_slot_axes d ≡ d
slot_axes_again d h = rw (h.slot, h.tracking_id) (kind_again d EV_ABS h.kind)

last_fits : (slots : ℕ) → nat_le slots SLOTS_MAX ≡ true → FitsSigned w32 (pos (slots - 1))
last_fits slots e = let few : slots ≤ 256 = leb-true slots SLOTS_MAX e in grind (arith, ints)

-- with slots the two axes are there afterwards, and all is as lines give it
with_slots : (d : Description) → IsGathered d → IsGathered (with_slot_axes d) × HasSlotAxes (with_slot_axes d)
with_slots d g =
    let last : ℤ = pos (d.slots - 1) in
    let e : Description = with_kind d EV_ABS in
    let f : Description = with_default_axis e ABS_MT_SLOT last in
    let e_g : IsGathered e = gathered_kind d g EV_ABS refl in
    let e_kind : get_or e.kinds EV_ABS false ≡ true = kind_there d g EV_ABS refl in
    let f_g : IsGathered f =
    gathered_default e e_g ABS_MT_SLOT last (omega arith) refl (last_fits d.slots g.numbers.slots) e_kind in
    let f_kind : get_or f.kinds EV_ABS false ≡ true = rw (default_kinds e ABS_MT_SLOT last) e_kind in (
      gathered_default f f_g ABS_MT_TRACKING_ID (pos 65535) (omega arith) refl (grind (arith, ints)) f_kind,
      record {
        kind = rw (default_kinds f ABS_MT_TRACKING_ID (pos 65535)) f_kind;
        slot =
            default_axes f ABS_MT_TRACKING_ID ABS_MT_SLOT (pos 65535)
            (default_there e e_g ABS_MT_SLOT last (omega arith));
        tracking_id = default_there f f_g ABS_MT_TRACKING_ID (pos 65535) (omega arith);
      },
    )

built_again : (d : Description) → with_slot_axes d ≡ d → built d ≡ d
built_again d e = cond_both (nat_eq d.slots 0) d (with_slot_axes d) (λ x. x ≡ d) (λ _. refl) (λ _. e)

-- without slots nothing is added, and with slots the axes added are as lines give them
pub made_of : (d : Description) → IsGathered d → IsMadeDescription (built d)
made_of d g =
    cond_both (nat_eq d.slots 0) d (with_slot_axes d) IsMadeDescription
    (λ e. record { gathered = g; whole = rw e })
    (λ e. let w = with_slots d g in
    record {
      gathered = w.0;
      whole = built_again (with_slot_axes d) (slot_axes_again (with_slot_axes d) w.1);
    })
