-- The canonical items of a description are accepted behind the line of its device, and give that description
-- again.
use Rattle.std.proofs.Common.{◌≡◌, ℕ, zero, suc, ◌+◌, ◌<◌, ◌≤◌, Bool, true, false, ◌&&◌, nat_eq, nat_le, List}
use Rattle.std.proofs.Common.{[], ◌∷◌, ◌++◌, length, replicate, get_or, set, not, map, None, refl, sym, ap}
use Rattle.std.proofs.Common.{subst, ◌∙◌, inl, inr, arith, append_assoc, append-nil, length-append}
use Rattle.std.specs.List.{flat_map, range_with_len, list_all, list_any}
use Rattle.std.proofs.lemmas.Bool.{cases_Bool, cases_lt, leb-true, le-ltb, ne_eqb, eqb-true, and_parts}
use Rattle.std.proofs.lemmas.Bool.{false_from_ne_true, or_from}
use Rattle.std.proofs.lemmas.Bool.Decides.{nat_tests}
use Rattle.std.proofs.lemmas.List.{get_or_past, length-replicate}
use Rattle.std.proofs.lemmas.List.Folds.{list_all-append}
use Rattle.inp_model.specs.declared.event.TheConstants.{EV_SYN, EV_KEY, EV_REL, EV_ABS, EV_MSC, EV_SW, EV_LED}
use Rattle.inp_model.specs.declared.event.TheConstants.{EV_SND, EV_MAX, KEY_MAX, ABS_MAX}
use Rattle.inp_model.specs.declared.limits.TheConstants.{SLOTS_MAX, HINT_MIN, HINT_MAX, LOG_MAX, FILTERS_MAX}
use Rattle.inp_model.specs.declared.stamped.TheConstants.{MOMENT_MAX}
use Rattle.inp_model.specs.declared.axis_info.AxisInfo.{AxisInfo}
use Rattle.inp_model.specs.declared.filter.Filter as filter
use Rattle.inp_model.specs.declared.filter.Filter.TheVariants as filters
use Rattle.inp_model.specs.Description.{Description, no_info, has_kind, has_code, supports, info, is_kind}
use Rattle.inp_model.specs.Description.{syn_alone, is_filter, AreFilters}
use Rattle.inp_model.proofs.Descriptions.{get_or-replicate_same}
use Rattle.inp_caps.specs.Builder.{is_code, with_code, with_axis}
use Rattle.inp_record.specs.canon.Device.{coded_kinds}
use Rattle.inp_record.specs.declared.item.Item.{Item}
use Rattle.inp_record.specs.declared.item.Item.TheVariants.{Device, Hint, Log, Realtime, Boottime, Slots}
use Rattle.inp_record.specs.declared.item.Item.TheVariants.{Kind, Code, Axis, Filter, Actor, Action}
use Rattle.inp_record.specs.declared.place.Place.TheVariants.{Describing}
use Rattle.inp_record.specs.Place.{is_first_place}
use Rattle.inp_record.specs.declared.context.Context.{Context}
use Rattle.inp_record.specs.declared.context.Given.{Given}
use Rattle.inp_record.specs.ItemsBefore.{no_given, describing, after}
use Rattle.inp_record.specs.Meaning.{is_later_command, is_twice, is_too_many, has_too_many_slots}
use Rattle.inp_record.specs.Meaning.{builder_refusal}
use Rattle.inp_record.specs.Spelling.{number_items, slots_items, kind_items, code_items, codes_items}
use Rattle.inp_record.specs.Spelling.{axis_items, plain_items, filter_items, description_items}
use Rattle.inp_record.proofs.Sayable.{accepted, is_action_item, is_describing_item, is_later_item, are_early}
use Rattle.inp_record.proofs.Sayable.{IsSayable}
use Rattle.inp_record.proofs.Sayable.{IsSayableFilter, IsAccepted, describes_place}
use Rattle.inp_record.proofs.MadeDescriptions.{IsMadeDescription, IsGathered, AreKnownKinds, AreKnownCodes}
use Rattle.inp_record.proofs.MadeDescriptions.{AreKnownAxes, kind_again}
use Rattle.inp_record.proofs.Sections.{AreLaid, then_laid, range_laid, all_if, all_unless, all_both, all_each}
use Rattle.inp_record.proofs.Sections.{mixed, mixed_none, mixed_set, mixed_kept, mixed_all}

-- a context whose latest device nothing describes yet
abbrev pub undescribed : Context → Context
undescribed c = describing c syn_alone no_given

-- an item that describes is accepted where a description stands, and it is said once, and its builder takes
-- it
describing_accepted : (c : Context) (i : Item) → is_describing_item i ≡ true → c.place ≡ Describing
    → IsSayable c.actors c.streams i → (is_later_item i && nat_eq c.version 1) ≡ false → is_twice c i ≡ false
    → has_too_many_slots c i ≡ false → builder_refusal c.builder i ≡ None
    → IsAccepted c i
describing_accepted c i d at said later once few_slots fits =
    accepted said (λ h. ap is_first_place at) (rw (describes_place, at)) later (free i d).0 once
    (free i d).1 few_slots fits
  where
    free : (j : Item) → is_describing_item j ≡ true
        → (is_later_command c j ≡ false) × (is_too_many c j ≡ false)
    free (Device requested name) d = absurd (cc d)
    free (Actor role name) d = absurd (cc d)
    free (Action actor does) d = absurd (cc d)
    free j d = (refl, refl)

-- none of these axes has this code or a greater one
abbrev AreBelow : ℕ → List ℕ → Type 0
AreBelow code [] = Unit {0}
AreBelow code (x ∷ xs) = (x < code) × AreBelow code xs

below_more : (code : ℕ) (xs : List ℕ) → AreBelow code xs → AreBelow (suc code) xs
below_more code [] h = tt
below_more code (x ∷ xs) h = (omega (arith, h.0), below_more code xs h.1)

below_push : (code : ℕ) (xs : List ℕ) → AreBelow code xs → AreBelow (suc code) (xs ++ code ∷ [])
below_push code [] h = (omega arith, tt)
below_push code (x ∷ xs) h = (omega (arith, h.0), below_push code xs h.1)

not_among : (code : ℕ) (xs : List ℕ) → AreBelow code xs → list_any (λ x. nat_eq x code) xs ≡ false
not_among code [] h = refl
not_among code (x ∷ xs) h =
    or_from (nat_eq x code) (list_any (λ y. nat_eq y code) xs)
    (ne_eqb x code (λ e. absurd (omega (arith, h.0)))) (not_among code xs h.1)

-- The latest device of a context is described so, and gave no axis of this code or a greater one; all else is
-- as it was.
pub record IsAt (base : Context) (d : Description) (code : ℕ) (c : Context) : Type 0 where
  -- what was given of the device so far
  pub given : Given
  -- the latest device is described so, and all else is as it was
  pub is : c ≡ describing base d given
  -- each axis that was given has a lesser code
  pub below : AreBelow code given.axes

-- one line more
at_behind : {base : Context} {d new : Description} {code next : ℕ} {c : Context} {i : Item}
    (h : IsAt base d code c) (given : Given) → IsAccepted (describing base d h.given) i
    → after i (describing base d h.given) ≡ describing base new given → AreBelow next given.axes
    → IsAccepted c i × IsAt base new next (after i c)
at_behind h given a e below = (rw h.is a, record { given = given; is = rw h.is e; below = below })

-- the numbers and the slots

abbrev numbered : Description → Description
numbered d =
    record syn_alone { hint = d.hint; log_limit = d.log_limit; realtime = d.realtime; boottime = d.boottime }

-- the numbers alone are given
abbrev IsNumbered : Description → Context → Context → Type 0
IsNumbered d base c = (h : IsAt base (numbered d) 0 c) × (h.given.slots ≡ false)

numbers_laid : (d : Description) (c : Context) → IsGathered d
    → AreLaid (IsNumbered d c) (undescribed c) (number_items d)
numbers_laid d c g =
    let n = g.numbers in
    let hint_most = leb-true d.hint HINT_MAX (and_parts (nat_le HINT_MIN d.hint) _ n.hint).1 in
    let log_most = leb-true d.log_limit LOG_MAX (and_parts (nat_le 1 d.log_limit) _ n.log_limit).1 in
    let real_most = leb-true d.realtime MOMENT_MAX n.realtime in
    let boot_most = leb-true d.boottime MOMENT_MAX n.boottime in
    let c1 = after (Hint d.hint) (undescribed c) in
    let c2 = after (Log d.log_limit) c1 in
    let c3 = after (Realtime d.realtime) c2 in
    let hint =
    describing_accepted (undescribed c) (Hint d.hint) refl refl (omega arith) refl refl refl (rw n.hint) in
    let log =
    describing_accepted c1 (Log d.log_limit) refl refl (omega arith) refl refl refl (rw n.log_limit) in
    let realtime =
    describing_accepted c2 (Realtime d.realtime) refl refl (omega arith) refl refl refl (rw n.realtime) in
    let boottime =
    describing_accepted c3 (Boottime d.boottime) refl refl (omega arith) refl refl refl (rw n.boottime) in (
      (hint, (log, (realtime, (boottime, tt)))),
      (record { given = (after (Boottime d.boottime) c3).given; is = refl; below = tt }, refl),
    )

slots_fit : (slots : ℕ) → nat_eq slots 0 ≡ false → nat_le slots SLOTS_MAX ≡ true
    → (nat_le 1 slots && nat_le slots SLOTS_MAX) ≡ true
slots_fit slots some most = grind (arith, nat_tests)

-- all but the axes and the filters
abbrev without_axes : Description → Description
without_axes d = record d { axes = replicate 64 false; infos = replicate 64 no_info; filters = [] }

abbrev filters_of : List filter.Filter → List Item
filters_of fs = map (λ f. Filter f) fs

-- the lines of a description, behind the line of its device
module _ (d : Description) (base : Context) where
  slots_laid : (b : Description) (c : Context) → nat_le d.slots SLOTS_MAX ≡ true
      → has_too_many_slots base (Slots d.slots) ≡ false → (h : IsAt base (record b { slots = 0 }) 0 c)
      → h.given.slots ≡ false → AreLaid (IsAt base (record b { slots = d.slots }) 0) c (slots_items d)
  slots_laid b c most few h fresh = elim (cases_Bool (nat_eq d.slots 0)) [
    | inl e ↦ rw e (tt, record { given = h.given; is = rw (h.is, ← eqb-true _ _ e); below = h.below })
    | inr e ↦
        let small : d.slots ≤ SLOTS_MAX = leb-true _ _ most in
        let one =
        at_behind {new = record b { slots = d.slots }} {next = 0} {i = Slots d.slots} h
        (record h.given { slots = true })
        (describing_accepted (describing base (record b { slots = 0 }) h.given) (Slots d.slots) refl refl
        (omega arith) refl fresh few (rw (slots_fit d.slots e most))) refl h.below in
        rw e ((one.0, tt), one.1)
  ]

  -- the types

  kinds_fresh : (kinds : List Bool) (n k : ℕ) → get_or kinds EV_SYN false ≡ true
      → get_or kinds k false ≡ false → get_or kinds k false ≡ get_or (true ∷ replicate n false) k false
  kinds_fresh kinds n zero syn e = absurd (cc (syn, e))
  kinds_fresh kinds n (suc k) syn e = e ∙ sym (get_or-replicate_same n k false)

  kinds_rest : (kinds : List Bool) (k : ℕ) → AreKnownKinds kinds → EV_MAX < k → get_or kinds k false ≡ false
  kinds_rest kinds k a past =
      false_from_ne_true (get_or kinds k false) (λ e. let known : is_kind k ≡ true =
      a.known k e in grind (arith, nat_tests))

  kind_accepted : (c : Context) (kind : ℕ) → c.place ≡ Describing → is_kind kind ≡ true
      → IsAccepted c (Kind kind)
  kind_accepted c kind at known =
      describing_accepted c (Kind kind) refl at (grind (arith, nat_tests)) refl refl refl (rw known)

  kinds_laid : (b : Description) (n : ℕ) (c : Context) → AreKnownKinds d.kinds → EV_MAX ≤ n
      → IsAt base (record b { kinds = true ∷ replicate 63 false }) 0 c
      → AreLaid (IsAt base (record b { kinds = d.kinds }) 0) c (flat_map (kind_items d) (range_with_len 1 n))
  kinds_laid b n c a enough h =
      let fresh : List Bool = true ∷ replicate 63 false in
      let l : ℕ → List Bool = λ k. mixed k d.kinds fresh in
      let P : List Bool → Type 0 =
      λ x. AreLaid (IsAt base (record b { kinds = x }) 0) c (flat_map (kind_items d) (range_with_len 1 n)) in
      let Q : List Bool → Type 0 = λ x. IsAt base (record b { kinds = x }) 0 c in
      subst P (mixed_all (1 + n) d.kinds fresh false a.length_is
      (λ k past. kinds_fresh d.kinds 63 k a.syn (kinds_rest d.kinds k a (omega arith))))
      (range_laid (λ k. IsAt base (record b { kinds = l k }) 0) (has_kind d) (λ kind. Kind kind) (1 + n)
      (λ k new lt at e. at_behind at at.given (kind_accepted _ k refl (a.known k e))
      (rw (mixed_set k d.kinds fresh true false a.length_is e)) at.below)
      (λ k new at e. rw (mixed_kept k d.kinds fresh false (kinds_fresh d.kinds 63 k a.syn e)) at at)
      1 n refl c (subst Q (sym (mixed_none d.kinds fresh) ∙ mixed_kept 0 d.kinds fresh false a.syn) h))

  -- the codes

  untyped : (typed has : Bool) → (has ≡ true → typed ≡ true) → (typed && has) ≡ false → has ≡ false
  untyped true has h e = e
  untyped false true h e = sym (h refl)
  untyped false false h e = refl

  code_accepted : (c : Context) (kind code : ℕ) → c.place ≡ Describing → is_code kind code ≡ true
      → IsAccepted c (Code kind code)
  code_accepted c kind code at known =
      describing_accepted c (Code kind code) refl at (
        grind (arith, nat_tests),
        grind (arith, nat_tests),
      ) refl refl refl (rw known)

  -- The codes of one type, which are one list of a description: the builder keeps the type, and sets a code
  -- in this list.
  codes_laid : (c : Context) (kind count n : ℕ) (codes : List Bool) (put : List Bool → Description)
      → AreKnownCodes d.kinds kind count codes → count ≤ n → ((l : List Bool) → (put l).kinds ≡ d.kinds)
      → ((l : List Bool) (code : ℕ) → with_code (put l) kind code ≡ put (set l code true))
      → ((code : ℕ) → has_code d kind code ≡ get_or codes code false)
      → IsAt base (put (replicate count false)) 0 c
      → AreLaid (IsAt base (put codes) 0) c (flat_map (code_items d kind) (range_with_len 0 n))
  codes_laid c kind count n codes put a enough kinds code has h =
      let fresh : List Bool = replicate count false in
      let size : length codes ≡ length fresh = a.length_is ∙ sym (length-replicate count false) in
      let l : ℕ → List Bool = λ k. mixed k codes fresh in
      let P : List Bool → Type 0 =
      λ x. AreLaid (IsAt base (put x) 0) c (flat_map (code_items d kind) (range_with_len 0 n)) in
      let Q : List Bool → Type 0 = λ x. IsAt base (put x) 0 c in
      subst P
      (mixed_all n codes fresh false size (λ k past. get_or_past codes k false (omega (arith, a.length_is))
      ∙ sym (get_or-replicate_same count k false)))
      (range_laid (λ k. IsAt base (put (l k)) 0) (supports d kind) (λ x. Code kind x) n
      (λ k new lt at e.
      let on = and_parts _ _ e in
      let there : get_or codes k false ≡ true = sym (has k) ∙ on.1 in
      at_behind at at.given (code_accepted _ kind k refl (a.known k there))
      (ap (λ x. describing base (with_code x kind k) at.given) (kind_again (put (l k)) kind (rw kinds on.0))
      ∙ ap (λ x. describing base x at.given) (code (l k) k
      ∙ ap put (mixed_set k codes fresh true false size there))) at.below)
      (λ k new at e.
      let off : get_or codes k false ≡ false =
      untyped (has_kind d kind) (get_or codes k false) (a.typed k) (rw (← has) e) in
      rw (mixed_kept k codes fresh false (off ∙ sym (get_or-replicate_same count k false))) at at)
      0 n (omega arith) c (subst Q (sym (mixed_none codes fresh)) h))

  caps_laid : (n : ℕ) (c : Context) → IsGathered d → 768 ≤ n
      → IsAt base (record (numbered d) { slots = d.slots; kinds = d.kinds }) 0 c
      → AreLaid (IsAt base (without_axes d) 0) c
      (flat_map (λ kind. flat_map (code_items d kind) (range_with_len 0 n)) coded_kinds)
  caps_laid n c g enough h =
      let l = g.lists in
      let e0 : Description = record (numbered d) { slots = d.slots; kinds = d.kinds } in
      let e1 : Description = record e0 { keys = d.keys } in
      let e2 : Description = record e1 { relatives = d.relatives } in
      let e3 : Description = record e2 { miscs = d.miscs } in
      let e4 : Description = record e3 { switches = d.switches } in
      let e5 : Description = record e4 { leds = d.leds } in
      let few : 64 ≤ n = omega arith in
      let Q : Context → Type 0 = IsAt base (without_axes d) 0 in
      then_laid (IsAt base e1 0) Q c _ _
      (codes_laid c EV_KEY 768 n d.keys (λ x. record e0 { keys = x }) l.keys enough (λ x. refl)
      (λ x k. refl) (λ k. refl) h)
      λ c1 h1. then_laid (IsAt base e2 0) Q c1 _ _
      (codes_laid c1 EV_REL 64 n d.relatives (λ x. record e1 { relatives = x }) l.relatives few
      (λ x. refl) (λ x k. refl) (λ k. refl) h1)
      λ c2 h2. then_laid (IsAt base e3 0) Q c2 _ _
      (codes_laid c2 EV_MSC 64 n d.miscs (λ x. record e2 { miscs = x }) l.miscs few (λ x. refl)
      (λ x k. refl) (λ k. refl) h2)
      λ c3 h3. then_laid (IsAt base e4 0) Q c3 _ _
      (codes_laid c3 EV_SW 64 n d.switches (λ x. record e3 { switches = x }) l.switches few (λ x. refl)
      (λ x k. refl) (λ k. refl) h3)
      λ c4 h4. then_laid (IsAt base e5 0) Q c4 _ _
      (codes_laid c4 EV_LED 64 n d.leds (λ x. record e4 { leds = x }) l.leds few (λ x. refl) (λ x k. refl)
      (λ k. refl) h4)
      λ c5 h5. then_laid Q Q c5 _ _
      (codes_laid c5 EV_SND 64 n d.sounds (λ x. record e5 { sounds = x }) l.sounds few (λ x. refl)
      (λ x k. refl) (λ k. refl) h5)
      λ c6 h6. (tt, h6)

  -- the axes

  there_within : (l : List Bool) (k : ℕ) → get_or l k false ≡ true → k < length l
  there_within l k e = elim (cases_lt k (length l)) [
    | inl within ↦ within
    | inr past ↦ absurd (cc (get_or_past l k false past, e))
  ]

  axis_accepted : (c : Context) (code : ℕ) → AreKnownAxes d.kinds d.axes d.infos → c.place ≡ Describing
      → AreBelow code c.given.axes → code ≤ ABS_MAX → IsAccepted c (Axis code (info d code))
  axis_accepted c code a at below within =
      describing_accepted c (Axis code (info d code)) refl at (omega arith, a.said code) refl
      (not_among code c.given.axes below) refl
      (rw (le-ltb, a.good))

  axes_laid : (n : ℕ) (c : Context) → AreKnownAxes d.kinds d.axes d.infos → 64 ≤ n
      → IsAt base (without_axes d) 0 c
      → AreLaid (IsAt base (record d { filters = [] }) n) c (flat_map (axis_items d) (range_with_len 0 n))
  axes_laid n c a enough h =
      let fresh : List Bool = replicate 64 false in
      let bare : List AxisInfo = replicate 64 no_info in
      let at : List Bool → List AxisInfo → Description =
      λ x y. record d { axes = x; infos = y; filters = [] } in
      let l : ℕ → List Bool = λ k. mixed k d.axes fresh in
      let m : ℕ → List AxisInfo = λ k. mixed k d.infos bare in
      let off : (k : ℕ) → supports d EV_ABS k ≡ false → get_or d.axes k false ≡ false =
      λ k. untyped (has_kind d EV_ABS) (get_or d.axes k false) (a.typed k) in
      let axes =
      mixed_all n d.axes fresh false a.length_is
      (λ k past. get_or_past d.axes k false (omega (arith, a.length_is))
      ∙ sym (get_or-replicate_same 64 k false)) in
      let infos =
      mixed_all n d.infos bare no_info a.infos_length
      (λ k past. get_or_past d.infos k no_info (omega (arith, a.infos_length))
      ∙ sym (get_or-replicate_same 64 k no_info)) in
      let P : Description → Type 0 =
      λ x. AreLaid (IsAt base x n) c (flat_map (axis_items d) (range_with_len 0 n)) in
      let Q : Description → Type 0 = λ x. IsAt base x 0 c in
      subst P (λ i. at (axes i) (infos i))
      (range_laid (λ k. IsAt base (at (l k) (m k)) k) (supports d EV_ABS) (λ k. Axis k (info d k)) n
      (λ k new lt h e.
      let on = and_parts _ _ e in
      let within : k < length d.axes = there_within d.axes k on.1 in
      let set_axes = mixed_set k d.axes fresh true false a.length_is on.1 in
      let set_infos = mixed_set k d.infos bare (info d k) no_info a.infos_length refl in
      at_behind h (record h.given { axes = h.given.axes ++ k ∷ [] })
      (axis_accepted _ k a refl h.below (omega (arith, a.length_is)))
      (ap (λ x. describing base (with_axis x k (info d k)) (record h.given { axes = h.given.axes ++ k ∷ [] }))
      (kind_again (at (l k) (m k)) EV_ABS on.0)
      ∙ λ i. describing base (at (set_axes i) (set_infos i))
      (record h.given { axes = h.given.axes ++ k ∷ [] }))
      (below_push k h.given.axes h.below))
      (λ k new h e.
      let same_axes = mixed_kept k d.axes fresh false (off k e ∙ sym (get_or-replicate_same 64 k false)) in
      let same_infos =
      mixed_kept k d.infos bare no_info (a.plain k (off k e) ∙ sym (get_or-replicate_same 64 k no_info)) in
      record {
        given = h.given;
        is = h.is ∙ λ i. describing base (at (same_axes i) (same_infos i)) h.given;
        below = below_more k h.given.axes h.below;
      })
      0 n (omega arith) c
      (subst Q (λ i. at (sym (mixed_none d.axes fresh) i) (sym (mixed_none d.infos bare) i)) h))

  -- the filters

  -- a filter that there can be fits words
  filter_sayable : (f : filter.Filter) → is_filter f ≡ true → IsSayableFilter f
  filter_sayable (filters.Eat kind code) h = (grind (arith, nat_tests), grind (arith, nat_tests))
  filter_sayable filters.Norepeat h = tt
  filter_sayable (filters.Chord first second) h = (grind (arith, nat_tests), grind (arith, nat_tests))
  filter_sayable (filters.Bounce code micros) h =
      (grind (arith, nat_tests), grind (arith, nat_tests), grind (arith, nat_tests))

  filter_accepted : (c : Context) (f : filter.Filter) → c.place ≡ Describing → nat_eq c.version 1 ≡ false
      → is_filter f ≡ true → length c.builder.filters < FILTERS_MAX → IsAccepted c (Filter f)
  filter_accepted c f at later good room =
      let full : nat_eq (length c.builder.filters) FILTERS_MAX ≡ false =
      ne_eqb (length c.builder.filters) FILTERS_MAX (λ e. absurd (omega arith)) in
      describing_accepted c (Filter f) refl at (filter_sayable f good) later refl refl (rw (good, full) refl)

  early_none : (version : ℕ) (fs : List filter.Filter) → nat_eq version 1 ≡ false
      → are_early version fs ≡ false
  early_none version [] h = refl
  early_none version (f ∷ fs) h = h

  -- filters one after another, behind those that are there
  filters_laid : (n : ℕ) (old fs : List filter.Filter) (c : Context) → are_early base.version fs ≡ false
      → AreFilters (old ++ fs) → IsAt base (record d { filters = old }) n c
      → AreLaid (IsAt base (record d { filters = old ++ fs }) n) c (filters_of fs)
  filters_laid n old [] c later all h = (tt, rw append-nil h)
  filters_laid n old (f ∷ fs) c later all h =
      let size : length (old ++ f ∷ fs) ≡ length old + suc (length fs) = length-append old (f ∷ fs) in
      let most : length (old ++ f ∷ fs) ≤ FILTERS_MAX = all.few in
      let parts =
      and_parts (list_all is_filter old) (list_all is_filter (f ∷ fs))
      (rw (list_all-append is_filter old (f ∷ fs)) at all.good) in
      let good : is_filter f ≡ true = (and_parts _ _ parts.1).0 in
      let one = at_behind {new = record d { filters = old ++ f ∷ [] }} {next = n} {i = Filter f} h h.given
      (filter_accepted (describing base (record d { filters = old }) h.given) f refl later good
      (omega (arith, size, most))) refl h.below in
      let rest =
      filters_laid n (old ++ f ∷ []) fs (after (Filter f) c) (early_none base.version fs later)
      (rw (append_assoc old (f ∷ []) fs) all) one.1 in
      ((one.0, rest.0), rw (append_assoc old (f ∷ []) fs) at rest.1)

-- all sections

sections_laid : (d : Description) (c : Context) (kinds codes axes : ℕ) → IsGathered d
    → has_too_many_slots c (Slots d.slots) ≡ false → EV_MAX ≤ kinds → 768 ≤ codes → 64 ≤ axes
    → AreLaid (IsAt c (record d { filters = [] }) axes) (undescribed c)
    (number_items d
    ++ (slots_items d
    ++ (flat_map (kind_items d) (range_with_len 1 kinds)
    ++ (flat_map (λ kind. flat_map (code_items d kind) (range_with_len 0 codes)) coded_kinds
    ++ flat_map (axis_items d) (range_with_len 0 axes)))))
sections_laid d c kinds codes axes g few enough_kinds enough_codes enough_axes =
    let e : Description = record (numbered d) { slots = d.slots } in
    let Q : Context → Type 0 = IsAt c (record d { filters = [] }) axes in
    then_laid (IsNumbered d c) Q (undescribed c) (number_items d) _ (numbers_laid d c g)
    λ c1 h1. then_laid (IsAt c e 0) Q c1 (slots_items d) _
    (slots_laid d c (numbered d) c1 g.numbers.slots few h1.0 h1.1)
    λ c2 h2. then_laid (IsAt c (record e { kinds = d.kinds }) 0) Q c2 _ _
    (kinds_laid d c e kinds c2 g.kinds enough_kinds h2)
    λ c3 h3. then_laid (IsAt c (without_axes d) 0) Q c3 _ _ (caps_laid d c codes c3 g enough_codes h3)
    λ c4 h4. axes_laid d c axes c4 g.axes enough_axes h4

plain_laid : (d : Description) (c : Context) → IsGathered d → has_too_many_slots c (Slots d.slots) ≡ false
    → AreLaid (IsAt c (record d { filters = [] }) (ABS_MAX + 1)) (undescribed c) (plain_items d)
unfolding plain_items
plain_laid d c g few =
    sections_laid d c EV_MAX (KEY_MAX + 1) (ABS_MAX + 1) g few (omega arith) (omega arith) (omega arith)

-- The canonical items of a description are accepted behind the line of its device, where its version has
-- its filters, and give that description again.
pub description-laid : (d : Description) (c : Context) → IsMadeDescription d
    → has_too_many_slots c (Slots d.slots) ≡ false → are_early c.version d.filters ≡ false
    → AreLaid (IsAt c d (ABS_MAX + 1)) (undescribed c) (description_items d)
unfolding description_items
description-laid d c made few later =
    then_laid (IsAt c (record d { filters = [] }) (ABS_MAX + 1)) (IsAt c d (ABS_MAX + 1)) (undescribed c)
    (plain_items d) (filter_items d) (plain_laid d c made.gathered few)
    λ new h. filters_laid d c (ABS_MAX + 1) [] d.filters new later made.gathered.filters h

-- an item other than an action
abbrev pub is_no_action : Item → Bool
is_no_action i = not (is_action_item i)

-- Each canonical item of a description describes, so that it is no action.
pub description-acts : (d : Description) → list_all is_no_action (description_items d) ≡ true
unfolding plain_items description_items
description-acts d =
    let p = is_no_action in
    let axes : List Item = flat_map (axis_items d) (range_with_len 0 (ABS_MAX + 1)) in
    let caps : List Item = flat_map (codes_items d) coded_kinds in
    let kinds : List Item = flat_map (kind_items d) (range_with_len 1 EV_MAX) in
    all_both p (plain_items d) (filter_items d)
    (all_both p (number_items d) (slots_items d ++ (kinds ++ (caps ++ axes))) refl
    (all_both p (slots_items d) (kinds ++ (caps ++ axes)) (all_unless p (nat_eq d.slots 0) _ refl)
    (all_both p kinds (caps ++ axes)
    (all_each p (kind_items d) (λ kind. all_if p (has_kind d kind) _ refl) (range_with_len 1 EV_MAX))
    (all_both p caps axes
    (all_each p (codes_items d)
    (λ kind. all_each p (code_items d kind) (λ code. all_if p (supports d kind code) _ refl)
    (range_with_len 0 (KEY_MAX + 1))) coded_kinds)
    (all_each p (axis_items d) (λ code. all_if p (supports d EV_ABS code) _ refl)
    (range_with_len 0 (ABS_MAX + 1)))))))
    (filters_act d.filters)
  where
    filters_act : (fs : List filter.Filter) → list_all is_no_action (filters_of fs) ≡ true
    filters_act [] = refl
    filters_act (f ∷ fs) = filters_act fs
