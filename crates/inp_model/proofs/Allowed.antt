-- What holds of a step that nothing refuses.
use Rattle.std.proofs.Common.{◌≡◌, ℕ, ◌<◌, Bool, true, false, ◌||◌, not, if◌then◌else◌, nat_le, nat_lt, ◌≤◌}
use Rattle.std.proofs.Common.{arith, List, [], ◌∷◌, length, refl, sym, ap, ◌∙◌, Option, Some, None}
use Rattle.std.proofs.lemmas.Bool.{not-false}
use Rattle.std.proofs.lemmas.Bool.Decides.{nat_tests}
use Rattle.inp_model.specs.declared.step.Step.{Step}
use Rattle.inp_model.specs.declared.step.Step.TheVariants.{Mask, GetAxis, SetAxis, GetSlots}
use Rattle.inp_model.specs.declared.reply.Reply.{Reply}
use Rattle.inp_model.specs.declared.reply.Reply.TheVariants.{Again, Refused}
use Rattle.inp_model.specs.declared.reply.Refusal.TheVariants.{BadClient, NoDevice, BadKind, BadCode, BadInfo}
use Rattle.inp_model.specs.declared.reply.Refusal.TheVariants.{Busy, NotGrabber, TooMany, LogFull}
use Rattle.inp_model.specs.declared.event.TheConstants.{EV_ABS, ABS_MAX}
use Rattle.inp_model.specs.declared.axis_info.AxisInfo.{AxisInfo}
use Rattle.inp_model.specs.Description.{Description, supports, is_multi_touch_code, is_slot_code}
use Rattle.inp_model.specs.Step.{client_of}
use Rattle.inp_model.specs.Past.{is_open, has_mask, mask_words, ends}
use Rattle.inp_model.specs.Left.{eaten}
use Rattle.inp_model.specs.Reply.{Case, refusal, first_reply, refused, is_bad_client, is_no_device}
use Rattle.inp_model.specs.Reply.{is_bad_kind, is_bad_code, is_bad_info, finds_nothing, is_busy}
use Rattle.inp_model.specs.Reply.{is_not_grabber, is_one_too_many, is_full}

-- no cause of a refusal is there
pub record IsAllowed (d : Description) (past : List Step) (x : Step) : Type 0 where
  pub client : is_bad_client past (client_of x) ≡ false
  pub device : is_no_device past x (client_of x) ≡ false
  pub kind : is_bad_kind d x ≡ false
  pub code : is_bad_code d x ≡ false
  pub info : is_bad_info x ≡ false
  pub found : finds_nothing (eaten d) d past x ≡ false
  pub free : is_busy past x ≡ false
  pub held : is_not_grabber past x ≡ false
  pub few : is_one_too_many past x ≡ false
  pub room : is_full d past ≡ false

pub head_fails : (holds : Bool) (reply : Reply) (rest : Option Reply)
    → (if holds then Some reply else rest) ≡ None → holds ≡ false
head_fails true reply rest h = absurd (cc h)
head_fails false reply rest h = refl

rest_none : (holds : Bool) (reply : Reply) (rest : Option Reply)
    → (if holds then Some reply else rest) ≡ None → rest ≡ None
rest_none true reply rest h = absurd (cc h)
rest_none false reply rest h = h

-- of several cases none of which holds, the first does not, nor do the others
none_first : (c : Case) (cs : List Case) → first_reply (c ∷ cs) ≡ None
    → (c.holds ≡ false) × (first_reply cs ≡ None)
none_first c cs h =
    (head_fails c.holds c.reply (first_reply cs) h, rest_none c.holds c.reply (first_reply cs) h)

pub allowed : (d : Description) (past : List Step) (x : Step) → refused d past x ≡ None → IsAllowed d past x
allowed d past x h =
    let c0 : Case = refusal (is_bad_client past (client_of x)) (Refused (length past) BadClient) in
    let c1 : Case = refusal (is_no_device past x (client_of x)) (Refused (length past) NoDevice) in
    let c2 : Case = refusal (is_bad_kind d x) (Refused (length past) BadKind) in
    let c3 : Case = refusal (is_bad_code d x) (Refused (length past) BadCode) in
    let c4 : Case = refusal (is_bad_info x) (Refused (length past) BadInfo) in
    let c5 : Case = refusal (finds_nothing (eaten d) d past x) (Again (length past) (ends past)) in
    let c6 : Case = refusal (is_busy past x) (Refused (length past) Busy) in
    let c7 : Case = refusal (is_not_grabber past x) (Refused (length past) NotGrabber) in
    let c8 : Case = refusal (is_one_too_many past x) (Refused (length past) TooMany) in
    let c9 : Case = refusal (is_full d past) (Refused (length past) LogFull) in
    let h0 : (c0.holds ≡ false) × (first_reply (c1 ∷ c2 ∷ c3 ∷ c4 ∷ c5 ∷ c6 ∷ c7 ∷ c8 ∷ c9 ∷ []) ≡ None) =
    none_first c0 (c1 ∷ c2 ∷ c3 ∷ c4 ∷ c5 ∷ c6 ∷ c7 ∷ c8 ∷ c9 ∷ []) h in
    let h1 : (c1.holds ≡ false) × (first_reply (c2 ∷ c3 ∷ c4 ∷ c5 ∷ c6 ∷ c7 ∷ c8 ∷ c9 ∷ []) ≡ None) =
    none_first c1 (c2 ∷ c3 ∷ c4 ∷ c5 ∷ c6 ∷ c7 ∷ c8 ∷ c9 ∷ []) h0.1 in
    let h2 : (c2.holds ≡ false) × (first_reply (c3 ∷ c4 ∷ c5 ∷ c6 ∷ c7 ∷ c8 ∷ c9 ∷ []) ≡ None) =
    none_first c2 (c3 ∷ c4 ∷ c5 ∷ c6 ∷ c7 ∷ c8 ∷ c9 ∷ []) h1.1 in
    let h3 : (c3.holds ≡ false) × (first_reply (c4 ∷ c5 ∷ c6 ∷ c7 ∷ c8 ∷ c9 ∷ []) ≡ None) =
    none_first c3 (c4 ∷ c5 ∷ c6 ∷ c7 ∷ c8 ∷ c9 ∷ []) h2.1 in
    let h4 : (c4.holds ≡ false) × (first_reply (c5 ∷ c6 ∷ c7 ∷ c8 ∷ c9 ∷ []) ≡ None) =
    none_first c4 (c5 ∷ c6 ∷ c7 ∷ c8 ∷ c9 ∷ []) h3.1 in
    let h5 : (c5.holds ≡ false) × (first_reply (c6 ∷ c7 ∷ c8 ∷ c9 ∷ []) ≡ None) =
    none_first c5 (c6 ∷ c7 ∷ c8 ∷ c9 ∷ []) h4.1 in
    let h6 : (c6.holds ≡ false) × (first_reply (c7 ∷ c8 ∷ c9 ∷ []) ≡ None) =
    none_first c6 (c7 ∷ c8 ∷ c9 ∷ []) h5.1 in
    let h7 : (c7.holds ≡ false) × (first_reply (c8 ∷ c9 ∷ []) ≡ None) = none_first c7 (c8 ∷ c9 ∷ []) h6.1 in
    let h8 : (c8.holds ≡ false) × (first_reply (c9 ∷ []) ≡ None) = none_first c8 (c9 ∷ []) h7.1 in
    let h9 : (c9.holds ≡ false) × (first_reply ([]) ≡ None) = none_first c9 ([]) h8.1 in
    record {
      client = h0.0;
      device = h1.0;
      kind = h2.0;
      code = h3.0;
      info = h4.0;
      found = h5.0;
      free = h6.0;
      held = h7.0;
      few = h8.0;
      room = h9.0;
    }

-- the client that a step names is open
pub named_open : (past : List Step) (x : Step) (client : ℕ) → client_of x ≡ Some client
    → is_bad_client past (client_of x) ≡ false → is_open past client ≡ true
named_open past x client named good =
    not-false (is_open past client) (ap (is_bad_client past) (sym named) ∙ good)

-- the mask that is set, and its word
pub mask_kind : (d : Description) (past : List Step) (client kind word bits : ℕ)
    → IsAllowed d past (Mask client kind word bits) → has_mask kind ≡ true
mask_kind d past client kind word bits ok = not-false (has_mask kind) ok.kind

le_false : (m n : ℕ) → nat_le m n ≡ false → n < m
le_false m n h = grind (arith, nat_tests, h)

pub mask_word : (d : Description) (past : List Step) (client kind word bits : ℕ)
    → IsAllowed d past (Mask client kind word bits) → word < mask_words kind
mask_word d past client kind word bits ok = le_false (mask_words kind) word ok.code

-- the axis that is asked for
pub axis_code : (d : Description) (past : List Step) (client code : ℕ)
    → IsAllowed d past (GetAxis client code) → code ≤ ABS_MAX
axis_code d past client code ok = not_above ABS_MAX code ok.code
  where
    not_above : (m n : ℕ) → nat_lt m n ≡ false → n ≤ m
    not_above m n h = grind (arith, nat_tests, h)

-- the axis of slots that is asked for
pub slot_code : (d : Description) (past : List Step) (client code : ℕ)
    → IsAllowed d past (GetSlots client code) → is_slot_code code ≡ true
slot_code d past client code ok = not-false (is_slot_code code) ok.code

-- the axis that is described anew
pub set_axis_code : (d : Description) (past : List Step) (client code : ℕ) (axis : AxisInfo)
    → IsAllowed d past (SetAxis client code axis) → code ≤ ABS_MAX
set_axis_code d past client code axis ok =
    not_above (nat_lt ABS_MAX code) (is_multi_touch_code code) (not (supports d EV_ABS code)) refl ok.code
  where
    not_above : (above touch lacks : Bool) → above ≡ nat_lt ABS_MAX code → (above || touch || lacks) ≡ false
        → code ≤ ABS_MAX
    not_above true touch lacks is h = absurd (cc h)
    not_above false touch lacks is h = grind (arith, nat_tests, is)
