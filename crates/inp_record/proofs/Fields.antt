-- Fields, written and read again: each field once, and lists of fields from that.
use Rattle.std.proofs.Common.{inl, inr, ◌≡◌, ℕ, zero, suc, ◌+◌, ◌-◌, ◌^◌, ◌≤◌, ◌<◌, Bool, true, false}
use Rattle.std.proofs.Common.{if◌then◌else◌, nat_eq, List, [], ◌∷◌, bytes_eq, codes, decimal, length, drop}
use Rattle.std.proofs.Common.{Some, None, refl, ap, ◌∙◌, arith}
use Rattle.std.specs.Prelude.{option_and_then, slice_index_or}
use Rattle.std.specs.List.{list_all}
use Rattle.std.specs.Fmt.{digits}
use Rattle.std.proofs.lemmas.Bool.{and_parts, ltb-true}
use Rattle.std.proofs.lemmas.Bool.Decides.{nat_tests}
use Rattle.std.proofs.lemmas.Option.{cond_some}
use Rattle.inp_actors.specs.Name.{is_name}
use Rattle.inp_actors.specs.declared.record.TheConstants.{VERSION_MAX}
use Rattle.inp_texts.specs.Texts.{clock_text}
use Rattle.inp_texts.specs.Number.{number}
use Rattle.inp_texts.specs.Table.{named}
use Rattle.inp_record.proofs.PlainLines.{IsPlainWord, is_plain}
use Rattle.inp_record.proofs.WordsAgain.{decimal_read, decimal_plain, signed_read, signed_plain, bits_read}
use Rattle.inp_record.proofs.WordsAgain.{bits_plain, kind_read, kind_plain, code_read, code_plain}
use Rattle.inp_record.proofs.WordsAgain.{clock_plain, is_plain-name, is_plain-word}
use Rattle.inp_record.proofs.WordsSaid.{number_most, signed_fits, kind_fits, code_fits}
use Rattle.inp_model.specs.declared.clock.Clock as clock
use Rattle.inp_model.specs.declared.clock.Clock.TheVariants.{Realtime}
use Rattle.inp_record.specs.Field.{Field, Number, Positive, Bits, Signed, Kind, Code, CodeOf, Clock, Name}
use Rattle.inp_record.specs.Field.{File, Version, OtherClock, Never, clock_rows, other_clock_rows}
use Rattle.inp_record.specs.Field.{other_clock, version_word, name_word, ValueOf, field_word, field_text}
use Rattle.inp_record.specs.Field.{kind_behind, unless_zero, Makes, made}
use Rattle.inp_record.proofs.Options.{and_then_is, chosen}
use Rattle.inp_record.proofs.FieldFits.{is_sound, FitsField, Values, FitsFields, of_values, written}

-- the words of clocks, versions and names

clock_read : (k : clock.Clock) → named clock_rows (clock_text k) ≡ Some k
unfolding clock_text clock_rows
clock_read Realtime = refl
clock_read clock = refl

other_clock_read : (boot : Bool) → named other_clock_rows (clock_text (other_clock boot)) ≡ Some boot
unfolding clock_text other_clock_rows
other_clock_read true = refl
other_clock_read false = refl

-- there are two versions, and the word of each is its digit
pub version_read : (version : ℕ) → 1 ≤ version → version ≤ VERSION_MAX
    → version_word (decimal version) ≡ Some version
unfolding digits
version_read (suc zero) some few = refl
version_read (suc (suc zero)) some few = refl
version_read n some few = absurd (omega arith)

name_read : (w : List ℕ) → is_name w ≡ true → name_word w ≡ Some w
name_read w h = rw h refl

version_fits : (w : List ℕ) (n : ℕ) → version_word w ≡ Some n → (1 ≤ n) × (n ≤ VERSION_MAX)
version_fits w n e = elim (chosen (bytes_eq w (codes "1")) _ _ (Some n) e) [
  | inl h ↦ let same : 1 ≡ n = cc h.1 in (omega (arith, same), omega (arith, same))
  | inr h ↦ let same =
      (cond_some (bytes_eq w (codes "2")) 2 n h.1).1 in (omega (arith, same), omega (arith, same))
]

-- one field

-- what a field says is read again, and its word is plain
field_again : (f : Field) (kind : ℕ) (v : ValueOf f) → is_sound f ≡ true → FitsField IsPlainWord f v
    → (field_word f kind (field_text f kind v) ≡ Some v) × (is_plain (field_text f kind v) ≡ true)
field_again (Number most) kind n sound h = let small =
    ltb-true most (2 ^ 64) sound in
    (decimal_read most n h (omega (arith, small)), decimal_plain n (omega (arith, small)))
field_again (Positive most) kind n sound h =
    let small = ltb-true _ _ sound in
    let some : nat_eq n 0 ≡ false = grind (arith, nat_tests, h.0) in (
      ap (option_and_then (λ (k : ℕ). unless_zero k)) (decimal_read most n h.1 (omega (arith, small, h.1)))
          ∙ rw some refl,
      decimal_plain n (omega (arith, small, h.1)),
    )
field_again Bits kind bits sound h = (bits_read bits h, bits_plain bits h)
field_again Signed kind z sound h = (signed_read z h, signed_plain z h)
field_again Kind kind k sound h = (kind_read k h, kind_plain k h)
field_again Code kind code sound h = (code_read kind code h, code_plain kind code h)
field_again (CodeOf of) kind code sound h = (code_read of code h, code_plain of code h)
field_again Clock kind c sound h = (clock_read c, clock_plain c)
field_again Name kind name sound h = (name_read name h, is_plain-name name h)
field_again File kind file sound h = (refl, is_plain-word file h)
field_again Version kind n sound h = (version_read n h.0 h.1, decimal_plain n (omega (arith, h.1)))
field_again OtherClock kind boot sound h = (other_clock_read boot, clock_plain (other_clock boot))
field_again Never kind never sound h = absurd never

positive_is : (n m : ℕ) (none : Bool) → nat_eq n 0 ≡ none → (if none then None else Some n) ≡ Some m
    → (1 ≤ n) × (n ≡ m)
positive_is n m true z e = absurd (cc e)
positive_is n m false z e = let some : 1 ≤ n = grind (arith, nat_tests) in (some, cc e)

-- what a word says as a field is a value that the field can say
field_fits : (P : List ℕ → Type 0) (f : Field) (kind : ℕ) (w : List ℕ) (v : ValueOf f) → P w
    → field_word f kind w ≡ Some v → FitsField P f v
field_fits P (Number most) kind w n p e = number_most most w n e
field_fits P (Positive most) kind w n p e =
    let h = and_then_is (λ (k : ℕ). unless_zero k) (number most w) n e in
    let low = positive_is h.0 n (nat_eq h.0 0) refl h.2 in
    (omega (arith, low), omega (arith, low, number_most most w h.0 h.1))
field_fits P Bits kind w bits p e = omega (arith, number_most (2 ^ 64 - 1) w bits e)
field_fits P Signed kind w z p e = signed_fits w z e
field_fits P Kind kind w k p e = kind_fits w k e
field_fits P Code kind w code p e = code_fits kind w code e
field_fits P (CodeOf of) kind w code p e = code_fits of w code e
field_fits P Name kind w name p e = let is = cond_some (is_name w) w name e in rw is.1 at is.0
field_fits P File kind w file p e = let same : w ≡ file = cc e in rw (← same) p
field_fits P Version kind w n p e = version_fits w n e
field_fits P f kind w v p e = tt

-- lists of fields

at_drop : (ws : List (List ℕ)) (i : ℕ) (w : List ℕ) (rest : List (List ℕ)) → drop i ws ≡ w ∷ rest
    → (slice_index_or ws i [] ≡ w) × (drop (suc i) ws ≡ rest)
at_drop ws zero w rest e = (rw e, rw e)
at_drop [] (suc i) w rest e = absurd (cc e)
at_drop (x ∷ ws) (suc i) w rest e = at_drop ws i w rest e

-- The words of values that fields can say are read again as what is made of these values.
pub made_read : (A : Type 0) (fs : List Field) (kind i : ℕ) (ws : List (List ℕ)) (make : Makes A fs)
    (vs : Values fs) → list_all is_sound fs ≡ true → FitsFields IsPlainWord fs vs
    → drop i ws ≡ written fs kind vs
    → made A fs kind i ws make ≡ Some (of_values A fs make vs)
made_read A [] kind i ws thing vs sound h at = refl
made_read A (f ∷ fs) kind i ws make vs sound h at =
    let parts = and_parts _ _ sound in
    let here = at_drop ws i (field_text f kind vs.0) (written fs (kind_behind f kind vs.0) vs.1) at in
    rw (here.0, (field_again f kind vs.0 parts.0 h.0).0)
    (made_read A fs (kind_behind f kind vs.0) (suc i) ws (make vs.0) vs.1 parts.1 h.1 here.1)

-- each field that can say its value is written as a plain word
pub written_plain : (fs : List Field) (kind : ℕ) (vs : Values fs) → list_all is_sound fs ≡ true
    → FitsFields IsPlainWord fs vs → list_all is_plain (written fs kind vs) ≡ true
written_plain [] kind vs sound h = refl
written_plain (f ∷ fs) kind vs sound h =
    let parts = and_parts _ _ sound in
    rw (
      (field_again f kind vs.0 parts.0 h.0).1,
      written_plain fs (kind_behind f kind vs.0) vs.1 parts.1 h.1,
    ) refl

-- each field is written as one word
pub length-written : (fs : List Field) (kind : ℕ) (vs : Values fs) → length (written fs kind vs) ≡ length fs
length-written [] kind vs = refl
length-written (f ∷ fs) kind vs = ap suc (length-written fs (kind_behind f kind vs.0) vs.1)

-- What is made of words is made of values that the fields can say, where each word may be a file.
pub made_fits : (P : List ℕ → Type 0) (A : Type 0) (fs : List Field) (kind i : ℕ) (ws : List (List ℕ))
    (make : Makes A fs) (a : A) → ((k : ℕ) → i ≤ k → k < i + length fs → P (slice_index_or ws k []))
    → made A fs kind i ws make ≡ Some a
    → (vs : Values fs) × FitsFields P fs vs × (a ≡ of_values A fs make vs)
made_fits P A [] kind i ws thing a p e = (tt, tt, cc e)
made_fits P A (f ∷ fs) kind i ws make a p e =
    let h =
    and_then_is (λ (v : ValueOf f). made A fs (kind_behind f kind v) (suc i) ws (make v))
    (field_word f kind (slice_index_or ws i [])) a e in
    let more =
    made_fits P A fs (kind_behind f kind h.0) (suc i) ws (make h.0) a
    (λ k le lt. p k (omega arith) (omega arith)) h.2 in (
      (h.0, more.0),
      (
        field_fits P f kind (slice_index_or ws i []) h.0 (p i (omega arith) (omega arith)) h.1,
        more.1,
      ),
      more.2,
    )
