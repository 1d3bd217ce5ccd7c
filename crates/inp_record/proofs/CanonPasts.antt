-- The past that lines leave was accepted line by line, and each record that bytes mean is that of such a
-- past.
use Rattle.std.proofs.Common.{◌≡◌, ◌≤◌, ◌+◌, ℕ, suc, Bool, true, false, ◌&&◌, not, nat_eq, bytes_eq, List, []}
use Rattle.std.proofs.Common.{◌∷◌, length, Some, is_some, Result, Ok, Err, refl, sym, ap, ◌∙◌, arith, inl}
use Rattle.std.proofs.Common.{inr}
use Rattle.std.specs.Prelude.{codes}
use Rattle.std.proofs.lemmas.Bool.{and_parts, false_from_ne_true, not-false}
use Rattle.std.proofs.lemmas.Bool.Decides.{nat_tests}
use Rattle.std.proofs.lemmas.Slice.Eq.{bytes_eq-Decides}
use Rattle.inp_model.specs.declared.filter.Filter.TheVariants as filters
use Rattle.inp_actors.specs.declared.role.Role.TheVariants as roles
use Rattle.inp_actors.specs.Record.{RecordView}
use Rattle.inp_texts.specs.Line.{words_of, lines_of as text_lines}
use Rattle.inp_record.specs.declared.cause.Cause.{Cause}
use Rattle.inp_record.specs.declared.cause.Cause.TheVariants.{BadHeader, OutOfPlace}
use Rattle.inp_record.specs.declared.refused.Refused.{Refused}
use Rattle.inp_record.specs.declared.context.Context.{Context}
use Rattle.inp_record.specs.declared.item.Item.{Item}
use Rattle.inp_record.specs.declared.item.Item.TheVariants.{Header, Device, Filter, Actor}
use Rattle.inp_record.specs.declared.keyword.Keyword.TheVariants as keywords
use Rattle.inp_record.specs.Keyword.{keyword_of, keyword_rows, has_words}
use Rattle.inp_record.specs.Place.{is_first_place, is_out_of_place}
use Rattle.inp_record.specs.Words.{word, is_header, item_of, plain_item}
use Rattle.inp_record.specs.Field.{version_word}
use Rattle.inp_record.specs.Line.{line_row}
use Rattle.inp_record.specs.ItemsBefore.{ItemsBefore, after, context_of}
use Rattle.std.specs.Result.{result_map_both}
use Rattle.inp_record.specs.Meaning.{checked, placed, item_of_words, behind_words, behind_line}
use Rattle.inp_record.specs.Meaning.{behind_lines, record_of_past, as_record, meaning}
use Rattle.inp_record.proofs.Inversions.{IsPlaced, checked_is, words_are, or_bad_is, line_means, lines_mean}
use Rattle.inp_record.proofs.Options.{push_get, and_then_is, unrefused}
use Rattle.inp_record.proofs.Keywords.{is_later_keyword, keyword_is_later}
use Rattle.inp_record.proofs.Sayable.{keyword_for, is_header_item, is_later_item, IsAccepted, WereAccepted}
use Rattle.inp_record.proofs.Sayable.{always}
use Rattle.inp_record.proofs.SayableItems.{AreNamed, ArePlain, line_plain, item_is, item_said}

-- each actor has a name
named_more : (c : Context) (i : Item) → IsAccepted c i → AreNamed c.actors → AreNamed (after i c).actors
named_more c (Actor role name) a old =
    λ j x e. elim (push_get c.actors (record { name = name; role = role; device = length c.devices }) j x e) [
      | inl g ↦ old j x g
      | inr g ↦ let same : x.name ≡ name = rw g in rw same a.sayable
    ]
named_more c i a old = old

-- a header alone may stand first

header_keyword : (version : ℕ) (ws : List (List ℕ)) → is_header ws ≡ true
    → keyword_of version (word 0 ws) (word 1 ws) (length ws) ≡ Some keywords.Header
unfolding keyword_of keyword_rows has_words line_row
header_keyword version ws h =
    let parts =
    and_parts (nat_eq (length ws) 2 && bytes_eq (word 0 ws) (codes "inputrecord"))
    (is_some (version_word (word 1 ws))) h in
    let more = and_parts (nat_eq (length ws) 2) (bytes_eq (word 0 ws) (codes "inputrecord")) parts.0 in
    let count : length ws ≡ 2 = grind (arith, nat_tests) in
    let first : word 0 ws ≡ codes "inputrecord" =
    (bytes_eq-Decides (word 0 ws) (codes "inputrecord")).0 more.1 in
    rw (count, first) refl

header_item : (c : Context) (ws : List (List ℕ)) (i : Item) → placed c (Some keywords.Header) ws ≡ Ok i
    → is_header_item i ≡ true
unfolding item_of plain_item line_row
header_item c ws i e =
    let placed = unrefused (is_out_of_place c.place c.requested keywords.Header) OutOfPlace _ i e in
    let o = version_word (word 1 ws) in
    let h = and_then_is (λ (version : ℕ). Some (Header version)) o i (or_bad_is _ i placed.1) in
    let same : Header h.0 ≡ i = cc h.2 in rw (← same)

first_header : (c : Context) (ws : List (List ℕ)) (i : Item) → is_first_place c.place ≡ true
    → item_of_words c ws ≡ Ok i → is_header_item i ≡ true
unfolding item_of_words
first_header c ws i start e =
    let h = unrefused (is_first_place c.place && not (is_header ws)) BadHeader _ i e in
    let is = not-false _ (sym (rw start) ∙ h.0) in
    header_item c ws i (rw (header_keyword c.version ws is) at h.1)

-- a line is read only where it may stand

keyword_allowed : (c : Context) (ws : List (List ℕ)) (i : Item) → IsPlaced c ws i
    → is_out_of_place c.place c.requested (keyword_for i) ≡ false
keyword_allowed c ws i p = elim (item_is c.actors c.streams p.keyword ws i p.item) [
  | inl h ↦ rw h.is refl
  | inr h ↦ rw h p.in_place
]

item_keyworded : (i : Item) → is_later_item i ≡ true → is_later_keyword (keyword_for i) ≡ true
item_keyworded (Filter (filters.Eat kind code)) h = refl
item_keyworded (Filter f) h = refl
item_keyworded (Device true name) h = refl
item_keyworded (Actor roles.Joy name) h = refl
item_keyworded (Actor roles.Owner name) h = refl
item_keyworded i h = absurd (cc h)

item_later : (c : Context) (ws : List (List ℕ)) (i : Item) → IsPlaced c ws i → is_later_item i ≡ true
    → nat_eq c.version 1 ≡ false
item_later c ws i p h = elim (item_is c.actors c.streams p.keyword ws i p.item) [
  | inl a ↦ absurd (cc (ap is_later_item a.is, h))
  | inr a ↦ keyword_is_later c.version (word 0 ws) (word 1 ws) (length ws) p.keyword p.named
      (rw a at (item_keyworded i h))
]

-- where the first holds the second does not, so both never hold
pub never_both : (a b : Bool) → (a ≡ true → b ≡ false) → (a && b) ≡ false
never_both true b h = h refl
never_both false b h = refl

-- what is read is accepted

words_accepted : (past : ItemsBefore) (ws : List (List ℕ)) (i : Item) → WereAccepted past → ArePlain ws
    → checked (context_of past) (item_of_words (context_of past) ws) ≡ Ok i → IsAccepted (context_of past) i
words_accepted past ws i were plain e =
    let c = context_of past in
    let h = checked_is c (item_of_words c ws) i e in
    let p = words_are c ws i h.read in
    let named : AreNamed c.actors =
    always (λ x. AreNamed x.actors) (λ j x g. absurd (cc g)) named_more past were in
    record {
      sayable = item_said c.actors c.streams p.keyword ws i p.item named plain;
      headed = λ n. false_from_ne_true _ (λ s. cc (first_header c ws i s h.read, n));
      in_place = keyword_allowed c ws i p;
      later = never_both (is_later_item i) (nat_eq c.version 1) (item_later c ws i p);
      in_version = h.in_version;
      once = h.once;
      few = h.enough;
      few_slots = h.few_slots;
      fits = h.allowed;
    }

-- so many accepted lines at most
record AreLines (n : ℕ) (past : ItemsBefore) : Type 0 where
  accepted : WereAccepted past
  few : length past ≤ n

-- one line more, which leaves this past
module _ (n : ℕ) (past now : ItemsBefore) (h : AreLines n past) where
  stays : past ≡ now → AreLines (suc n) now
  stays e = rw (← e) (record { accepted = h.accepted; few = omega (arith, h.few) })

  behind_accepted : (means : Result Item Cause) → ((i : Item) → means ≡ Ok i → IsAccepted (context_of past) i)
      → result_map_both (λ j. j ∷ past) (λ why. why) means ≡ Ok now → AreLines (suc n) now
  behind_accepted (Err cause) p e = absurd (cc e)
  behind_accepted (Ok i) p e =
      let same : i ∷ past ≡ now = cc e in
      rw (← same) (record { accepted = (p i refl, h.accepted); few = omega (arith, h.few) })

  words_behind : (ws : List (List ℕ)) → ArePlain ws → behind_words past ws ≡ Ok now → AreLines (suc n) now
  words_behind [] plain e = stays (cc e)
  words_behind (w ∷ ws) plain e =
      behind_accepted (checked (context_of past) (item_of_words (context_of past) (w ∷ ws)))
      (λ i g. words_accepted past (w ∷ ws) i h.accepted plain g) e

  line_accepted : (line : List ℕ) → behind_line past line ≡ Ok now → AreLines (suc n) now
  line_accepted line e = elim (line_means past now line e) [
    | inl g ↦ stays g.1
    | inr g ↦ words_behind (words_of line) (line_plain line g.0) g.1
  ]

lines_accepted : (lines : List (List ℕ)) (k n : ℕ) (past now : ItemsBefore) → AreLines n past
    → behind_lines k lines past ≡ Ok now → AreLines (n + length lines) now
unfolding behind_lines
lines_accepted [] k n past now h e =
    let same : past ≡ now = cc e in
    rw (← same) (record { accepted = h.accepted; few = omega (arith, h.few) })
lines_accepted (line ∷ lines) k n past now h e =
    let g = lines_mean k line lines past now e in
    let count : n + suc (length lines) ≡ suc n + length lines = omega arith in
    rw count (lines_accepted lines (suc k) (suc n) g.0 now (line_accepted n past g.0 h line g.1) g.2)

-- the lines of a text were accepted, and are no more than its lines
pub all_accepted : (lines : List (List ℕ)) (past : ItemsBefore) → behind_lines 1 lines [] ≡ Ok past
    → WereAccepted past × (length past ≤ length lines)
all_accepted lines past e =
    let h = lines_accepted lines 1 0 [] past (record { accepted = tt; few = omega arith }) e in
    (h.accepted, omega (arith, h.few))

-- the past of accepted lines that a record is of
pub record IsOfPast (r : RecordView) : Type 0 where
  -- what the last accepted line said
  pub newest : Item
  -- what the lines before it said
  pub past : ItemsBefore
  -- each item was accepted behind those before it
  pub accepted : WereAccepted (newest ∷ past)
  -- the record is the one that these items give
  pub same : record_of_past (newest ∷ past) ≡ r

read_past : (count : ℕ) (o : Result ItemsBefore Refused) (r : RecordView)
    → ((past : ItemsBefore) → o ≡ Ok past → WereAccepted past) → as_record count o ≡ Ok r → IsOfPast r
read_past count (Err refused) r were e = absurd (cc e)
read_past count (Ok []) r were e = absurd (cc e)
read_past count (Ok (item ∷ past)) r were e =
    record { newest = item; past = past; accepted = were (item ∷ past) refl; same = cc e }

-- a record that bytes mean is one of accepted lines
pub meaning_of_past : (bytes : List ℕ) (r : RecordView) → meaning bytes ≡ Ok r → IsOfPast r
unfolding meaning
meaning_of_past bytes r e =
    read_past (length (text_lines bytes)) (behind_lines 1 (text_lines bytes) []) r
    (λ past h. (all_accepted (text_lines bytes) past h).0) e
