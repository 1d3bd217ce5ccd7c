-- What the keyword of a line tells of its words and of the version.
use Rattle.std.proofs.Common.{◌≡◌, ℕ, Bool, true, false, not, if◌then◌else◌, nat_eq, bytes_eq, codes, List}
use Rattle.std.proofs.Common.{[], ◌∷◌, Option, Some, None, unwrap_or, refl, sym, ap, ◌∙◌, ◌≤◌, nat_le, arith}
use Rattle.std.proofs.Common.{inl, inr}
use Rattle.std.specs.List.{list_all}
use Rattle.std.specs.Prelude.{option_and_then}
use Rattle.std.proofs.lemmas.Slice.Eq.{bytes_eq-Decides}
use Rattle.std.proofs.lemmas.Bool.{and_parts, both_ways, not-true}
use Rattle.std.proofs.lemmas.Option.{cond_some}
use Rattle.inp_texts.specs.Table.{named}
use Rattle.inp_record.specs.declared.keyword.Keyword as keyword
use Rattle.inp_record.specs.declared.keyword.Keyword.TheVariants as keywords
use Rattle.inp_record.specs.Line.{line_row}
use Rattle.inp_record.specs.Keyword.{keyword_rows, filter_rows, keyword_under, has_words}
use Rattle.inp_record.specs.Keyword.{keyword_of}
use Rattle.inp_record.specs.Words.{is_action}
use Rattle.inp_record.proofs.Options.{and_then_is, chosen}
use Rattle.std.proofs.lemmas.Bool.Decides.{nat_tests}

-- what a table says of a word passes each test that all its rows pass
pub named_passes : {T : Type 0} (test : List ℕ × T → Bool) (rows : List (List ℕ × T)) (word : List ℕ) (x : T)
    → list_all test rows ≡ true → named rows word ≡ Some x → test (word, x) ≡ true
named_passes test [] word x all e = absurd (cc e)
named_passes {T} test (row ∷ rows) word x all e = elim (chosen (bytes_eq row.0 word) _ _ (Some x) e) [
  | inl h ↦
      let here : row.0 ≡ word = (bytes_eq-Decides row.0 word).0 h.0 in
      let says : row.1 ≡ x = cc h.1 in
      rw (here, says) at (and_parts (test row) (list_all test rows) all).0
  | inr h ↦ named_passes test rows word x (and_parts _ _ all).1 h.1
]

-- the word is do exactly where the keyword is that of an action
abbrev is_do_alone : List ℕ × keyword.Keyword → Bool
is_do_alone row = if is_action row.1 then bytes_eq row.0 (codes "do") else not (bytes_eq row.0 (codes "do"))

rows_are_do_alone : list_all is_do_alone keyword_rows ≡ true
unfolding keyword_rows line_row
rows_are_do_alone = refl

do_by_tests : (a b : Bool) → (if a then b else not b) ≡ true → a ≡ b
do_by_tests true true h = refl
do_by_tests false false h = refl
do_by_tests a b h = absurd (cc h)

with_words_is : (count : ℕ) (o : Option keyword.Keyword) (k : keyword.Keyword)
    → option_and_then (λ j. if has_words j count then Some j else None) o ≡ Some k → o ≡ Some k
with_words_is count None k e = absurd (cc e)
with_words_is count (Some j) k e = rw ((cond_some (has_words j count) j k e).1)

-- a filter line is no action
abbrev is_no_action : List ℕ × keyword.Keyword → Bool
is_no_action row = not (is_action row.1)

kinds_do_nothing : list_all is_no_action filter_rows ≡ true
unfolding filter_rows line_row
kinds_do_nothing = refl

kind_does_nothing : (second : List ℕ)
    → is_action (unwrap_or (named filter_rows second) keywords.Filter) ≡ false
kind_does_nothing second = by_kind (named filter_rows second) refl
  where
    by_kind : (o : Option keyword.Keyword) → named filter_rows second ≡ o
        → is_action (unwrap_or o keywords.Filter) ≡ false
    by_kind None h = refl
    by_kind (Some k) h = not-true _ (named_passes is_no_action filter_rows second k kinds_do_nothing h)

-- the keyword of a line that no record of version 1 has
later_is : (early : Bool) (j k : keyword.Keyword) → (if early then None else Some j) ≡ Some k
    → (early ≡ false) × (k ≡ j)
later_is true j k e = absurd (cc e)
later_is false j k e = (refl, cc e)

-- there is no filter line, no device made by requests, no joystick and no owner under version 1

abbrev pub is_later_keyword : keyword.Keyword → Bool
is_later_keyword keywords.Filter = true
is_later_keyword keywords.Eat = true
is_later_keyword keywords.Norepeat = true
is_later_keyword keywords.Chord = true
is_later_keyword keywords.Bounce = true
is_later_keyword keywords.Udevice = true
is_later_keyword keywords.Joy = true
is_later_keyword keywords.Owner = true
is_later_keyword _ = false

-- of the first words these alone have a version
abbrev is_gated : List ℕ × keyword.Keyword → Bool
is_gated (w, keywords.Filter) = true
is_gated (w, keywords.Udevice) = true
is_gated (w, keywords.Joy) = true
is_gated (w, keywords.Owner) = true
is_gated (w, k) = not (is_later_keyword k)

rows_are_gated : list_all is_gated keyword_rows ≡ true
unfolding keyword_rows line_row
rows_are_gated = refl

-- the second word makes no action of a keyword, and makes one of a later version only where the version is
-- later
under_base : (version : ℕ) (first second : List ℕ) (base k : keyword.Keyword)
    → keyword_under version second base ≡ Some k
    → (is_action k ≡ is_action base) × (is_gated (first, base) ≡ true → is_later_keyword k ≡ true
    → nat_eq version 1 ≡ false)
under_base version first second keywords.Filter k e = let l =
    later_is _ _ _ e in (rw l.1 (kind_does_nothing second), λ row h. l.0)
under_base version first second keywords.Udevice k e = let l =
    later_is _ _ _ e in (ap is_action l.1, λ row h. l.0)
under_base version first second keywords.Joy k e = let l =
    later_is _ _ _ e in (ap is_action l.1, λ row h. l.0)
under_base version first second keywords.Owner k e = let l =
    later_is _ _ _ e in (ap is_action l.1, λ row h. l.0)
under_base version first second base k e =
    let same : base ≡ k = cc e in
    (rw (← same), λ row h. absurd (both_ways _ (sym (ap is_later_keyword same) ∙ not-true _ row) h))

module _ (version : ℕ) (first second : List ℕ) (count : ℕ) (k : keyword.Keyword)
    (e : keyword_of version first second count ≡ Some k) where
  -- the keyword that the first word names, and what the second one makes of it
  keyword_from : (base : keyword.Keyword) × (named keyword_rows first ≡ Some base)
      × (keyword_under version second base ≡ Some k)
  unfolding keyword_of
  keyword_from =
      and_then_is (λ base. keyword_under version second base) (named keyword_rows first) k
      (with_words_is count _ k e)

  -- of all first words `do` alone names an action
  pub action_is_do : is_action k ≡ bytes_eq first (codes "do")
  action_is_do =
      let h = keyword_from in
      (under_base version first second h.0 k h.2).0
      ∙ do_by_tests (is_action h.0) (bytes_eq first (codes "do"))
      (named_passes is_do_alone keyword_rows first h.0 rows_are_do_alone h.1)

  -- under version 1 no word names a keyword of a later version
  pub keyword_is_later : is_later_keyword k ≡ true → nat_eq version 1 ≡ false
  keyword_is_later h =
      let f = keyword_from in
      (under_base version first second f.0 k f.2).1
      (named_passes is_gated keyword_rows first f.0 rows_are_gated f.1) h

-- do begins an action, where it has words enough
pub action_has_words : (count : ℕ) → 3 ≤ count → has_words keywords.Action count ≡ true
unfolding has_words
action_has_words count h = let long : nat_le 3 count ≡ true = grind (arith, nat_tests) in long

-- `do` names an action where at least two words follow
pub do_begins_action : (version : ℕ) (first second : List ℕ) (count : ℕ) → bytes_eq first (codes "do") ≡ true
    → 3 ≤ count → keyword_of version first second count ≡ Some keywords.Action
unfolding keyword_of keyword_rows line_row
do_begins_action version first second count h long =
    let is : first ≡ codes "do" = (bytes_eq-Decides first (codes "do")).0 h in
    rw (is, action_has_words) refl
