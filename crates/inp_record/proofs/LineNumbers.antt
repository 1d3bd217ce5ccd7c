-- The numbers of action lines, line by line.
use Rattle.std.proofs.Common.{◌≡◌, ℕ, zero, suc, ◌+◌, ◌-◌, ◌<◌, Bool, true, false, if◌then◌else◌, nat_eq}
use Rattle.std.proofs.Common.{codes, List, [], ◌∷◌, length, drop, filter, Some, None, Result, Ok, Err, refl}
use Rattle.std.proofs.Common.{sym, ap, ◌∙◌, add-one, arith, length-append, inl, inr}
use Rattle.std.specs.Prelude.{slice_get}
use Rattle.std.specs.List.{slice_split, onto_first}
use Rattle.std.proofs.lemmas.Option.{slice_get-get_or}
use Rattle.std.proofs.lemmas.Bool.Decides.{nat_tests}
use Rattle.inp_actors.specs.declared.actor_text.ActorText.{ActorText}
use Rattle.inp_actors.specs.Record.{RecordView}
use Rattle.inp_texts.specs.Line.{lines_of as text_lines, words_of, is_blank, is_comment, is_word}
use Rattle.inp_record.specs.declared.cause.Cause.{Cause}
use Rattle.inp_record.specs.declared.refused.Refused.{Refused}
use Rattle.inp_record.specs.declared.context.Context.{Context}
use Rattle.inp_record.specs.declared.item.Item as item
use Rattle.inp_record.specs.declared.item.Item.TheVariants.{Action}
use Rattle.inp_record.specs.declared.keyword.Keyword as keyword
use Rattle.inp_record.specs.Words.{word, has_word, is_action, item_of}
use Rattle.inp_record.specs.ItemsBefore.{ItemsBefore, after, context_of}
use Rattle.std.specs.Result.{result_map_both}
use Rattle.inp_record.specs.Meaning.{checked, item_of_words, behind_words, behind_line, behind_lines}
use Rattle.inp_record.specs.Meaning.{record_of_past, as_record, meaning}
use Rattle.inp_record.specs.LineNumber.{is_action_line, action_numbers}
use Rattle.inp_record.proofs.Options.{chosen}
use Rattle.inp_record.proofs.Inversions.{checked_is, words_are, act_is, read_as, line_means, lines_mean}
use Rattle.inp_record.proofs.Sayable.{keyword_for, is_action_item, acts}
use Rattle.inp_record.proofs.Lines.{plain_keyword}
use Rattle.inp_record.proofs.Keywords.{action_is_do}

-- behind the first item
get_behind : (x : ℕ) (xs : List ℕ) (k : ℕ) → 0 < k → slice_get (x ∷ xs) k ≡ slice_get xs (k - 1)
get_behind x xs zero h = absurd (omega arith)
get_behind x xs (suc k) h = let e : k ≡ suc k - 1 = omega arith in rw (← e)

-- the line at this place
module _ (lines : List (List ℕ)) (n left : ℕ) (x : List ℕ) (d : drop n lines ≡ x ∷ drop (n + 1) lines) where
  numbered : action_numbers (n + 1) (drop n lines)
      ≡ (if is_action_line x then (n + 1) ∷ action_numbers (n + 1 + 1) (drop (n + 1) lines)
      else action_numbers (n + 1 + 1) (drop (n + 1) lines))
  unfolding action_numbers
  numbered = rw (d, ← add-one (n + 1))

  -- it is the wanted one
  pub here : is_action_line x ≡ true → left ≡ 0
      → slice_get (action_numbers (n + 1) (drop n lines)) left ≡ Some (n + 1)
  here is z = rw (numbered, is, z) refl

  -- it is another action line
  pub another : is_action_line x ≡ true → 0 < left
      → slice_get (action_numbers (n + 1) (drop n lines)) left
      ≡ slice_get (action_numbers (n + 1 + 1) (drop (n + 1) lines)) (left - 1)
  another is z =
      rw (numbered, is) (get_behind (n + 1) (action_numbers (n + 1 + 1) (drop (n + 1) lines)) left z)

  -- it is no action line
  pub none_here : is_action_line x ≡ false
      → slice_get (action_numbers (n + 1) (drop n lines)) left
      ≡ slice_get (action_numbers (n + 1 + 1) (drop (n + 1) lines)) left
  none_here is = rw (numbered, is) refl

-- it was somewhere
pub not_missed : (all lines : List (List ℕ)) (n line left : ℕ) → line < length (action_numbers 1 all)
    → lines ≡ [] → slice_get (action_numbers 1 all) line ≡ slice_get (action_numbers (n + 1) lines) left → ⊥
unfolding action_numbers
not_missed all lines n line left h z e =
    let some = slice_get-get_or (action_numbers 1 all) line 0 h in
    let none : slice_get (action_numbers 1 all) line ≡ None = rw (e, z) in
    cc (some, none)

-- how many action lines there are

-- the second past has so many action lines more than the first
abbrev Adds : ItemsBefore → ItemsBefore → ℕ → Type 0
Adds past now n = length (context_of now).lines ≡ length (context_of past).lines + n

-- an item adds a line exactly where its keyword is that of an action
item_adds : (c : Context) (i : item.Item)
    → length (after i c).lines ≡ length c.lines + (if is_action_item i then 1 else 0)
item_adds c (Action actor command) =
    omega (arith, length-append c.lines (record { actor = actor; command = command } ∷ []))
item_adds c i = omega arith

keyword_is : (actors : List ActorText) (s : ℕ) (k : keyword.Keyword) (ws : List (List ℕ)) (i : item.Item)
    → item_of actors s k ws ≡ Ok i → is_action (keyword_for i) ≡ is_action k
keyword_is actors s k ws i e = elim (read_as actors s k ws i e) [
  | inl h ↦ rw ((act_is actors s ws i h.1).is) (sym h.0)
  | inr h ↦ ap is_action (plain_keyword k ws i h.1)
]

words_add : (c : Context) (ws : List (List ℕ)) (i : item.Item) → item_of_words c ws ≡ Ok i
    → is_action (keyword_for i) ≡ has_word ws 0 (codes "do")
words_add c ws i e = let p = words_are c ws i e in keyword_is c.actors c.streams p.keyword ws i p.item
    ∙ action_is_do c.version (word 0 ws) (word 1 ws) (length ws) p.keyword p.named

-- a byte begins a word
pub word_begun : (b : ℕ) (bytes : List ℕ) → is_word (b ∷ bytes) ≡ true
word_begun b bytes = grind (arith, nat_tests)

-- the first word of a comment begins with #
comment_begins : (parts : List (List ℕ)) (b : ℕ) → nat_eq b 35 ≡ true
    → has_word (filter is_word (onto_first b parts)) 0 (codes "do") ≡ false
comment_begins [] b h = let is : b ≡ 35 = grind (arith, nat_tests) in rw is refl
comment_begins (part ∷ parts) b h = let is : b ≡ 35 = grind (arith, nat_tests) in rw (word_begun, is) refl

comment_does_nothing : (line : List ℕ) → is_comment line ≡ true → is_action_line line ≡ false
comment_does_nothing [] h = absurd (cc h)
comment_does_nothing (b ∷ line) h = elim (chosen (is_blank b) (is_comment line) (nat_eq b 35) true h) [
  | inl g ↦ rw g.0 (comment_does_nothing line g.1)
  | inr g ↦ rw g.0 (comment_begins (slice_split is_blank line) b g.1)
]

-- a line between two pasts
module _ (past now : ItemsBefore) where
  behind_adds : (means : Result item.Item Cause) (does : Bool)
      → ((i : item.Item) → means ≡ Ok i → is_action (keyword_for i) ≡ does)
      → result_map_both (λ j. j ∷ past) (λ why. why) means ≡ Ok now
      → Adds past now (if does then 1 else 0)
  behind_adds (Err cause) does is e = absurd (cc e)
  behind_adds (Ok i) does is e =
      let same : i ∷ past ≡ now = cc e in
      rw (← same, ← is i refl, acts) (item_adds (context_of past) i)

  all_words_add : (ws : List (List ℕ)) → behind_words past ws ≡ Ok now
      → Adds past now (if has_word ws 0 (codes "do") then 1 else 0)
  all_words_add [] e = let same : past ≡ now = cc e in rw (← same) (omega arith)
  all_words_add (w ∷ ws) e =
      behind_adds (checked (context_of past) (item_of_words (context_of past) (w ∷ ws)))
      (has_word (w ∷ ws) 0 (codes "do"))
      (λ i h. words_add (context_of past) (w ∷ ws) i
      (checked_is (context_of past) (item_of_words (context_of past) (w ∷ ws)) i h).read) e

  line_adds : (line : List ℕ) → behind_line past line ≡ Ok now
      → Adds past now (if is_action_line line then 1 else 0)
  line_adds line e = elim (line_means past now line e) [
    | inl h ↦ rw (← h.1, comment_does_nothing line h.0) (omega arith)
    | inr h ↦ all_words_add (words_of line) h.1
  ]

lines_add : (lines : List (List ℕ)) (k n : ℕ) (past now : ItemsBefore) → behind_lines k lines past ≡ Ok now
    → Adds past now (length (action_numbers n lines))
unfolding behind_lines action_numbers
lines_add [] k n past now e = let same : past ≡ now = cc e in rw (← same) (omega arith)
lines_add (line ∷ lines) k n past now e =
    let h = lines_mean k line lines past now e in
    omega (
      arith,
      by_action (is_action_line line) (action_numbers (suc n) lines),
      line_adds past h.0 line h.1,
      lines_add lines (suc k) (suc n) h.0 now h.2,
    )
  where
    by_action : (does : Bool) (xs : List ℕ)
        → length (if does then n ∷ xs else xs) ≡ (if does then 1 else 0) + length xs
    by_action true xs = omega arith
    by_action false xs = omega arith

record_adds : (count : ℕ) (means : Result ItemsBefore Refused) (r : RecordView) → as_record count means ≡ Ok r
    → (past : ItemsBefore) × (means ≡ Ok past) × (record_of_past past ≡ r)
record_adds count (Err refused) r e = absurd (cc e)
record_adds count (Ok []) r e = absurd (cc e)
record_adds count (Ok (i ∷ past)) r e = (i ∷ past, refl, cc e)

-- a text that means a record has as many action lines as the record has
pub action_count : (bytes : List ℕ) (r : RecordView) → meaning bytes ≡ Ok r
    → length (action_numbers 1 (text_lines bytes)) ≡ length r.lines
unfolding meaning
action_count bytes r e =
    let h = record_adds (length (text_lines bytes)) (behind_lines 1 (text_lines bytes) []) r e in
    let more = lines_add (text_lines bytes) 1 1 [] h.0 h.1 in
    let same : (context_of h.0).lines ≡ r.lines = cc h.2 in
    omega (arith, more, ap length same)
