-- What it takes for a line to have a meaning.
use Rattle.std.proofs.Common.{◌≡◌, ◌≤◌, ◌<◌, ℕ, suc, ◌∷◌, ◌⊎◌, inl, inr, Bool, true, false, ◌&&◌, not, List}
use Rattle.std.proofs.Common.{length}
use Rattle.std.proofs.Common.{Option, Some, None, ◌+◌, ◌-◌, Result, Ok, Err, refl, sym, ◌∙◌, arith}
use Rattle.std.specs.List.{range_with_len}
use Rattle.std.specs.Prelude.{ok_or, option_map, unwrap_or}
use Rattle.std.proofs.lemmas.Bool.{not-false}
use Rattle.inp_caps.specs.declared.caps_refused.CapsRefused.{CapsRefused}
use Rattle.inp_caps.specs.declared.caps_refused.CapsRefused.TheVariants.{BadSlots}
use Rattle.inp_texts.specs.Line.{is_comment, is_text, words_of}
use Rattle.inp_actors.specs.declared.role.Role as role
use Rattle.inp_actors.specs.declared.command.Command as command
use Rattle.inp_actors.specs.declared.actor_text.ActorText.{ActorText}
use Rattle.inp_actors.specs.Command.{is_command_of, is_in_range, stream_of}
use Rattle.inp_record.specs.declared.cause.Cause.{Cause}
use Rattle.inp_record.specs.declared.cause.Cause.TheVariants.{NotText, BadHeader, OutOfPlace}
use Rattle.inp_record.specs.declared.cause.Cause.TheVariants.{NoActor, BadCommand, BadWord, Twice}
use Rattle.inp_record.specs.declared.cause.Cause.TheVariants.{TooMany, Caps}
use Rattle.inp_record.specs.declared.context.Context.{Context}
use Rattle.inp_record.specs.declared.keyword.Keyword as keyword
use Rattle.inp_record.specs.declared.keyword.Keyword.TheVariants as keywords
use Rattle.inp_record.specs.declared.verb.Verb as verb
use Rattle.inp_record.specs.declared.item.Item as item
use Rattle.inp_record.specs.declared.item.Item.TheVariants as items
use Rattle.inp_record.specs.Keyword.{keyword_of}
use Rattle.inp_record.specs.Place.{is_first_place, is_out_of_place}
use Rattle.inp_record.specs.Verb.{command_row, is_verb_of, argument_count, verb_of, command_of}
use Rattle.inp_record.specs.Words.{word, is_header, is_action, actor_from, action_of}
use Rattle.inp_record.specs.Words.{action_by, action_item, plain_item, item_of}
use Rattle.inp_record.specs.Action.{row_of}
use Rattle.inp_record.specs.ItemsBefore.{ItemsBefore, streams_in}
use Rattle.inp_record.specs.Meaning.{is_later_command, is_twice, is_too_many, has_too_many_slots}
use Rattle.inp_record.specs.Meaning.{builder_refusal, unless_refused, checked, placed, item_of_words}
use Rattle.inp_record.specs.Meaning.{behind_words, behind_line, then_lines, behind_lines}
use Rattle.inp_record.proofs.Fields.{made_fits}
use Rattle.inp_record.proofs.Options.{unrefused, chosen}
use Rattle.inp_record.proofs.Rows.{IsOfRow, row_count, row_read, row_role, row_range, row_stream}
use Rattle.inp_record.proofs.Rows.{action_with_verb, action_by_verb}

-- a line that is read is said once, is not one too many and describes what a device can have
pub record IsChecked (c : Context) (means : Result item.Item Cause) (i : item.Item) : Type 0 where
  -- the words mean the item
  pub read : means ≡ Ok i
  -- the version has its command
  pub in_version : is_later_command c i ≡ false
  -- it is not said twice
  pub once : is_twice c i ≡ false
  -- it is not one too many
  pub enough : is_too_many c i ≡ false
  -- it gives no more slots than its version allows
  pub few_slots : has_too_many_slots c i ≡ false
  -- the builder does not refuse it
  pub allowed : builder_refusal c.builder i ≡ None

let_pass : (why : Option CapsRefused) (j i : item.Item) → unless_refused why j ≡ Ok i → (why ≡ None) × (j ≡ i)
let_pass None j i e = (refl, cc e)
let_pass (Some why) j i e = absurd (cc e)

-- an item that came through the tests was refused by none of them
pub checked_is : (c : Context) (means : Result item.Item Cause) (i : item.Item) → checked c means ≡ Ok i
    → IsChecked c means i
checked_is c (Err cause) i e = absurd (cc e)
checked_is c (Ok j) i e =
    let later = unrefused (is_later_command c j) BadCommand _ i e in
    let twice = unrefused (is_twice c j) Twice _ i later.1 in
    let many = unrefused (is_too_many c j) TooMany _ i twice.1 in
    let wide = unrefused (has_too_many_slots c j) (Caps BadSlots) _ i many.1 in
    let none = let_pass (builder_refusal c.builder j) j i wide.1 in
    rw (← none.1) (record {
      read = refl;
      in_version = later.0;
      once = twice.0;
      enough = many.0;
      few_slots = wide.0;
      allowed = none.0;
    })

-- a line that is read has a keyword that may stand there
pub record IsPlaced (c : Context) (ws : List (List ℕ)) (i : item.Item) : Type 0 where
  -- the line's keyword
  pub keyword : keyword.Keyword
  -- the first words name it in the version that is read
  pub named : keyword_of c.version (word 0 ws) (word 1 ws) (length ws) ≡ Some keyword
  -- a line with its keyword may stand there
  pub in_place : is_out_of_place c.place c.requested keyword ≡ false
  -- the words of the line mean the item
  pub item : item_of c.actors c.streams keyword ws ≡ Ok i

placed_is : (c : Context) (k : Option keyword.Keyword) (ws : List (List ℕ)) (i : item.Item)
    → keyword_of c.version (word 0 ws) (word 1 ws) (length ws) ≡ k → placed c k ws ≡ Ok i → IsPlaced c ws i
placed_is c None ws i n e = absurd (cc e)
placed_is c (Some k) ws i n e =
    let h = unrefused (is_out_of_place c.place c.requested k) OutOfPlace _ i e in
    record { keyword = k; named = n; in_place = h.0; item = h.1 }

-- words without a keyword, or with one out of place, mean nothing
pub words_are : (c : Context) (ws : List (List ℕ)) (i : item.Item) → item_of_words c ws ≡ Ok i
    → IsPlaced c ws i
unfolding item_of_words
words_are c ws i e =
    let k : Option keyword.Keyword = keyword_of c.version (word 0 ws) (word 1 ws) (length ws) in
    let headed = unrefused (is_first_place c.place && not (is_header ws)) BadHeader (placed c k ws) i e in
    placed_is c k ws i refl headed.1

-- a command that was read is of a row
pub of_row : (P : List ℕ → Type 0) (s : ℕ) (by : role.Role) (v : verb.Verb) (ws : List (List ℕ))
    (c : command.Command) → is_verb_of by v ≡ true
    → ((k : ℕ) → 3 ≤ k → k < 3 + argument_count v → P (word k ws)) → command_of s by v ws ≡ Some c
    → IsOfRow P s by c
unfolding command_of
of_row P s by v ws c h p e =
    let row = command_row s by v in
    let f =
    made_fits P command.Command row.fields 0 3 ws row.make c
    (λ k le lt. p k le (omega (arith, row_count s by v))) (sym (row_read s by v ws) ∙ e) in
    record { verb = v; allowed = h; values = f.0; fits = f.1; is = f.2 }

pub record IsFit (s : ℕ) (by : role.Role) (c : command.Command) : Type 0 where
  -- the role has the command
  pub role : is_command_of by c ≡ true
  -- its values are in their ranges
  pub range : is_in_range by c ≡ true
  -- it takes the next number, where it takes a stream
  pub stream : stream_of c ≡ range_with_len s (streams_in c)

-- so it is one that the role has, in its ranges
pub row_fits : (P : List ℕ → Type 0) (s : ℕ) (by : role.Role) (c : command.Command)
    → IsOfRow P s by c → IsFit s by c
row_fits P s by c h = rw h.is (record {
  role = row_role s by by h.verb h.values ∙ h.allowed;
  range = row_range P s by h.verb h.values h.fits;
  stream = row_stream s by h.verb h.values;
})

-- an action comes of a command alone
pub action_of_is : (actor : ℕ) (o : Option command.Command) (i : item.Item) → action_of actor o ≡ Ok i
    → (c : command.Command) × (o ≡ Some c) × (items.Action actor c ≡ i)
action_of_is actor None i e = absurd (cc e)
action_of_is actor (Some c) i e = (c, refl, cc e)

-- what an action line says: the actor of its name, a verb of the actor's role, and a command
pub record IsAct (actors : List ActorText) (s : ℕ) (ws : List (List ℕ)) (i : item.Item) : Type 0 where
  pub actor : ℕ × role.Role
  pub first : actor_from 0 actors (word 1 ws) ≡ Some actor
  pub verb : verb.Verb
  -- the third word names the verb, which the role has, with so many words behind it
  pub named : verb_of actor.1 (word 2 ws) (length ws - 3) ≡ Some verb
  pub does : command.Command
  pub made : command_of s actor.1 verb ws ≡ Some does
  pub is : i ≡ items.Action actor.0 does

pub act_is : (actors : List ActorText) (s : ℕ) (ws : List (List ℕ)) (i : item.Item)
    → action_item actors s ws ≡ Ok i → IsAct actors s ws i
act_is actors s ws i e = by_actor (actor_from 0 actors (word 1 ws)) refl e
  where
    by_verb : (a : ℕ × role.Role) → actor_from 0 actors (word 1 ws) ≡ Some a → (o : Option verb.Verb)
        → verb_of a.1 (word 2 ws) (length ws - 3) ≡ o → action_with_verb s a.0 a.1 o ws ≡ Ok i
        → IsAct actors s ws i
    by_verb a h None g e = absurd (cc e)
    by_verb a h (Some v) g e = let k =
        action_of_is a.0 (command_of s a.1 v ws) i e in
        record { actor = a; first = h; verb = v; named = g; does = k.0; made = k.1; is = sym k.2 }

    by_actor : (o : Option (ℕ × role.Role)) → actor_from 0 actors (word 1 ws) ≡ o
        → unwrap_or (option_map (λ a. action_by a.0 (row_of s a.1 (word 2 ws)) ws) o) (Err NoActor) ≡ Ok i
        → IsAct actors s ws i
    by_actor None h e = absurd (cc e)
    by_actor (Some a) h e =
        by_verb a h (verb_of a.1 (word 2 ws) (length ws - 3)) refl (sym (action_by_verb s a.0 a.1 ws) ∙ e)

-- words that mean no item are refused
pub or_bad_is : (o : Option item.Item) (i : item.Item) → ok_or o BadWord ≡ Ok i → o ≡ Some i
or_bad_is None i e = absurd (cc e)
or_bad_is (Some j) i e = cc e

-- what a line means is an action exactly where its keyword is that of one
pub item_of_action : (actors : List ActorText) (s : ℕ) (k : keyword.Keyword) (ws : List (List ℕ))
    → is_action k ≡ true → item_of actors s k ws ≡ action_item actors s ws
unfolding item_of
item_of_action actors s keywords.Action ws h = refl
item_of_action actors s k ws h = absurd (cc h)

pub item_of_plain : (actors : List ActorText) (s : ℕ) (k : keyword.Keyword) (ws : List (List ℕ))
    → is_action k ≡ false → item_of actors s k ws ≡ ok_or (plain_item k ws) BadWord
unfolding item_of plain_item
item_of_plain actors s keywords.Action ws h = absurd (cc h)
item_of_plain actors s k ws h = refl

-- what a line means is an action, or a plain item
pub read_as : (actors : List ActorText) (s : ℕ) (k : keyword.Keyword) (ws : List (List ℕ)) (i : item.Item)
    → item_of actors s k ws ≡ Ok i
    → ((is_action k ≡ true) × (action_item actors s ws ≡ Ok i))
    ⊎ ((is_action k ≡ false) × (plain_item k ws ≡ Some i))
read_as actors s k ws i e = elim (known (is_action k)) [
  | inl h ↦ inl (h, sym (item_of_action actors s k ws h) ∙ e)
  | inr h ↦ inr (h, or_bad_is (plain_item k ws) i (sym (item_of_plain actors s k ws h) ∙ e))
]
  where
    known : (b : Bool) → (b ≡ true) ⊎ (b ≡ false)
    known true = inl refl
    known false = inr refl

-- a line that was read is a comment, or words
pub line_means : (past now : ItemsBefore) (line : List ℕ) → behind_line past line ≡ Ok now
    → ((is_comment line ≡ true) × (past ≡ now))
    ⊎ ((is_text line ≡ true) × (behind_words past (words_of line) ≡ Ok now))
unfolding behind_line
line_means past now line e = elim (chosen (is_comment line) _ _ (Ok now) e) [
  | inl h ↦ inl (h.0, cc h.1)
  | inr h ↦
      let text = unrefused (not (is_text line)) NotText _ now h.1 in
      inr (not-false _ text.0, text.1)
]

-- one line of those that were read, and the others behind it
pub lines_mean : (k : ℕ) (line : List ℕ) (lines : List (List ℕ)) (past now : ItemsBefore)
    → behind_lines k (line ∷ lines) past ≡ Ok now
    → (mid : ItemsBefore) × (behind_line past line ≡ Ok mid) × (behind_lines (suc k) lines mid ≡ Ok now)
unfolding behind_lines
lines_mean k line lines past now e = by_line (behind_line past line) e
  where
    by_line : (means : Result ItemsBefore Cause)
        → then_lines k means (λ x. behind_lines (suc k) lines x) ≡ Ok now
        → (mid : ItemsBefore) × (means ≡ Ok mid) × (behind_lines (suc k) lines mid ≡ Ok now)
    by_line (Err cause) e = absurd (cc e)
    by_line (Ok mid) e = (mid, refl, e)
