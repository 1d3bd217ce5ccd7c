-- Commands as rows of their table, written and read again.
use Rattle.std.proofs.Common.{◌≡◌, ℕ, ◌≤◌, true, List, ◌∷◌, length, Some, refl, arith, false, ◌&&◌}
use Rattle.std.proofs.Common.{nat_eq, [], map, Option, None, bytes_eq, IfSome, sym, ◌-◌, codes, Ok, ap, ◌∙◌}
use Rattle.std.specs.List.{list_all, range_with_len, find}
use Rattle.std.specs.Prelude.{option_map}
use Rattle.std.proofs.Common.{Bool, cond, if◌then◌else◌, Result, Err}
use Rattle.std.proofs.lemmas.Bool.{and_from, and_parts, eqb-true, le-leb}
use Rattle.std.proofs.lemmas.Option.{cond_some}
use Rattle.std.proofs.lemmas.Bool.Decides.{nat_tests}
use Rattle.inp_actors.specs.Command.{is_command_of, is_count_of, is_in_range, stream_of}
use Rattle.inp_record.specs.canon.Device.{fuzz_words, info_words}
use Rattle.inp_record.specs.canon.Command.{command_words}
use Rattle.inp_texts.specs.Table.{named}
use Rattle.inp_record.specs.Field.{made}
use Rattle.inp_record.specs.ItemsBefore.{streams_in}
use Rattle.inp_record.specs.Action.{Row, command_rows, count_max, row_of}
use Rattle.inp_record.specs.Verb.{command_row, verb_row, verb_rows, is_verb_of, argument_count, verbs}
use Rattle.inp_record.specs.Verb.{with_arguments, verb_of, is_stream, command_of}
use Rattle.inp_record.specs.declared.verb.Verb.{Verb}
use Rattle.inp_actors.specs.declared.role.Role as role
use Rattle.inp_actors.specs.declared.role.Role.TheVariants as roles
use Rattle.inp_actors.specs.declared.command.Command as command
use Rattle.inp_record.specs.declared.verb.Verb as verb
use Rattle.inp_record.specs.declared.verb.Verb.TheVariants as verbs
use Rattle.inp_record.proofs.FieldFits.{is_sound, Values, FitsFields, of_values, written}
use Rattle.inp_record.specs.canon.Words.{Words}
use Rattle.inp_actors.specs.declared.command.Command.TheVariants as commands
use Rattle.inp_record.specs.declared.cause.Cause.{Cause}
use Rattle.inp_record.specs.declared.cause.Cause.TheVariants.{BadCommand}
use Rattle.inp_record.specs.declared.item.Item as item
use Rattle.inp_record.specs.declared.item.Item.TheVariants as items
use Rattle.inp_record.specs.declared.keyword.Keyword.TheVariants as keywords
use Rattle.inp_record.specs.Line.{line_row}
use Rattle.inp_record.specs.Keyword.{keyword_rows, keyword_of, has_words}
use Rattle.inp_record.specs.Words.{word, actor_from, action_of, action_by, action_item}
use Rattle.inp_actors.specs.declared.actor_text.ActorText.{ActorText}
use Rattle.inp_record.proofs.Fields.{made_read, written_plain, length-written}
use Rattle.inp_record.proofs.PlainLines.{IsPlainWord, is_plain}

-- the command that a row makes of values
abbrev pub row_command : (row : Row) → Values row.fields → command.Command
row_command row vs = of_values command.Command row.fields row.make vs

-- A command of an actor of this role, where there are so many streams: one that a row of the role makes
-- of values that its fields can say.
pub record IsOfRow (P : List ℕ → Type 0) (stream : ℕ) (r : role.Role) (does : command.Command) : Type 0 where
  -- the verb of the command
  pub verb : verb.Verb
  -- the role has the verb
  pub allowed : is_verb_of r verb ≡ true
  -- what the fields of the row say
  pub values : Values (command_row stream r verb).fields
  -- each field can say its value
  pub fits : FitsFields P (command_row stream r verb).fields values
  -- the command is the one that the row makes of these values
  pub is : does ≡ row_command (command_row stream r verb) values

module _ (stream : ℕ) (r : role.Role) where
  -- each row is written as the canonical text has it
  pub row_words : (v : verb.Verb) (vs : Values (command_row stream r v).fields)
      → command_words (row_command (command_row stream r v) vs) ≡ (command_row stream r v).word
      ∷ written (command_row stream r v).fields 0 vs
  unfolding command_row command_words info_words fuzz_words
  row_words verbs.Event vs = refl
  row_words v vs = refl

  -- each row is found by its word
  pub row_named : (v : verb.Verb) → named verb_rows (command_row stream r v).word ≡ Some v
  unfolding command_row verb_rows
  row_named verbs.Event = refl
  row_named v = refl

  -- a row has a field for each argument of its verb
  pub row_count : (v : verb.Verb) → length (command_row stream r v).fields ≡ argument_count v
  unfolding command_row
  row_count verbs.Event = refl
  row_count v = refl

  -- a command has the streams that its row says
  pub row_stream : (v : verb.Verb) (vs : Values (command_row stream r v).fields)
      → stream_of (row_command (command_row stream r v) vs)
      ≡ range_with_len stream (streams_in (row_command (command_row stream r v) vs))
  unfolding command_row
  row_stream verbs.Stream vs = refl
  row_stream v vs = refl

  -- a row has the word and the actors of its verb
  pub row_alike : (v : verb.Verb) → ((command_row stream r v).word ≡ (verb_row v).0)
      × ((command_row stream r v).is_allowed ≡ is_verb_of r v)
  unfolding command_row
  row_alike verbs.Event = (refl, refl)
  row_alike v = (refl, refl)

  -- a row reads its fields from the fourth word on
  pub row_read : (v : verb.Verb) (ws : List (List ℕ))
      → (command_row stream r v).read ws ≡ made command.Command (command_row stream r v).fields 0 3 ws
      (command_row stream r v).make
  unfolding command_row
  row_read verbs.Event ws = refl
  row_read v ws = refl

  word_plain : (v : verb.Verb) → is_plain (command_row stream r v).word ≡ true
  unfolding command_row
  word_plain verbs.Event = refl
  word_plain v = refl

pub row_sound : (stream : ℕ) (r : role.Role) (v : verb.Verb)
    → list_all is_sound (command_row stream r v).fields ≡ true
unfolding command_row
row_sound stream roles.Joy verbs.Read = refl
row_sound stream r verbs.Read = refl
row_sound stream r v = refl

-- each row has the actors that have its command
pub row_role : (stream : ℕ) (r by : role.Role) (v : verb.Verb) (vs : Values (command_row stream by v).fields)
    → is_command_of r (row_command (command_row stream by v) vs) ≡ is_verb_of r v
unfolding command_row
row_role stream r by verbs.Event vs = refl
row_role stream r by v vs = refl

count_of : (r : role.Role) (n : ℕ) → n ≤ count_max r → is_count_of r n ≡ true
count_of roles.Joy n h = refl
count_of r n h = le-leb _ _ h

-- values that fields can say are in the ranges of the command
pub row_range : (P : List ℕ → Type 0) (stream : ℕ) (r : role.Role) (v : verb.Verb)
    (vs : Values (command_row stream r v).fields) → FitsFields P (command_row stream r v).fields vs
    → is_in_range r (row_command (command_row stream r v) vs) ≡ true
unfolding command_row
row_range P stream r verbs.Event vs h = le-leb _ _ h.0
row_range P stream r verbs.Tick vs h = le-leb _ _ h.0
row_range P stream r verbs.Inhibit vs h = le-leb _ _ h.0
row_range P stream r verbs.Clock vs h = le-leb _ _ h.1.0
row_range P stream r verbs.Write vs h = le-leb _ _ h.0
row_range P stream r verbs.Read vs h = count_of r vs.0 h.0
row_range P stream r verbs.Feedback vs h = and_from _ _ (le-leb _ _ h.0.0) (le-leb _ _ h.0.1)
row_range P stream r v vs h = refl

-- the role has it, and it is given so many words
pub record IsFound (r : role.Role) (count : ℕ) (v : Verb) : Type 0 where
  -- the role has the verb
  pub allowed : is_verb_of r v ≡ true
  -- the words are as many as the arguments of the verb
  pub given : argument_count v ≡ count

-- a verb is found only where the role has it and its arguments are so many
pub verb_found : (r : role.Role) (w : List ℕ) (count : ℕ) (v : Verb) → verb_of r w count ≡ Some v
    → IsFound r count v
unfolding verb_of verb_rows
verb_found r w count v e = by_row (named (map verb_row verbs) w) e
  where
    by_row : (o : Option Verb) → with_arguments r count o ≡ Some v → IsFound r count v
    by_row None e = absurd (cc e)
    by_row (Some t) e =
        let found = cond_some (is_verb_of r t && nat_eq (argument_count t) count) t v e in
        let tests = and_parts _ _ found.0 in
        rw (← found.1) (record { allowed = tests.0; given = eqb-true _ _ tests.1 })

-- a verb that was found has as many arguments as were asked for
pub count_found : (r : role.Role) (w : List ℕ) (count : ℕ) (o : Option Verb) → o ≡ verb_of r w count
    → IfSome o (λ v. argument_count v ≡ count)
count_found r w count None e = tt
count_found r w count (Some v) e = (verb_found r w count v (sym e)).given

-- the row of a word is that of its verb

rows_are : (stream : ℕ) (r : role.Role) → command_rows stream r ≡ map (command_row stream r) verbs
unfolding command_row command_rows
rows_are stream r = refl

found_among : (stream : ℕ) (r : role.Role) (w : List ℕ) (vs : List Verb)
    → find (λ row. bytes_eq row.word w) (map (command_row stream r) vs)
    ≡ option_map (command_row stream r) (named (map verb_row vs) w)
found_among stream r w [] = refl
found_among stream r w (v ∷ vs) =
    rw (← (row_alike stream r v).0)
    (by_test (bytes_eq (command_row stream r v).word w) (found_among stream r w vs))
  where
    by_test : (b : Bool) → find (λ row. bytes_eq row.word w) (map (command_row stream r) vs)
        ≡ option_map (command_row stream r) (named (map verb_row vs) w)
        → cond b (Some (command_row stream r v))
        (find (λ row. bytes_eq row.word w) (map (command_row stream r) vs))
        ≡ option_map (command_row stream r) (if b then Some v else named (map verb_row vs) w)
    by_test true more = refl
    by_test false more = more

row_found : (stream : ℕ) (r : role.Role) (w : List ℕ)
    → row_of stream r w ≡ option_map (command_row stream r) (named verb_rows w)
unfolding verb_rows
row_found stream r w = rw rows_are (found_among stream r w verbs)

-- what an action line means, by the verb of its command
abbrev pub action_with_verb : ℕ → ℕ → role.Role → Option Verb → List (List ℕ) → Result item.Item Cause
action_with_verb stream actor r None ws = Err BadCommand
action_with_verb stream actor r (Some v) ws = action_of actor (command_of stream r v ws)

-- the row of a word says the same as its verb
pub action_by_verb : (stream actor : ℕ) (r : role.Role) (ws : List (List ℕ))
    → action_by actor (row_of stream r (word 2 ws)) ws
    ≡ action_with_verb stream actor r (verb_of r (word 2 ws) (length ws - 3)) ws
unfolding verb_of command_of
action_by_verb stream actor r ws = rw row_found (by_verb (named verb_rows (word 2 ws)))
  where
    by_test : (v : Verb) (b : Bool)
        → (if b then action_of actor (command_of stream r v ws) else Err BadCommand)
        ≡ action_with_verb stream actor r (if b then Some v else None) ws
    by_test v true = refl
    by_test v false = refl

    by_verb : (o : Option Verb) → action_by actor (option_map (command_row stream r) o) ws
        ≡ action_with_verb stream actor r (with_arguments r (length ws - 3) o) ws
    by_verb None = refl
    by_verb (Some v) =
        rw ((row_alike stream r v).1, row_count stream r v)
        (by_test v (is_verb_of r v && nat_eq (argument_count v) (length ws - 3)))

-- what an action line of this actor means
pub action_is : (actors : List ActorText) (stream actor : ℕ) (r : role.Role) (ws : List (List ℕ))
    → actor_from 0 actors (word 1 ws) ≡ Some (actor, r)
    → action_item actors stream ws
    ≡ action_with_verb stream actor r (verb_of r (word 2 ws) (length ws - 3)) ws
action_is actors stream actor r ws first = rw first (action_by_verb stream actor r ws)

-- a command of a row, written and read again

-- the words of a line on which the actor of this name does this
abbrev pub do_words : List ℕ → command.Command → Words
do_words name does = codes "do" ∷ name ∷ command_words does

-- such a line is that of an action
pub do_keyword : (name : List ℕ) (version : ℕ) (does : command.Command)
    → keyword_of version (codes "do") name (length (do_words name does)) ≡ Some keywords.Action
unfolding keyword_of keyword_rows has_words line_row command_words info_words fuzz_words
do_keyword name version commands.Uninhibit = refl
do_keyword name version does = refl

-- a row that the role has is found
pub verb_read : (stream : ℕ) (r : role.Role) (v : verb.Verb) (count : ℕ) → is_verb_of r v ≡ true
    → argument_count v ≡ count → verb_of r (command_row stream r v).word count ≡ Some v
unfolding verb_of
verb_read stream r v count h k =
    let same : nat_eq (argument_count v) count ≡ true = grind (arith, nat_tests) in
    ap (with_arguments r count) (row_named stream r v) ∙ rw (h, same) refl

-- a command that can be said is read again
pub command_read : (name : List ℕ) (stream actor : ℕ) (r : role.Role) (does : command.Command)
    → IsOfRow IsPlainWord stream r does
    → action_by actor (row_of stream r (word 2 (do_words name does))) (do_words name does)
    ≡ Ok (items.Action actor does)
unfolding command_of
command_read name stream actor r does s =
    let row = command_row stream r s.verb in
    let ws : Words = codes "do" ∷ name ∷ row.word ∷ written row.fields 0 s.values in
    let count : argument_count s.verb ≡ length ws - 3 =
    omega (arith, row_count stream r s.verb, length-written row.fields 0 s.values) in
    let read =
    made_read command.Command row.fields 0 3 ws row.make s.values (row_sound stream r s.verb) s.fits refl in
    rw (
      action_by_verb,
      s.is,
      row_words,
      verb_read stream r s.verb (length ws - 3) s.allowed count,
      row_read stream r s.verb ws,
      read,
    )

-- its words are plain
pub command_plain : (stream : ℕ) (r : role.Role) (does : command.Command) → IsOfRow IsPlainWord stream r does
    → list_all is_plain (command_words does) ≡ true
command_plain stream r does s =
    let row = command_row stream r s.verb in
    rw (
      s.is,
      row_words,
      word_plain,
      written_plain row.fields 0 s.values (row_sound stream r s.verb) s.fits,
    ) refl

-- the number of a stream says nothing to a command that takes none
pub same_stream : (stream : ℕ) (r : role.Role) (v : Verb) (ws : List (List ℕ)) → is_stream v ≡ false
    → command_of stream r v ws ≡ command_of 0 r v ws
unfolding command_of command_row
same_stream stream r verbs.Stream ws h = absurd (cc h)
same_stream stream r verbs.Stream16 ws h = absurd (cc h)
same_stream stream r verbs.Event ws h = refl
same_stream stream r v ws h = refl
