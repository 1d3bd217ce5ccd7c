-- The line by which a source injects an event.
use Rattle.std.proofs.Common.{◌≡◌, ℕ, ◌-◌, false, true, List, bytes_eq, codes, length, Some, refl, arith}
use Rattle.std.proofs.lemmas.Slice.Eq.{bytes_eq-Decides}
use Rattle.inp_actors.specs.declared.role.Role.TheVariants as roles
use Rattle.inp_record.specs.declared.context.Context.{Context}
use Rattle.inp_record.specs.declared.verb.Verb.TheVariants as verbs
use Rattle.inp_record.specs.Place.{is_first_place}
use Rattle.inp_record.specs.Verb.{command_row, verb_of, command_of}
use Rattle.inp_record.specs.Words.{word, actor_from, action_of, item_of}
use Rattle.inp_record.specs.Meaning.{item_of_words}
use Rattle.inp_record.proofs.Keywords.{do_begins_action}
use Rattle.inp_record.proofs.Rows.{verb_read, same_stream, action_by_verb}

event_verb : (ws : List (List ℕ)) → length ws ≡ 7 → bytes_eq (word 2 ws) (codes "event") ≡ true
    → verb_of roles.Source (word 2 ws) (length ws - 3) ≡ Some verbs.Event
unfolding command_row
event_verb ws count event =
    rw ((bytes_eq-Decides (word 2 ws) (codes "event")).0 event)
    (verb_read 0 roles.Source verbs.Event (length ws - 3) refl (omega (arith, count)))

-- it means what the words behind `event` are
pub event_line : (c : Context) (ws : List (List ℕ)) (source : ℕ) → is_first_place c.place ≡ false
    → length ws ≡ 7 → bytes_eq (word 0 ws) (codes "do") ≡ true → bytes_eq (word 2 ws) (codes "event") ≡ true
    → actor_from 0 c.actors (word 1 ws) ≡ Some (source, roles.Source)
    → item_of_words c ws ≡ action_of source (command_of 0 roles.Source verbs.Event ws)
unfolding item_of_words item_of
event_line c ws source first count does event actor =
    rw (
      first,
      do_begins_action c.version (word 0 ws) (word 1 ws) (length ws) does (omega (arith, count)),
      actor,
      action_by_verb,
      event_verb,
      same_stream,
    )
