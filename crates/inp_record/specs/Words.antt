-- What the words of a line mean (docs/FORMATS.md, "The lines").
use Rattle.std.specs.Prelude.{ℕ, suc, ◌-◌, Bool, true, false, ◌&&◌, if◌then◌else◌, nat_eq, nat_le, List, [], ◌∷◌, codes, bytes_eq, length, slice_index_or, Option, Some, None, is_some, option_map, unwrap_or, ok_or, Result, Err}
use Rattle.inp_model.specs.declared.limits.TheConstants.{BOUNCE_MAX}
use Rattle.inp_model.specs.declared.filter.Filter as filter
use Rattle.inp_model.specs.declared.filter.Filter.TheVariants as filters
use Rattle.inp_actors.specs.declared.role.Role as role
use Rattle.inp_actors.specs.declared.command.Command as command
use Rattle.inp_actors.specs.declared.actor_text.ActorText.{ActorText}
use Rattle.inp_record.specs.declared.cause.Cause.{Cause}
use Rattle.inp_record.specs.declared.cause.Cause.TheVariants.{NoActor, BadCommand, BadWord}
use Rattle.inp_record.specs.declared.keyword.Keyword as keyword
use Rattle.inp_record.specs.declared.keyword.Keyword.TheVariants as keywords
use Rattle.inp_record.specs.declared.item.Item as item
use Rattle.inp_record.specs.declared.item.Item.TheVariants as items
use Rattle.inp_record.specs.Field.{version_word}
use Rattle.inp_record.specs.Line.{line_row}
use Rattle.inp_record.specs.Action.{Row, row_of}

abbrev pub word : ℕ → List (List ℕ) → List ℕ
word i ws = slice_index_or ws i []

-- the word at this place is this one
abbrev pub has_word : List (List ℕ) → ℕ → List ℕ → Bool
has_word ws i wanted = bytes_eq (word i ws) wanted

-- inputrecord and a version
abbrev pub is_header : List (List ℕ) → Bool
is_header ws = nat_eq (length ws) 2 && has_word ws 0 (codes "inputrecord") && is_some (version_word (word 1 ws))

-- the microseconds of a filter are in their range
abbrev pub are_micros : filter.Filter → Bool
are_micros (filters.Bounce code micros) = nat_le 1 micros && nat_le micros BOUNCE_MAX
are_micros _ = true

abbrev pub has_micros : item.Item → Bool
has_micros (items.Filter filter) = are_micros filter
has_micros _ = true

-- the meaning of a line that is no action, if its words have their forms
unfoldable pub plain_item : keyword.Keyword → List (List ℕ) → Option item.Item
plain_item k ws = (line_row k).read ws

-- the number of the actor with this name, and its role; the first of them has the number n
unfoldable pub actor_from : ℕ → List ActorText → List ℕ → Option (ℕ × role.Role)
actor_from n [] name = None
actor_from n (actor ∷ actors) name = if bytes_eq actor.name name then Some (n, actor.role) else actor_from (suc n) actors name

-- an action of this actor, if the words of its command have their forms
abbrev pub action_of : ℕ → Option command.Command → Result item.Item Cause
action_of actor command = ok_or (option_map (items.Action actor) command) BadWord

-- the meaning of an action line of this actor, by the row of its command
abbrev pub action_by : ℕ → Option Row → List (List ℕ) → Result item.Item Cause
action_by actor None ws = Err BadCommand
action_by actor (Some row) ws =
    if row.is_allowed && nat_eq (length row.fields) (length ws - 3) then action_of actor (row.read ws) else Err BadCommand

-- the meaning of an action line, where these actors are there and so many streams
abbrev pub action_item : List ActorText → ℕ → List (List ℕ) → Result item.Item Cause
action_item actors stream ws =
    unwrap_or (option_map (λ actor. action_by actor.0 (row_of stream actor.1 (word 2 ws)) ws) (actor_from 0 actors (word 1 ws)))
    (Err NoActor)

abbrev pub is_action : keyword.Keyword → Bool
is_action keywords.Action = true
is_action _ = false

-- the meaning of a line with this keyword, by its words
unfoldable pub item_of : List ActorText → ℕ → keyword.Keyword → List (List ℕ) → Result item.Item Cause
item_of actors stream keywords.Action ws = action_item actors stream ws
item_of actors stream k ws = ok_or ((line_row k).read ws) BadWord
