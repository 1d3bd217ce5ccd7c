use Rattle.std.proofs.Common.{rules, ◌≡◌, ◌-◌, ℕ, Bor, List, length, Some, None, refl}
use Rattle.std.proofs.lemmas.List.{length-map}
use Rattle.inp_codes.specs.ByNumber.{texts}
use Rattle.inp_record.specs.Verb.{verb_of, command_of}
use Rattle.inp_record.specs.Words.{word, actor_from}
use Rattle.inp_record.proofs.Rows.{action_is}
use Rattle.inp_record.proofs.command_parser.action_item.Goals as goal

count_of_texts : (words : List (Bor (List ℕ))) → length (texts words) ≡ length words
count_of_texts words = length-map words (λ w. w.now)

pub returns-in_default-verb_of : goal.returns-in_default-verb_of
returns-in_default-verb_of c =
    let ws = texts c.args.words.now in
    let actors = c.args.actors.now in
    let actor = c.in-Some.actor in
    let role = c.in-Some.role in
    let first : actor_from 0 actors (word 1 ws) ≡ Some (actor, role) = search rules in
    let named : verb_of role (word 2 ws) (length ws - 3) ≡ None = rw count_of_texts (search rules) in
    rw (action_is actors c.args.stream actor role ws first, named) refl

pub returns-in-Ok-Some : goal.returns-in-Ok-Some
returns-in-Ok-Some c =
    let ws = texts c.args.words.now in
    let actors = c.args.actors.now in
    let actor = c.in-Some.actor in
    let role = c.in-Some.role in
    let verb = c.in-Some-verb_of.verb in
    let first : actor_from 0 actors (word 1 ws) ≡ Some (actor, role) = search rules in
    let named : verb_of role (word 2 ws) (length ws - 3) ≡ Some verb = rw count_of_texts (search rules) in
    let made : command_of c.args.stream role verb ws ≡ Some c.in-Ok-Some.command = search rules in
    rw (action_is actors c.args.stream actor role ws first, named, made) refl

pub returns-in-Ok-None : goal.returns-in-Ok-None
returns-in-Ok-None c =
    let ws = texts c.args.words.now in
    let actors = c.args.actors.now in
    let actor = c.in-Some.actor in
    let role = c.in-Some.role in
    let verb = c.in-Some-verb_of.verb in
    let first : actor_from 0 actors (word 1 ws) ≡ Some (actor, role) = search rules in
    let named : verb_of role (word 2 ws) (length ws - 3) ≡ Some verb = rw count_of_texts (search rules) in
    let made : command_of c.args.stream role verb ws ≡ None = search rules in
    rw (action_is actors c.args.stream actor role ws first, named, made) refl
