-- The canonical text of a record that bytes mean is read as that record again.
use Rattle.std.proofs.Common.{◌≡◌, ℕ, true, false, nat_eq, List, [], ◌∷◌, ◌++◌, length, map, replicate, Ok}
use Rattle.std.proofs.Common.{refl, sym, ap, ◌∙◌}
use Rattle.std.specs.Prelude.{flat_map}
use Rattle.std.specs.List.{list_all, enumerate_from}
use Rattle.std.proofs.lemmas.Bool.{and_from, and_parts, both_ways, not-true}
use Rattle.inp_actors.specs.declared.actor_text.ActorText.{ActorText}
use Rattle.inp_actors.specs.declared.device_text.DeviceText.{DeviceText}
use Rattle.inp_actors.specs.declared.line.Line.{Line}
use Rattle.inp_actors.specs.Record.{RecordView}
use Rattle.inp_record.specs.canon.Words.{lines_text}
use Rattle.inp_record.specs.canon.Device.{description_lines}
use Rattle.inp_record.specs.canon.Text.{actor_lines, actors_lines, device_lines, devices_lines, action_words}
use Rattle.inp_record.specs.canon.Text.{record_lines, record_text}
use Rattle.inp_texts.specs.Line.{lines_of as text_lines}
use Rattle.inp_record.specs.declared.context.Context.{Context}
use Rattle.inp_record.specs.declared.item.Item.{Item}
use Rattle.inp_record.specs.declared.item.Item.TheVariants.{Header, Actor}
use Rattle.inp_record.specs.declared.place.Place.TheVariants.{Start}
use Rattle.inp_record.specs.Place.{is_first_place}
use Rattle.inp_record.specs.ItemsBefore.{ItemsBefore, with_latest, devices_of, first_context, after}
use Rattle.inp_record.specs.ItemsBefore.{context_of}
use Rattle.inp_record.specs.Meaning.{behind_lines, record_of_past, record_of_context, meaning}
use Rattle.inp_record.specs.Spelling.{item_words, description_items, actor_items, device_items}
use Rattle.inp_record.specs.Spelling.{action_item_of, RoundTrips}
use Rattle.inp_record.proofs.LineByLine.{meaning_read, headed}
use Rattle.inp_record.proofs.Sayable.{after_all, WereAccepted}
use Rattle.inp_record.proofs.CanonItems.{AreBehindActors, behind_items, context_behind, items_read}
use Rattle.inp_record.proofs.CanonPasts.{meaning_of_past}
use Rattle.inp_record.proofs.CanonLists.{head_items, all_items}
use Rattle.inp_record.proofs.CanonRecords.{canon, canon_left, settled, not_first, kept}
use Rattle.inp_record.proofs.DescriptionLines.{map_if, map_each, both, description-lines}
use Rattle.inp_record.proofs.Sections.{after_all-append, all_if, all_both, all_each}
use Rattle.inp_record.proofs.DescriptionAgain.{is_no_action, description-acts}

-- the canonical lines say the canonical items

device_line : (actors : List ActorText) (d : ℕ × DeviceText)
    → device_lines actors d ≡ map (item_words actors) (device_items actors d)
unfolding device_lines actors_lines device_items
device_line actors d =
    rw (both (item_words actors) (description_lines d.1.caps) (actors_lines actors d.0)
    (description_items d.1.caps) (flat_map (actor_items d.0) actors) (description-lines actors d.1.caps)
    (map_each (item_words actors) (actor_lines d.0) (actor_items d.0)
    (λ a. map_if (item_words actors) (nat_eq a.device d.0) _) actors))

action_lines : (actors : List ActorText) (lines : List Line)
    → map (action_words actors) lines ≡ map (item_words actors) (map action_item_of lines)
action_lines actors [] = refl
action_lines actors (l ∷ lines) = rw (action_lines actors lines)

lines_are : (version : ℕ) (actors : List ActorText) (devices : List DeviceText) (lines : List Line)
    → item_words actors (Header version) ∷ (devices_lines actors devices ++ map (action_words actors) lines)
    ≡ map (item_words actors) (all_items version actors devices lines)
unfolding devices_lines
lines_are version actors devices lines =
    let f = item_words actors in
    let heads =
    map_each f (device_lines actors) (device_items actors) (device_line actors) (enumerate_from 0 devices) in
    rw (both f _ (map (action_words actors) lines) _ (map action_item_of lines) heads
    (action_lines actors lines))

text_is : (c : Context) → record_text (record_of_context c) ≡ lines_text (map (item_words c.actors) (canon c))
unfolding record_text record_lines
text_is c = ap lines_text (lines_are c.version c.actors (devices_of c) c.lines)

-- no line but an action names an actor of the whole record

none_of_device : (actors : List ActorText) (d : ℕ × DeviceText)
    → list_all is_no_action (device_items actors d) ≡ true
unfolding device_items
none_of_device actors d =
    let p = is_no_action in
    and_from _ _ refl
    (all_both p (description_items d.1.caps) (flat_map (actor_items d.0) actors) (description-acts d.1.caps)
    (all_each p (actor_items d.0) (λ a. all_if p (nat_eq a.device d.0) (Actor a.role a.name) refl) actors))

none_in_heads : (version : ℕ) (actors : List ActorText) (devices : List DeviceText)
    → list_all is_no_action (head_items version actors devices) ≡ true
none_in_heads version actors devices =
    all_each is_no_action (device_items actors) (none_of_device actors) (enumerate_from 0 devices)

plain_behind : (actors : List ActorText) (items : List Item) (c : Context) (more : List Item)
    → list_all is_no_action items ≡ true → AreBehindActors actors (after_all items c) more
    → AreBehindActors actors c (items ++ more)
plain_behind actors [] c more h g = g
plain_behind actors (i ∷ items) c more h g =
    let parts = and_parts _ _ h in
    (λ e. absurd (both_ways _ (not-true _ parts.0) e), plain_behind actors items (after i c) more parts.1 g)

actions_behind : (actors : List ActorText) (lines : List Line) (c : Context) → c.actors ≡ actors
    → AreBehindActors actors c (map action_item_of lines)
actions_behind actors [] c h = tt
actions_behind actors (l ∷ lines) c h = (λ e. h, actions_behind actors lines (after (action_item_of l) c) h)

-- actions leave the actors
same_actors : (lines : List Line) (c : Context) → (after_all (map action_item_of lines) c).actors ≡ c.actors
same_actors [] c = refl
same_actors (l ∷ lines) c = same_actors lines (after (action_item_of l) c)

all_behind : (c : Context) → settled (canon_left c) ≡ settled c
    → AreBehindActors c.actors first_context (canon c)
all_behind c like =
    let heads = head_items c.version c.actors (devices_of c) in
    let actions = map action_item_of c.lines in
    let base = after_all heads first_context in
    let are : base.actors ≡ c.actors =
    rw (← same_actors c.lines base, ← after_all-append heads actions first_context)
    (ap (λ (x : Context). x.actors) like) in
    plain_behind c.actors heads first_context actions (none_in_heads c.version c.actors (devices_of c))
    (actions_behind c.actors c.lines base are)

-- the record of a context, as no line can tell more of it
abbrev record_of_settled : Context → RecordView
record_of_settled x = record {
  version = x.version;
  devices = with_latest x.devices x.name x.requested x.builder;
  actors = x.actors;
  lines = x.lines;
  streams = replicate x.streams [];
}

-- the canonical lines say items that are accepted and leave the same, as far as a record has it
pub read_again : (past : ItemsBefore) → WereAccepted past → is_first_place (context_of past).place ≡ false
    → meaning (record_text (record_of_past past)) ≡ Ok (record_of_past past)
read_again past were s =
    let c = context_of past in
    let k = kept past were s in
    let new = behind_items (canon c) [] in
    let left = context_behind (canon c) [] in
    let like : settled (context_of new) ≡ settled c = ap settled left ∙ k.again.like in
    let text = lines_text (map (item_words c.actors) (canon c)) in
    let read : behind_lines 1 (text_lines text) [] ≡ Ok new =
    items_read c.actors (canon c) [] 1 k.again.accepted (all_behind c k.again.like) in
    let later : (context_of new).place ≡ Start → ⊥ =
    λ e. both_ways (is_first_place c.place) s (ap (λ (x : Context). is_first_place x.place) (sym like)
    ∙ ap is_first_place e) in
    ap meaning (text_is c)
    ∙ meaning_read text new read
    ∙ headed new (length (text_lines text)) later
    ∙ ap (λ (x : Context). let r : RecordView = record_of_settled x in Ok r) like

-- The canonical text of each record that some bytes are is that record again.
pub round_trips : RoundTrips
round_trips bytes r e =
    let p = meaning_of_past bytes r e in
    rw p.same at (read_again (p.newest ∷ p.past) p.accepted (not_first p.newest (context_of p.past)))
