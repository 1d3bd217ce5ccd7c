-- Items, written and read again, alone and line by line.
use Rattle.std.proofs.Common.{◌≡◌, ℕ, Bool, true, false, ◌&&◌, nat_eq, List, [], ◌∷◌, length, codes, decimal}
use Rattle.std.proofs.Common.{Some, Ok, refl, ◌∙◌, suc, ◌++◌, map, sym}
use Rattle.std.specs.Prelude.{slice_get, option_map, unwrap_or}
use Rattle.std.proofs.lemmas.Bool.{not-false}
use Rattle.inp_model.specs.declared.event.TheConstants.{EV_ABS}
use Rattle.inp_model.specs.declared.axis_info.AxisInfo.{AxisInfo}
use Rattle.inp_texts.specs.Texts.{code_text, role_text}
use Rattle.inp_record.specs.canon.Words.{Words, lines_text}
use Rattle.inp_record.specs.canon.Device.{fuzz_words, axis_words, filter_words, info_words as info_text}
use Rattle.inp_record.specs.canon.Text.{device_word}
use Rattle.inp_actors.specs.declared.actor_text.ActorText.{ActorText}
use Rattle.inp_record.specs.declared.item.Item.{Item}
use Rattle.inp_record.specs.declared.item.Item.TheVariants.{Header, Device, Axis, Filter, Actor, Action}
use Rattle.inp_record.specs.Keyword.{keyword_rows, filter_rows, keyword_of, has_words}
use Rattle.inp_record.specs.Place.{is_first_place, is_out_of_place}
use Rattle.inp_record.specs.Field.{version_word}
use Rattle.inp_record.specs.Line.{line_row}
use Rattle.inp_record.specs.Words.{word, is_action, plain_item, item_of}
use Rattle.inp_record.specs.declared.context.Context.{Context}
use Rattle.inp_record.specs.Meaning.{item_of_words, behind_words, behind_line, behind_lines}
use Rattle.inp_record.specs.Spelling.{item_words}
use Rattle.inp_texts.specs.Line.{lines_of as text_lines}
use Rattle.inp_record.specs.ItemsBefore.{ItemsBefore, after, context_of}
use Rattle.inp_model.specs.declared.filter.Filter as filter
use Rattle.inp_model.specs.declared.filter.Filter.TheVariants as filters
use Rattle.inp_actors.specs.declared.role.Role as role
use Rattle.inp_actors.specs.declared.role.Role.TheVariants as roles
use Rattle.inp_actors.specs.declared.command.Command as command
use Rattle.inp_record.specs.declared.keyword.Keyword as keyword
use Rattle.inp_record.specs.declared.keyword.Keyword.TheVariants as keywords
use Rattle.inp_record.proofs.Sayable.{keyword_for, keyword_for_role, keyword_for_device, keyword_for_filter}
use Rattle.inp_record.proofs.Sayable.{is_later_role, is_header_item, is_action_item, is_later_item, acts}
use Rattle.inp_record.proofs.Sayable.{IsSayableAction, IsSayable, IsAccepted, after_all, AreAccepted}
use Rattle.inp_record.proofs.CanonLines.{line_read, empty_read}
use Rattle.inp_record.proofs.PlainLines.{IsPlainLine, ArePlainLines, line_of, lines_cut}
use Rattle.inp_record.proofs.WordsAgain.{is_plain-name}
use Rattle.inp_record.proofs.Fields.{version_read}
use Rattle.inp_record.proofs.Inversions.{item_of_plain}
use Rattle.inp_record.proofs.Lines.{of_line, plain_read, plain_line}
use Rattle.inp_record.proofs.Entries.{checked_once}
use Rattle.inp_record.proofs.Rows.{do_words, do_keyword, command_read, command_plain}

-- a line whose words are those of its keyword is read where it may stand
placed_read : (c : Context) (k : keyword.Keyword) (ws : Words) (i : Item)
    → keyword_of c.version (word 0 ws) (word 1 ws) (length ws) ≡ Some k → is_first_place c.place ≡ false
    → is_out_of_place c.place c.requested k ≡ false
    → item_of c.actors c.streams k ws ≡ Ok i → item_of_words c ws ≡ Ok i
unfolding item_of_words
placed_read c k ws i is started within says = rw (started, is, within) says

module _ (actors : List ActorText) (streams : ℕ) where
  action_read : (actor : ℕ) (does : command.Command) → (s : IsSayableAction actors streams actor does)
      → item_of actors streams keywords.Action (do_words s.text.name does) ≡ Ok (Action actor does)
  unfolding item_of
  action_read actor does s = rw s.first (command_read s.text.name streams actor s.text.role does s.of_row)

device_keyword : (version : ℕ) (requested : Bool) (name : List ℕ) → (requested && nat_eq version 1) ≡ false
    → keyword_of version (device_word requested) name 2 ≡ Some (keyword_for_device requested)
unfolding keyword_of keyword_rows has_words line_row
device_keyword version true name later = rw later refl
device_keyword version false name later = refl

role_keyword : (version : ℕ) (r : role.Role) (name : List ℕ) → (is_later_role r && nat_eq version 1) ≡ false
    → keyword_of version (role_text r) name 2 ≡ Some (keyword_for_role r)
unfolding role_text keyword_of keyword_rows has_words line_row
role_keyword version roles.Owner name later = rw later refl
role_keyword version roles.Joy name later = rw later refl
role_keyword version r name later = refl

axis_keyword : (version code : ℕ) (i : AxisInfo)
    → keyword_of version (codes "axis") (code_text EV_ABS code) (length (axis_words code i))
    ≡ Some keywords.Axis
unfolding keyword_of keyword_rows has_words line_row info_text fuzz_words
axis_keyword version code i = refl

filter_keyword : (version : ℕ) (f : filter.Filter) → nat_eq version 1 ≡ false
    → keyword_of version (word 0 (filter_words f)) (word 1 (filter_words f)) (length (filter_words f))
    ≡ Some (keyword_for_filter f)
unfolding keyword_of keyword_rows has_words line_row filter_rows filter_words
filter_keyword version filters.Norepeat later = rw later refl
filter_keyword version f later = rw later refl

-- a header is read where nothing stands before it
header_read : (c : Context) (version : ℕ) (w : List ℕ) → version_word w ≡ Some version
    → is_first_place c.place ≡ true → item_of_words c (codes "inputrecord" ∷ w ∷ []) ≡ Ok (Header version)
unfolding item_of_words keyword_of keyword_rows has_words item_of plain_item line_row
header_read c version w is h = rw (h, is) refl

-- an item has its keyword in each version that has it
item_keyword : (version : ℕ) (actors : List ActorText) (i : Item)
    → (is_later_item i && nat_eq version 1) ≡ false
    → keyword_of version (word 0 (item_words actors i)) (word 1 (item_words actors i))
    (length (item_words actors i)) ≡ Some (keyword_for i)
unfolding keyword_of keyword_rows has_words line_row
item_keyword version actors (Device requested name) p = device_keyword version requested name p
item_keyword version actors (Axis code i) p = axis_keyword version code i
item_keyword version actors (Filter f) p = filter_keyword version f p
item_keyword version actors (Actor r name) p = role_keyword version r name p
item_keyword version actors (Action actor does) p =
    do_keyword (unwrap_or (option_map (λ a. a.name) (slice_get actors actor)) []) version does
item_keyword version actors i p = refl

-- what a line that is no action says is read again
line_item_read : (c : Context) (i : Item) → is_action_item i ≡ false → is_header_item i ≡ false
    → IsAccepted c i → item_of_words c (item_words c.actors i) ≡ Ok i
line_item_read c i n h a =
    let none : is_action (keyword_for i) ≡ false = acts i ∙ n in
    placed_read c (keyword_for i) (item_words c.actors i) i (item_keyword c.version c.actors i a.later)
    (a.headed h) a.in_place
    (rw (
      item_of_plain c.actors c.streams (keyword_for i) (item_words c.actors i) none,
      plain_read c.actors i (of_line c.actors c.streams i none a.sayable),
    ) refl)

-- an item that is accepted is read again
pub item_read : (c : Context) (i : Item) → IsAccepted c i → item_of_words c (item_words c.actors i) ≡ Ok i
item_read c (Header version) a =
    header_read c version (decimal version) (version_read version a.sayable.0 a.sayable.1)
    (not-false _ a.in_place)
item_read c (Action actor does) a =
    rw a.sayable.there
    (placed_read c keywords.Action (do_words a.sayable.text.name does) (Action actor does)
    (do_keyword a.sayable.text.name c.version does) (a.headed refl) refl
    (action_read c.actors c.streams actor does a.sayable))
item_read c i a = line_item_read c i refl refl a

-- its words make a line
pub item_plain : (actors : List ActorText) (streams : ℕ) (i : Item) → IsSayable actors streams i
    → IsPlainLine (item_words actors i)
item_plain actors streams (Action actor does) s =
    record {
      first = refl;
      plain =
          rw (
            s.there,
            is_plain-name s.text.name s.name,
            command_plain streams s.text.role does s.of_row,
          ) refl;
    }
item_plain actors streams i s = plain_line actors i (of_line actors streams i (acts i) s)

-- Each action among these items comes behind these actors, so that it names them as the whole record does.
abbrev pub AreBehindActors : List ActorText → Context → List Item → Type 0
AreBehindActors actors c [] = Unit {0}
AreBehindActors actors c (i ∷ more) =
    (is_action_item i ≡ true → c.actors ≡ actors) × AreBehindActors actors (after i c) more

-- the words of a line depend on the actors at an action alone
same_words : (others actors : List ActorText) (i : Item) → (is_action_item i ≡ true → others ≡ actors)
    → item_words actors i ≡ item_words others i
same_words others actors (Action actor does) h = rw (← h)
same_words others actors i h = refl

-- what stands behind these items
abbrev pub behind_items : List Item → ItemsBefore → ItemsBefore
behind_items [] past = past
behind_items (i ∷ more) past = behind_items more (i ∷ past)

-- items that are entered one by one leave what they leave as a list
pub context_behind : (items : List Item) (past : ItemsBefore)
    → context_of (behind_items items past) ≡ after_all items (context_of past)
context_behind [] past = refl
context_behind (i ∷ more) past = context_behind more (i ∷ past)

-- an item that is accepted is read and leaves itself

words_behind : (past : ItemsBefore) (ws : Words) (i : Item) → IsPlainLine ws
    → item_of_words (context_of past) ws ≡ Ok i → IsAccepted (context_of past) i
    → behind_words past ws ≡ Ok (i ∷ past)
words_behind past [] i plain read a = absurd (cc plain.first)
words_behind past (w ∷ ws) i plain read a =
    let c = context_of past in
    let once = checked_once c (item_of_words c (w ∷ ws)) i read a.in_version a.once a.few a.few_slots in
    rw (once, a.fits)

item_behind : (past : ItemsBefore) (ws : Words) (i : Item) → ws ≡ item_words (context_of past).actors i
    → IsAccepted (context_of past) i → behind_line past (line_of ws) ≡ Ok (i ∷ past)
item_behind past ws i same a =
    let c = context_of past in
    let plain : IsPlainLine ws = rw same (item_plain c.actors c.streams i a.sayable) in
    rw (line_read past ws plain) (words_behind past ws i plain (rw same (item_read c i a)) a)

all_plain : (actors : List ActorText) (items : List Item) (c : Context) → AreAccepted c items
    → AreBehindActors actors c items → ArePlainLines (map (item_words actors) items)
all_plain actors [] c a h = tt
all_plain actors (i ∷ items) c a h =
    let same : item_words c.actors i ≡ item_words actors i = sym (same_words c.actors actors i h.0) in
    (rw same at (item_plain c.actors c.streams i a.0.sayable), all_plain actors items (after i c) a.1 h.1)

lines_behind : (actors : List ActorText) (items : List Item) (past : ItemsBefore) (n : ℕ)
    → AreAccepted (context_of past) items → AreBehindActors actors (context_of past) items
    → behind_lines n (map line_of (map (item_words actors) items) ++ [] ∷ []) past
    ≡ Ok (behind_items items past)
unfolding behind_lines
lines_behind actors [] past n a h = rw empty_read
lines_behind actors (i ∷ items) past n a h =
    rw (item_behind past (item_words actors i) i (same_words (context_of past).actors actors i h.0) a.0)
    (lines_behind actors items (i ∷ past) (suc n) a.1 h.1)

-- lines that say items that are accepted leave these items
pub items_read : (actors : List ActorText) (items : List Item) (past : ItemsBefore) (n : ℕ)
    → AreAccepted (context_of past) items → AreBehindActors actors (context_of past) items
    → behind_lines n (text_lines (lines_text (map (item_words actors) items))) past
    ≡ Ok (behind_items items past)
items_read actors items past n a h =
    rw (lines_cut (map (item_words actors) items) (all_plain actors items (context_of past) a h))
    (lines_behind actors items past n a h)
