-- What lines mean can be said again: each item by the words that it was read from.
use Rattle.std.proofs.Common.{◌≡◌, ◌<◌, ◌+◌, ◌-◌, ℕ, suc, Bool, true, List, [], ◌∷◌, length, Some, bytes_eq}
use Rattle.std.proofs.Common.{Ok, refl, ap, arith, ◌⊎◌, inl, inr}
use Rattle.std.specs.Prelude.{slice_get}
use Rattle.std.specs.List.{list_all, slice_split}
use Rattle.std.proofs.lemmas.Bool.Decides.{nat_tests}
use Rattle.std.proofs.lemmas.List.Elements.{filter_passes}
use Rattle.std.proofs.lemmas.List.Sums.{list_all-from_AllPass}
use Rattle.inp_caps.proofs.Filters.{list_all-get}
use Rattle.std.proofs.lemmas.Bool.{and_from, le-leb}
use Rattle.std.proofs.lemmas.Slice.Eq.{bytes_eq-Decides}
use Rattle.inp_model.specs.declared.filter.Filter.TheVariants as filters
use Rattle.inp_actors.specs.declared.role.Role as role
use Rattle.inp_actors.specs.declared.actor_text.ActorText.{ActorText}
use Rattle.inp_actors.specs.Name.{is_name}
use Rattle.inp_texts.specs.Line.{is_blank, is_text, is_text_byte, is_word, words_of}
use Rattle.inp_record.specs.declared.keyword.Keyword as keyword
use Rattle.inp_record.specs.declared.item.Item as item
use Rattle.inp_record.specs.declared.item.Item.TheVariants as items
use Rattle.inp_record.specs.Words.{word, has_micros, actor_from, action_item, item_of}
use Rattle.inp_record.proofs.Options.{chosen}
use Rattle.inp_record.proofs.Inversions.{IsAct, of_row, act_is, read_as}
use Rattle.inp_record.proofs.Texts.{words_all}
use Rattle.inp_record.proofs.Rows.{verb_found}
use Rattle.inp_record.proofs.Sayable.{keyword_for, IsSayable}
use Rattle.inp_record.proofs.PlainLines.{is_visible, IsPlainWord}
use Rattle.inp_record.proofs.Lines.{plain_keyword, plain_said}

-- the words of a line of text

abbrev pub are_visible : List (List ℕ) → Bool
are_visible ws = list_all (λ w. list_all is_visible w) ws

abbrev pub are_words : List (List ℕ) → Bool
are_words ws = list_all is_word ws

pub record ArePlain (ws : List (List ℕ)) : Type 0 where
  -- no word is empty
  pub words : are_words ws ≡ true
  -- each byte of each word is visible
  pub visible : are_visible ws ≡ true

-- the words of a line have no blank, and pieces that are empty are left out
pub line_plain : (line : List ℕ) → is_text line ≡ true → ArePlain (words_of line)
line_plain line h = record {
  words = list_all-from_AllPass is_word (words_of line) (filter_passes is_word (slice_split is_blank line));
  visible = words_all is_text_byte is_visible (λ b t k. grind (arith, nat_tests)) line h;
}

plain_at : (ws : List (List ℕ)) (i : ℕ) → ArePlain ws → i < length ws → IsPlainWord (word i ws)
plain_at ws i p h = record {
  some = list_all-get is_word ws i [] h p.words;
  visible = list_all-get (λ w. list_all is_visible w) ws i [] h p.visible;
}

-- actions

-- the actor that was found: its place behind the first one, and its name
record IsNamed (n : ℕ) (actors : List ActorText) (w : List ℕ) (a : ℕ × role.Role) : Type 0 where
  place : ℕ
  who : ActorText
  number : a.0 ≡ n + place
  there : slice_get actors place ≡ Some who
  name : who.name ≡ w
  role : who.role ≡ a.1

named_is : (n : ℕ) (actors : List ActorText) (w : List ℕ) (a : ℕ × role.Role) → actor_from n actors w ≡ Some a
    → IsNamed n actors w a
unfolding actor_from
named_is n [] w a e = absurd (cc e)
named_is n (actor ∷ actors) w a e = elim (chosen (bytes_eq actor.name w) _ _ (Some a) e) [
  | inl h ↦
      let same : (n, actor.role) ≡ a = cc h.1 in
      record {
        place = 0;
        who = actor;
        number = rw (← same) (omega arith);
        there = refl;
        name = (bytes_eq-Decides actor.name w).0 h.0;
        role = rw (← same);
      }
  | inr h ↦
      let g = named_is (suc n) actors w a h.1 in
      record {
        place = suc g.place;
        who = g.who;
        number = omega (arith, g.number);
        there = g.there;
        name = g.name;
        role = g.role;
      }
]

-- each actor has a name
abbrev pub AreNamed : List ActorText → Type 0
AreNamed actors = (i : ℕ) (a : ActorText) → slice_get actors i ≡ Some a → is_name a.name ≡ true

action_said : (actors : List ActorText) (s : ℕ) (ws : List (List ℕ)) (i : item.Item) → AreNamed actors
    → ArePlain ws → action_item actors s ws ≡ Ok i → IsSayable actors s i
action_said actors s ws i names plain e =
    let k = act_is actors s ws i e in
    let found = verb_found k.actor.1 (word 2 ws) (length ws - 3) k.verb k.named in
    let row =
    of_row IsPlainWord s k.actor.1 k.verb ws k.does found.allowed
    (λ j le lt. plain_at ws j plain (omega (arith, found.given))) k.made in
    let who = named_is 0 actors (word 1 ws) k.actor k.first in
    let number : who.place ≡ k.actor.0 = omega (arith, who.number) in
    let there : slice_get actors k.actor.0 ≡ Some who.who = rw number at who.there in
    rw k.is (record {
      text = who.who;
      there = there;
      first = rw (who.name, who.role) k.first;
      name = names k.actor.0 who.who there;
      of_row = rw who.role row;
    })

-- the microseconds of a filter that can be said are in their range
sayable_micros : (actors : List ActorText) (s : ℕ) (i : item.Item) → IsSayable actors s i
    → has_micros i ≡ true
sayable_micros actors s (items.Filter (filters.Bounce code micros)) h =
    and_from _ _ (le-leb _ _ h.1) (le-leb _ _ h.2)
sayable_micros actors s i h = refl

-- what a line with this keyword means
module _ (actors : List ActorText) (s : ℕ) (k : keyword.Keyword) (ws : List (List ℕ)) (i : item.Item)
    (e : item_of actors s k ws ≡ Ok i) where
  -- it is an action, or another item with this keyword
  pub item_is : IsAct actors s ws i ⊎ (keyword_for i ≡ k)
  item_is = elim (read_as actors s k ws i e) [
    | inl h ↦ inl (act_is actors s ws i h.1)
    | inr h ↦ inr (plain_keyword k ws i h.1)
  ]

  -- it can be said
  pub item_said : AreNamed actors → ArePlain ws → IsSayable actors s i
  item_said names plain = elim (read_as actors s k ws i e) [
    | inl h ↦ action_said actors s ws i names plain h.1
    | inr h ↦ plain_said actors s k ws i h.1
  ]

  -- an action has no microseconds, and those of a filter are read within their range
  pub has_micros-read : has_micros i ≡ true
  has_micros-read = elim (read_as actors s k ws i e) [
    | inl h ↦ ap has_micros (act_is actors s ws i h.1).is
    | inr h ↦ sayable_micros actors s i (plain_said actors s k ws i h.1)
  ]
