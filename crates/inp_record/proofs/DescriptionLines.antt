-- The canonical lines of a description are the words of its items.
use Rattle.std.proofs.Common.{◌≡◌, ℕ, ◌+◌, Bool, true, false, if◌then◌else◌, nat_eq, List, [], ◌∷◌, ◌++◌, map}
use Rattle.std.proofs.Common.{refl, sym}
use Rattle.std.specs.List.{flat_map, range_with_len}
use Rattle.std.proofs.lemmas.List.{map-append}
use Rattle.inp_model.specs.declared.event.TheConstants.{EV_ABS, EV_MAX, KEY_MAX, ABS_MAX}
use Rattle.inp_model.specs.declared.filter.Filter as filter
use Rattle.inp_model.specs.Description.{Description, has_kind, supports}
use Rattle.inp_actors.specs.declared.actor_text.ActorText.{ActorText}
use Rattle.inp_record.specs.canon.Words.{Words}
use Rattle.inp_record.specs.canon.Device.{number_lines, slots_lines, kind_lines, kinds_lines, code_lines}
use Rattle.inp_record.specs.canon.Device.{codes_lines, coded_kinds, caps_lines, axis_lines, axes_lines}
use Rattle.inp_record.specs.canon.Device.{filter_words, filters_lines, plain_lines, description_lines}
use Rattle.inp_record.specs.declared.item.Item.{Item}
use Rattle.inp_record.specs.declared.item.Item.TheVariants as items
use Rattle.inp_record.specs.Spelling.{item_words, number_items, slots_items, kind_items, code_items}
use Rattle.inp_record.specs.Spelling.{codes_items, axis_items, plain_items, filter_items, description_items}

-- the words of one item, where there is one
pub map_if : (f : Item → Words) (b : Bool) (i : Item)
    → (if b then f i ∷ [] else []) ≡ map f (if b then i ∷ [] else [])
map_if f true i = refl
map_if f false i = refl

map_unless : (f : Item → Words) (b : Bool) (i : Item)
    → (if b then [] else f i ∷ []) ≡ map f (if b then [] else i ∷ [])
map_unless f true i = refl
map_unless f false i = refl

-- the words of two lists of items, one behind the other
pub both : (f : Item → Words) (xs ys : List Words) (is js : List Item) → xs ≡ map f is → ys ≡ map f js
    → xs ++ ys ≡ map f (is ++ js)
both f xs ys is js p q = rw (p, q) (sym (map-append f is js))

-- where each thing's lines are the words of its items, so are those of all, one behind the other
pub map_each : {X : Type 0} (f : Item → Words) (lines : X → List Words) (items : X → List Item)
    → ((x : X) → lines x ≡ map f (items x)) → (xs : List X) → flat_map lines xs ≡ map f (flat_map items xs)
map_each f lines items each [] = refl
map_each f lines items each (x ∷ xs) =
    both f (lines x) (flat_map lines xs) (items x) (flat_map items xs) (each x)
    (map_each f lines items each xs)

module _ (actors : List ActorText) (d : Description) where
  numbers_are : number_lines d ≡ map (item_words actors) (number_items d)
  unfolding number_lines
  numbers_are = refl

  codes_are : (kind : ℕ) → codes_lines d kind ≡ map (item_words actors) (codes_items d kind)
  unfolding codes_lines
  codes_are kind =
      map_each (item_words actors) (code_lines d kind) (code_items d kind)
      (λ code. map_if (item_words actors) (supports d kind code) _) (range_with_len 0 (KEY_MAX + 1))

  kinds_are : kinds_lines d ≡ map (item_words actors) (flat_map (kind_items d) (range_with_len 1 EV_MAX))
  unfolding kinds_lines
  kinds_are =
      map_each (item_words actors) (kind_lines d) (kind_items d)
      (λ kind. map_if (item_words actors) (has_kind d kind) _) (range_with_len 1 EV_MAX)

  axes_are : axes_lines d ≡ map (item_words actors) (flat_map (axis_items d) (range_with_len 0 (ABS_MAX + 1)))
  unfolding axes_lines
  axes_are =
      map_each (item_words actors) (axis_lines d) (axis_items d)
      (λ code. map_if (item_words actors) (supports d EV_ABS code) _) (range_with_len 0 (ABS_MAX + 1))

  caps_are : caps_lines d ≡ map (item_words actors) (flat_map (codes_items d) coded_kinds)
  unfolding caps_lines
  caps_are = map_each (item_words actors) (codes_lines d) (codes_items d) codes_are coded_kinds

  plain_are : plain_lines d ≡ map (item_words actors) (plain_items d)
  unfolding plain_lines plain_items
  plain_are =
      let f = item_words actors in
      both f (number_lines d) _ (number_items d) _ numbers_are
      (both f (slots_lines d) _ (slots_items d) _ (map_unless f (nat_eq d.slots 0) _)
      (both f (kinds_lines d) _ (flat_map (kind_items d) (range_with_len 1 EV_MAX)) _ kinds_are
      (both f (caps_lines d) (axes_lines d) (flat_map (codes_items d) coded_kinds)
      (flat_map (axis_items d) (range_with_len 0 (ABS_MAX + 1))) caps_are axes_are)))

  each_filter : (fs : List filter.Filter)
      → map filter_words fs ≡ map (item_words actors) (map (λ f. items.Filter f) fs)
  each_filter [] = refl
  each_filter (f ∷ fs) = rw (each_filter fs)

  filters_are : filters_lines d ≡ map (item_words actors) (filter_items d)
  unfolding filters_lines
  filters_are = each_filter d.filters

  -- The canonical lines of a description say its items.
  pub description-lines : description_lines d ≡ map (item_words actors) (description_items d)
  unfolding description_lines description_items
  description-lines =
      both (item_words actors) (plain_lines d) (filters_lines d) (plain_items d)
      (filter_items d) plain_are filters_are
