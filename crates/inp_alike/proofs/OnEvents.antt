-- What is done with a queue is done with its events: what else an item has decides nothing.
use Rattle.std.proofs.Common.{◌≡◌, ℕ, suc, Bool, true, false, List, [], ◌∷◌, ◌++◌, length, refl, ap, ◌∙◌}
use Rattle.std.proofs.Common.{if◌then◌else◌, ◌&&◌, ◌||◌, not, nat_lt}
use Rattle.std.specs.Prelude.{map, Option, Some, None}
use Rattle.std.proofs.lemmas.List.{map-append}
use Rattle.inp_model.specs.declared.event.Event.{Event}
use Rattle.inp_model.specs.Event.{is_report, syn_dropped}
use Rattle.inp_model.specs.Step.{Query, is_part_of}
use Rattle.inp_model.specs.Queue.{ends_in_report, is_empty, put, put_all, visible, without, apart, flush_for}
use Rattle.inp_model.specs.Queue.{clock_changed}

-- an event by itself, and what a loss makes of it
abbrev pub itself : Event → Event
itself e = e

abbrev pub lost : Event → Event
lost e = syn_dropped

map-length : {X : Type 0} (event : X → Event) (q : List X) → length (map event q) ≡ length q
map-length event [] = refl
map-length event (x ∷ q) = ap suc (map-length event q)

ends : {X : Type 0} (event : X → Event) (q : List X)
    → ends_in_report event q ≡ ends_in_report itself (map event q)
ends event [] = refl
ends event (x ∷ []) = refl
ends event (x ∷ y ∷ q) = ends event (y ∷ q)

empty : {X : Type 0} (event : X → Event) (q : List X) → is_empty q ≡ is_empty (map event q)
empty event [] = refl
empty event (x ∷ q) = refl

seen : {X : Type 0} (event : X → Event) (q : List X) → visible event q ≡ visible itself (map event q)
seen event [] = refl
seen event (x ∷ q) = cc (seen event q)

if_map : {X : Type 0} (event : X → Event) (b : Bool) (p q : List X)
    → map event (if b then p else q) ≡ (if b then map event p else map event q)
if_map event true p q = refl
if_map event false p q = refl

put_one : {X : Type 0} (event : X → Event) (dropped : X → X) → ((x : X)
    → event (dropped x) ≡ syn_dropped) → (places : ℕ) (q : List X) (x : X)
    → map event (put event dropped places q x) ≡ put itself lost places (map event q) (event x)
put_one event dropped h places q x =
    rw (
      if_map event (is_report (event x) && (is_empty q || ends_in_report event q)) q
          (if nat_lt (suc (length q)) places then q ++ x ∷ [] else dropped x ∷ x ∷ []),
      if_map event (nat_lt (suc (length q)) places) (q ++ x ∷ []) (dropped x ∷ x ∷ []),
      map-append event q (x ∷ []),
    ) (cc (h x, map-length event q, ends event q, empty event q))

pub put_on_events : {X : Type 0} (event : X → Event) (dropped : X → X) → ((x : X)
    → event (dropped x) ≡ syn_dropped) → (places : ℕ) (q xs : List X)
    → map event (put_all event dropped places q xs) ≡ put_all itself lost places (map event q) (map event xs)
put_on_events event dropped h places q [] = refl
put_on_events event dropped h places q (x ∷ xs) =
    rw (
      put_on_events event dropped h places (put event dropped places q x) xs,
      put_one event dropped h places q x,
    )

without_on_events : {X : Type 0} (event : X → Event) (drops : Event → Bool) (q : List X)
    → map event (without event drops q) ≡ without itself drops (map event q)
without_on_events event drops [] = refl
without_on_events event drops (x ∷ q) =
    if_map event (is_report (event x) || not (drops (event x))) (x ∷ without event drops q)
    (without event drops q)
    ∙ cc (without_on_events event drops q)

apart_on_events : {X : Type 0} (event : X → Event) (after : Bool) (q : List X)
    → map event (apart event after q) ≡ apart itself after (map event q)
apart_on_events event after [] = refl
apart_on_events event after (x ∷ q) =
    map-append event (if is_report (event x) && after then [] else x ∷ [])
    (apart event (is_report (event x)) q)
    ∙ cc (
      if_map event (is_report (event x) && after) [] (x ∷ []),
      apart_on_events event
          (is_report (event x)) q,
    )

pub flush_on_events : {X : Type 0} (event : X → Event) (query : Option Query) (q : List X)
    → map event (flush_for event query q) ≡ flush_for itself query (map event q)
flush_on_events event None q = refl
flush_on_events event (Some query) q =
    apart_on_events event false (without event (is_part_of query) q)
    ∙ ap (apart itself false) (without_on_events event (is_part_of query) q)

pub clock_on_events : {X : Type 0} (event : X → Event) (same : Bool) (dropped : X) (q : List X)
    → map event (clock_changed same dropped q) ≡ clock_changed same (event dropped) (map event q)
clock_on_events event same dropped [] = refl
clock_on_events event same dropped (x ∷ q) = if_map event same (x ∷ q) (dropped ∷ [])

pub visible_on_events : {X : Type 0} (event : X → Event) (q : List X)
    → visible event q ≡ visible itself (map event q)
visible_on_events event q = seen event q
