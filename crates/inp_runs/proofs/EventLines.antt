-- Lines that each inject an event: whose lines they are, and what a record keeps of them.
use Rattle.std.proofs.Common.{◌≡◌, ◌≤◌, ◌<◌, ◌+◌, ◌-◌, ℕ, zero, suc, true, List, [], ◌∷◌, length, map, take}
use Rattle.std.proofs.Common.{drop, Option, Some, refl, sym, ap, ◌∙◌, arith}
use Rattle.std.proofs.lemmas.List.{take-map, take-take, drop-map, length-drop}
use Rattle.inp_actors.specs.Command.{is_source}
use Rattle.inp_runs.proofs.Common.{take_all, nat_tests, slice_get-map, Stamped}
use Rattle.inp_runs.proofs.Common.{ActorText, Line, Role, Source, RecordView, IsRecord, lines_by}
use Rattle.std.specs.List.{range_with_len}
use Rattle.std.specs.Prelude.{slice_get, nat_le}
use Rattle.inp_model.specs.declared.stamped.TheConstants.{MOMENT_MAX}
use Rattle.inp_model.specs.Injection.{AreInTime}
use Rattle.inp_runs.specs.DoingAll.{AreNumbersOf}
use Rattle.inp_runs.specs.EventLines.{inject_line}

is-source : (role : Role) → is_source role ≡ true → role ≡ Source
is-source Source h = refl
is-source _ h = absurd cc

-- Parts of lists

-- an element among the first n has the same place in the whole list
taken : {A : Type 0} (n i : ℕ) (xs : List A) (x : A) → slice_get (take n xs) i ≡ Some x
    → slice_get xs i ≡ Some x
taken zero i xs x h = absurd (cc h)
taken (suc n) i [] x h = absurd (cc h)
taken (suc n) zero (y ∷ xs) x h = h
taken (suc n) (suc i) (y ∷ xs) x h = taken n i xs x h

-- an element behind the first n has a place higher by n in the whole list
dropped : {A : Type 0} (n i : ℕ) (xs : List A) (x : A) → slice_get (drop n xs) i ≡ Some x
    → slice_get xs (n + i) ≡ Some x
dropped {A} zero i xs x h = let same : i ≡ 0 + i = omega arith in rw same at h
dropped (suc n) i [] x h = absurd (cc h)
dropped {A} (suc n) i (y ∷ xs) x h =
    let same : suc (n + i) ≡ suc n + i = omega arith in
    rw (← same) (dropped n i xs x h)

-- all that is behind a place
pub whole : {A : Type 0} (xs : List A) (n : ℕ) → take (length xs - n) (drop n xs) ≡ drop n xs
whole xs n = take_all (length xs - n) (drop n xs) (omega (arith, length-drop n xs))

somes-same : {X : Type 0} (xs ys : List X) → map Some xs ≡ map Some ys → xs ≡ ys
somes-same [] [] h = refl
somes-same [] (y ∷ ys) h = absurd cc
somes-same (x ∷ xs) [] h = absurd cc
somes-same (x ∷ xs) (y ∷ ys) h =
    let first : x ≡ y = cc in
    let rest : map Some xs ≡ map Some ys = cc in
    (λ i. first i ∷ somes-same xs ys rest i)

-- the element at a place, and what is behind it
item : {X : Type 0} (xs : List X) (n : ℕ) → n < length xs
    → (x : X) × (slice_get xs n ≡ Some x) × (drop n xs ≡ x ∷ drop (suc n) xs)
item [] n h = absurd (omega (arith, h))
item (x ∷ xs) zero h = (x, refl, refl)
item (x ∷ xs) (suc n) h = item xs n (omega (arith, h))

-- so many elements from a place on, each by its number
range-items : {X : Type 0} (xs : List X) (first count : ℕ) → first + count ≤ length xs
    → map (slice_get xs) (range_with_len first count) ≡ map Some (take count (drop first xs))
range-items xs first zero h = refl
range-items {X} xs first (suc count) h =
    let one = item xs first (omega (arith, h)) in
    let next : first + 1 ≡ suc first = omega arith in
    let more : map (slice_get xs) (range_with_len (first + 1) count)
    ≡ map Some (take count (drop (suc first) xs)) =
    range-items xs (first + 1) count (omega (arith, h))
    ∙ ap (λ (n : ℕ). map Some (take count (drop n xs))) next in
    (λ i. one.1 i ∷ more i) ∙ ap (λ (ys : List X). map Some (take (suc count) ys)) (sym one.2)

module _ (r : RecordView) where
  -- the moment of each line of a record is within its range
  event-in_time : (number actor : ℕ) (text : ActorText) (s : Stamped) → IsRecord r
      → slice_get r.actors actor ≡ Some text → slice_get r.lines number ≡ Some (inject_line actor s)
      → s.now ≤ MOMENT_MAX
  event-in_time number actor text s keeps is_text there =
      let range : nat_le s.now MOMENT_MAX ≡ true =
      keeps.ranges number (inject_line actor s) text there is_text in
      grind (arith, nat_tests, range)

  -- its actor is a source
  event-source : (number actor : ℕ) (text : ActorText) (s : Stamped) → IsRecord r
      → slice_get r.actors actor ≡ Some text → slice_get r.lines number ≡ Some (inject_line actor s)
      → text.role ≡ Source
  event-source number actor text s keeps is_text there =
      is-source text.role (keeps.commands number (inject_line actor s) text there is_text)

  -- Lines of one actor that follow each other

  -- Lines from this number on inject these events of an actor.
  abbrev pub AreInjects : ℕ → ℕ → ℕ → List Stamped → Type 0
  AreInjects number count actor events = take count (drop number r.lines) ≡ map (inject_line actor) events

  inject-at : (number count actor i : ℕ) (events : List Stamped) (s : Stamped)
      → AreInjects number count actor events → slice_get events i ≡ Some s
      → slice_get r.lines (number + i) ≡ Some (inject_line actor s)
  inject-at number count actor i events s are h =
      dropped number i r.lines (inject_line actor s)
      (taken count i (drop number r.lines) (inject_line actor s)
      (rw (are, slice_get-map (inject_line actor) events i, h)))

  -- each event stands in a line of the record, whose moments are within their limit
  pub injects-in_time : (number count actor : ℕ) (text : ActorText) (events : List Stamped) → IsRecord r
      → slice_get r.actors actor ≡ Some text → AreInjects number count actor events → AreInTime events
  injects-in_time number count actor text events keeps is_text are i s h =
      event-in_time (number + i) actor text s keeps is_text (inject-at number count actor i events s are h)

  -- the actor is a source
  pub injects-source : (number count actor : ℕ) (text : ActorText) (events : List Stamped) → IsRecord r
      → slice_get r.actors actor ≡ Some text → AreInjects number count actor events → 1 ≤ length events
      → text.role ≡ Source
  injects-source number count actor text [] keeps is_text are some = absurd (omega (arith, some))
  injects-source number count actor text (s ∷ events) keeps is_text are some =
      event-source (number + 0) actor text s keeps is_text
      (inject-at number count actor 0 (s ∷ events) s are refl)

  -- of lines that are gathered from a number on, the first so many are such lines
  pub gathered-injects : (number gathered count actor : ℕ) (all : List Line) (events : List Stamped)
      → all ≡ r.lines → count ≤ gathered
      → take gathered (take (length all - number) (drop number all))
      ≡ map (inject_line actor) (take gathered events)
      → AreInjects number count actor (take count events)
  gathered-injects number gathered count actor all events same few are =
      let lines : List Line = drop number all in
      let from_here : take gathered lines ≡ map (inject_line actor) (take gathered events) =
      rw whole at are in
      ap (λ (ls : List Line). take count (drop number ls)) (sym same)
      ∙ sym (take-take count gathered lines few) ∙ ap (take count) from_here
      ∙ take-map (inject_line actor) count (take gathered events)
      ∙ ap (map (inject_line actor)) (take-take count gathered events few)

  pub gathered-within : (number gathered count : ℕ) (all : List Line) → all ≡ r.lines
      → number < length r.lines → count ≤ gathered
      → gathered ≤ length (take (length all - number) (drop number all)) → number + count ≤ length r.lines
  gathered-within number gathered count all same below few long =
      omega (arith, few, long, ap length (whole all number), length-drop number all, ap length same, below)

  -- Lines of an actor's own

  -- where their numbers rise by one each, they are those that follow the first one in the record
  pub own-injects : (actor from first count : ℕ) (numbers : List ℕ) (events : List Stamped)
      → AreNumbersOf r actor numbers → take count (drop from numbers) ≡ range_with_len first count
      → first + count ≤ length r.lines → AreInjects first count actor events
      → take count (drop from (lines_by actor r.lines)) ≡ map (inject_line actor) events
  own-injects actor from first count numbers events own rise within are =
      let lines : List Line = lines_by actor r.lines in
      somes-same (take count (drop from lines)) (map (inject_line actor) events)
      (sym (take-map Some count (drop from lines)) ∙ ap (take count) (sym (drop-map Some from lines))
      ∙ ap (λ (ls : List (Option Line)). take count (drop from ls)) (sym own)
      ∙ ap (take count) (drop-map (slice_get r.lines) from numbers)
      ∙ take-map (slice_get r.lines) count (drop from numbers)
      ∙ ap (map (slice_get r.lines)) rise
      ∙ range-items r.lines first count within ∙ ap (map Some) are)
