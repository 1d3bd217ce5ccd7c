-- Places of entries, and of the steps among them, in a longer list.
use Rattle.std.proofs.Common.{◌≡◌, ℕ, zero, suc, ◌+◌, ◌-◌, ◌<◌, Bool, true, not, cond, List, [], ◌∷◌, ◌++◌}
use Rattle.std.proofs.Common.{length, refl, sym, ap, ◌∙◌, arith, Option, Some, append_assoc, append-nil}
use Rattle.std.proofs.Common.{length-append}
use Rattle.std.specs.Prelude.{All, map, filter, slice_get, not}
use Rattle.std.specs.List.{range_with_len}
use Rattle.std.proofs.lemmas.List.{take-append-le, map-append, append-nil, length-map}
use Rattle.std.proofs.lemmas.List.Elements.{All-head, All-tail, All-filter, filter-append, filter_map-append}
use Rattle.std.proofs.lemmas.List.Elements.{All-nil, All-cons}
use Rattle.std.proofs.Math.Seq.{take-append_seam}
use mathlib.Core.List.{IsPrefix}
use Rattle.inp_model.specs.declared.step.Step.{Step}
use Rattle.inp_turn.specs.PassView.{added_places}
use Rattle.inp_port.specs.Entries.{steps_among, is_step_at, steps_before, step_places, other_places, GrownBy}

module _ {X : Type 0} where
  slice_get-front : (xs ys : List X) (n : ℕ) → n < length xs → slice_get (xs ++ ys) n ≡ slice_get xs n
  slice_get-front [] ys n l = absurd (omega arith)
  slice_get-front (x ∷ xs) ys zero l = refl
  slice_get-front (x ∷ xs) ys (suc n) l = slice_get-front xs ys n (omega arith)

  -- the item just behind a list stands at the list's length
  pub slice_get-seam : (xs ys : List X) (x : X) → slice_get (xs ++ x ∷ ys) (length xs) ≡ Some x
  slice_get-seam [] ys x = refl
  slice_get-seam (y ∷ xs) ys x = slice_get-seam xs ys x

  -- tests and functions that agree where something holds do the same with a list of which it holds
  filter-same : (p q : X → Bool) (P : X → Type 0) → ((x : X) → P x → p x ≡ q x) → (xs : List X) → All P xs
      → filter p xs ≡ filter q xs
  filter-same p q P same [] all = refl
  filter-same p q P same (x ∷ xs) all =
      let e =
      same x (All-head P x xs all) in let r =
      filter-same p q P same xs (All-tail P x xs all) in λ i. cond (e i) (x ∷ r i) (r i)

  map-same : {Y : Type 0} (f g : X → Y) (P : X → Type 0) → ((x : X) → P x → f x ≡ g x) → (xs : List X)
      → All P xs → map f xs ≡ map g xs
  map-same f g P same [] all = refl
  map-same f g P same (x ∷ xs) all = let e = same x (All-head P x xs all) in let r =
      map-same f g P same xs (All-tail P x xs all) in λ i. e i ∷ r i

  -- a place of a list, and none more than the list has
  pub added-one : (xs : List X) (x : X) → added_places xs (xs ++ x ∷ []) ≡ length xs ∷ []
  added-one xs x = let one : length (xs ++ x ∷ []) - length xs ≡ 1 = omega
      (arith, length-append xs (x ∷ [])) in ap (range_with_len (length xs)) one

  -- a list that stays as it is adds no place
  pub added-none : (xs : List X) → added_places xs xs ≡ []
  added-none xs = let none : length xs - length xs ≡ 0 = omega arith in ap (range_with_len (length xs)) none

module _ {E : Type 0} (made : E → Option Step) where
  -- what was entered later changes nothing before it
  is_step_at-front : (xs ys : List E) (place : ℕ) → place < length xs
      → is_step_at made (xs ++ ys) place ≡ is_step_at made xs place
  is_step_at-front xs ys place l = rw (slice_get-front xs ys place l)

  steps_before-front : (xs ys : List E) (place : ℕ) → place < length xs
      → steps_before made (xs ++ ys) place ≡ steps_before made xs place
  steps_before-front xs ys place l = rw (take-append-le place xs ys (omega arith))

  step_places-front : (xs ys : List E) (own : List ℕ) → All (λ place. place < length xs) own
      → step_places made (xs ++ ys) own ≡ step_places made xs own
  step_places-front xs ys own all =
      ap (map (steps_before made (xs ++ ys)))
      (filter-same (is_step_at made (xs ++ ys)) (is_step_at made xs) (λ place. place < length xs)
      (is_step_at-front xs ys) own all)
      ∙ map-same (steps_before made (xs ++ ys)) (steps_before made xs) (λ place. place < length xs)
      (steps_before-front xs ys) (filter (is_step_at made xs) own)
      (All-filter (is_step_at made xs) (λ place. place < length xs) own all)

  other_places-front : (xs ys : List E) (own : List ℕ) → All (λ place. place < length xs) own
      → other_places made (xs ++ ys) own ≡ other_places made xs own
  other_places-front xs ys own all =
      filter-same (λ place. not (is_step_at made (xs ++ ys) place)) (λ place. not (is_step_at made xs place))
      (λ place. place < length xs) (λ place l. ap not (is_step_at-front xs ys place l)) own all

  -- the same, where a list begins with another one
  pub step_places-begins : (xs ys : List E) (own : List ℕ) → IsPrefix xs ys
      → All (λ place. place < length xs) own → step_places made ys own ≡ step_places made xs own
  step_places-begins xs ys own pre all = rw (← pre.1) (step_places-front xs pre.0 own all)

  -- what is entered later makes no step of a place that was none
  pub other_places-begins : (xs ys : List E) (own : List ℕ) → IsPrefix xs ys
      → All (λ place. place < length xs) own → other_places made ys own ≡ other_places made xs own
  other_places-begins xs ys own pre all = rw (← pre.1) (other_places-front xs pre.0 own all)

  -- where entries begin with others, the steps among them begin with the others' steps
  pub steps-begins : (xs ys : List E) → IsPrefix xs ys → IsPrefix (steps_among made xs) (steps_among made ys)
  steps-begins xs ys pre =
      (steps_among made pre.0, sym (filter_map-append made xs pre.0) ∙ ap (steps_among made) pre.1)

  -- one step more
  pub steps-push : (es : List E) (e : E) (x : Step) → made e ≡ Some x
      → steps_among made (es ++ e ∷ []) ≡ steps_among made es ++ x ∷ []
  steps-push es e x is = rw (filter_map-append made es (e ∷ []), is)

  is_step_at-end : (es : List E) (e : E) (x : Step) → made e ≡ Some x
      → is_step_at made (es ++ e ∷ []) (length es) ≡ true
  is_step_at-end es e x is = rw (slice_get-seam es [] e, is)

  pub step_places-end : (es : List E) (e : E) (x : Step) → made e ≡ Some x
      → step_places made (es ++ e ∷ []) (length es ∷ []) ≡ length (steps_among made es) ∷ []
  step_places-end es e x is = rw (is_step_at-end es e x is, take-append_seam es (e ∷ []))

  pub other_places-end : (es : List E) (e : E) (x : Step) → made e ≡ Some x
      → other_places made (es ++ e ∷ []) (length es ∷ []) ≡ []
  other_places-end es e x is = rw (is_step_at-end es e x is)

  -- each place is looked at by itself
  pub step_places-append : (es : List E) (own more : List ℕ)
      → step_places made es (own ++ more) ≡ step_places made es own ++ step_places made es more
  step_places-append es own more =
      ap (map (steps_before made es)) (filter-append (is_step_at made es) own more)
      ∙ map-append (steps_before made es) (filter (is_step_at made es) own) (filter (is_step_at made es) more)

  -- the entry behind the others is a step, whose place is the number of steps before it
  pub step_places-push : (es : List E) (e : E) (x : Step) (own : List ℕ) → made e ≡ Some x
      → step_places made (es ++ e ∷ []) (own ++ length es ∷ []) ≡ step_places made (es ++ e ∷ []) own
      ++ length (steps_among made es) ∷ []
  step_places-push es e x own is =
      rw (step_places-append (es ++ e ∷ []) own (length es ∷ []), step_places-end es e x is)

  -- the entry behind the others is a step, so its place is none of the other ones
  pub other_places-push : (es : List E) (e : E) (x : Step) (own : List ℕ) → made e ≡ Some x
      → other_places made (es ++ e ∷ []) (own ++ length es ∷ []) ≡ other_places made (es ++ e ∷ []) own
  other_places-push es e x own is =
      rw (
        filter-append (λ place. not (is_step_at made (es ++ e ∷ []) place)) own (length es ∷ []),
        other_places-end es e x is,
      ) (append-nil (other_places made (es ++ e ∷ []) own))

-- Entries that are steps, added behind others, and their places

module _ {E : Type 0} (made : E → Option Step) where
  -- entries each of which is one of these steps, in order
  abbrev pub AreSteps : List E → List Step → Type 0
  AreSteps more steps = map made more ≡ map Some steps

  first_step : (e : E) (more : List E) (x : Step) (steps : List Step) → AreSteps (e ∷ more) (x ∷ steps)
      → made e ≡ Some x
  first_step e more x steps h = let s : made e ∷ map made more ≡ Some x ∷ map Some steps = h in cc s

  later_steps : (e : E) (more : List E) (x : Step) (steps : List Step) → AreSteps (e ∷ more) (x ∷ steps)
      → AreSteps more steps
  later_steps e more x steps h = let s : made e ∷ map made more ≡ Some x ∷ map Some steps = h in cc s

  -- each entry is one of the steps, in order
  pub as_many : (more : List E) (steps : List Step) → AreSteps more steps → length more ≡ length steps
  as_many more steps h = sym (length-map more made) ∙ ap length h ∙ length-map steps (λ (x : Step). Some x)

  those-steps : (more : List E) (steps : List Step) → AreSteps more steps → steps_among made more ≡ steps
  those-steps [] [] h = refl
  those-steps [] (x ∷ steps) h = absurd (cc h)
  those-steps (e ∷ more) [] h = absurd (cc h)
  those-steps (e ∷ more) (x ∷ steps) h =
      rw (first_step e more x steps h, those-steps more steps (later_steps e more x steps h))

  -- each entry that is added is a step, so these come behind the steps before
  pub steps-added : (es more : List E) (steps : List Step) → AreSteps more steps
      → steps_among made (es ++ more) ≡ steps_among made es ++ steps
  steps-added es more steps h = rw (filter_map-append made es more, those-steps more steps h)

  -- the entries that are added come behind all others
  pub grown_by-begins : (es : List E) (steps : List Step) (now : List E) → GrownBy made es steps now
      → IsPrefix es now
  grown_by-begins es steps now g = (g.0, sym g.1)

  -- the places of the first entry that is added

  here : (es : List E) (e : E) → All (λ place. place < length (es ++ e ∷ [])) (length es ∷ [])
  here es e =
      All-cons (λ place. place < length (es ++ e ∷ [])) (length es) []
      (omega (arith, length-append es (e ∷ []))) (All-nil (λ place. place < length (es ++ e ∷ [])))

  step_places-first : (es : List E) (e : E) (more : List E) (x : Step) → made e ≡ Some x
      → step_places made (es ++ e ∷ more) (length es ∷ []) ≡ length (steps_among made es) ∷ []
  step_places-first es e more x is =
      step_places-begins made (es ++ e ∷ []) (es ++ e ∷ more) (length es ∷ [])
      (more, append_assoc es (e ∷ []) more) (here es e) ∙ step_places-end made es e x is

  other_places-first : (es : List E) (e : E) (more : List E) (x : Step) → made e ≡ Some x
      → other_places made (es ++ e ∷ more) (length es ∷ []) ≡ []
  other_places-first es e more x is =
      other_places-begins made (es ++ e ∷ []) (es ++ e ∷ more) (length es ∷ [])
      (more, append_assoc es (e ∷ []) more) (here es e) ∙ other_places-end made es e x is

  -- the places of all of them

  -- each entry that is added is a step, so their places among the steps follow on
  pub step_places-added : (es more : List E) (steps : List Step) → AreSteps more steps
      → step_places made (es ++ more) (range_with_len (length es) (length more))
      ≡ range_with_len (length (steps_among made es)) (length more)
  step_places-added es [] steps h = refl
  step_places-added es (e ∷ more) [] h = absurd (cc h)
  step_places-added es (e ∷ more) (x ∷ steps) h =
      let is : made e ≡ Some x = first_step e more x steps h in
      let rest : List ℕ = range_with_len (length es + 1) (length more) in
      let n : ℕ = length (steps_among made es) in
      let count : length (steps_among made (es ++ e ∷ [])) ≡ n + 1 =
      ap length (steps-push made es e x is) ∙ length-append (steps_among made es) (x ∷ []) in
      let later : step_places made (es ++ e ∷ more) rest ≡ range_with_len (n + 1) (length more) =
      (λ i. step_places made (sym (append_assoc es (e ∷ []) more) i)
      (range_with_len (sym (length-append es (e ∷ [])) i) (length more)))
      ∙ step_places-added (es ++ e ∷ []) more steps (later_steps e more x steps h)
      ∙ ap (λ (k : ℕ). range_with_len k (length more)) count in
      step_places-append made (es ++ e ∷ more) (length es ∷ []) rest
      ∙ (λ i. step_places-first es e more x is i ++ later i)

  -- each entry that is added is a step, so none of their places is another one
  pub other_places-added : (es more : List E) (steps : List Step) → AreSteps more steps
      → other_places made (es ++ more) (range_with_len (length es) (length more)) ≡ []
  other_places-added es [] steps h = refl
  other_places-added es (e ∷ more) [] h = absurd (cc h)
  other_places-added es (e ∷ more) (x ∷ steps) h =
      let is : made e ≡ Some x = first_step e more x steps h in
      let rest : List ℕ = range_with_len (length es + 1) (length more) in
      let later : other_places made (es ++ e ∷ more) rest ≡ [] =
      (λ i. other_places made (sym (append_assoc es (e ∷ []) more) i)
      (range_with_len (sym (length-append es (e ∷ [])) i) (length more)))
      ∙ other_places-added (es ++ e ∷ []) more steps (later_steps e more x steps h) in
      filter-append (λ place. not (is_step_at made (es ++ e ∷ more) place)) (length es ∷ []) rest
      ∙ (λ i. other_places-first es e more x is i ++ later i)
