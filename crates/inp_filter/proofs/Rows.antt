-- What is kept of filters in a row stands for the events that the first one was given.
use Rattle.std.proofs.Common.{◌≡◌, ℕ, ◌+◌, ◌<◌, ◌≤◌, Bool, true, false, List, [], ◌∷◌, ◌++◌, length, get_or}
use Rattle.std.proofs.Common.{set, take, drop, refl, sym, ◌∙◌, subst, arith, append_assoc, add-one}
use Rattle.std.proofs.lemmas.List.{append-nil, drop_all, drop_more, drop-set-lt, set-get_or, set_split}
use Rattle.std.proofs.lemmas.List.{take_all, take_more_set}
use Rattle.inp_model.specs.declared.filter.Filter.{Filter}
use Rattle.inp_filter.specs.declared.filter_state.FilterState.{FilterState}
use Rattle.inp_model.specs.Filter.{Timed, Given, eats, given_more, given_all, left_by, is_eaten}
use Rattle.inp_model.specs.Queue.{is_empty}
use Rattle.inp_filter.specs.FilterState.{FilterStandsFor, FiltersStandFor}

-- a filter was given one more event, and ate it or not
pub record OneTakes (x : Timed) (old new : FilterState) (eaten : Bool) : Type 0 where
  pub eats : (f : Filter) (given : List Given) → FilterStandsFor f given old → eaten ≡ eats f x given
  pub stands : (f : Filter) (given : List Given) → FilterStandsFor f given old
      → FilterStandsFor f (given_more f x given) new

-- filters in a row were given one more event, and one of them ate it or not
pub record RowTakes (x : Timed) (old new : List FilterState) (eaten : Bool) : Type 0 where
  pub eaten_is : (fs : List Filter) (given : List Timed) → FiltersStandFor fs given old
      → eaten ≡ is_eaten fs x given
  pub stands : (fs : List Filter) (given : List Timed) → FiltersStandFor fs given old
      → FiltersStandFor fs (x ∷ given) new

none_eats : (x : Timed) (fs : List Filter) (given : List Timed) → FiltersStandFor fs given []
    → false ≡ is_eaten fs x given
unfolding FiltersStandFor is_eaten
none_eats x [] given h = refl
none_eats x (f ∷ fs) given h = absurd h

none_stands : (x : Timed) (fs : List Filter) (given : List Timed) → FiltersStandFor fs given []
    → FiltersStandFor fs (x ∷ given) []
unfolding FiltersStandFor
none_stands x [] given h = tt
none_stands x (f ∷ fs) given h = absurd h

pub row-none : (x : Timed) → RowTakes x [] [] false
row-none x = record { eaten_is = none_eats x; stands = none_stands x }

module _ (x : Timed) (old new : FilterState) (states : List FilterState) (one : OneTakes x old new true) where
  first_eats : (fs : List Filter) (given : List Timed) → FiltersStandFor fs given (old ∷ states)
      → true ≡ is_eaten fs x given
  unfolding FiltersStandFor is_eaten
  first_eats [] given h = absurd h
  first_eats (f ∷ fs) given h = rw (← one.eats f (given_all f given) h.0)

  first_stands : (fs : List Filter) (given : List Timed) → FiltersStandFor fs given (old ∷ states)
      → FiltersStandFor fs (x ∷ given) (new ∷ states)
  unfolding FiltersStandFor given_all left_by
  first_stands [] given h = absurd h
  first_stands (f ∷ fs) given h =
      (one.stands f (given_all f given) h.0, rw (← one.eats f (given_all f given) h.0) h.1)

  -- the first one eats it, and those behind it are not given it
  pub row-eaten : RowTakes x (old ∷ states) (new ∷ states) true
  row-eaten = record { eaten_is = first_eats; stands = first_stands }

module _ (x : Timed) (old new : FilterState) (states later : List FilterState) (eaten : Bool)
    (one : OneTakes x old new false) (others : RowTakes x states later eaten) where
  next_eats : (fs : List Filter) (given : List Timed) → FiltersStandFor fs given (old ∷ states)
      → eaten ≡ is_eaten fs x given
  unfolding FiltersStandFor is_eaten
  next_eats [] given h = absurd h
  next_eats (f ∷ fs) given h =
      rw (← one.eats f (given_all f given) h.0, ← others.eaten_is fs (left_by f given) h.1)

  next_stands : (fs : List Filter) (given : List Timed) → FiltersStandFor fs given (old ∷ states)
      → FiltersStandFor fs (x ∷ given) (new ∷ later)
  unfolding FiltersStandFor given_all left_by
  next_stands [] given h = absurd h
  next_stands (f ∷ fs) given h = (
    one.stands f (given_all f given) h.0,
    rw (← one.eats f (given_all f given) h.0) (others.stands fs (left_by f given) h.1),
  )

  -- the first one leaves it, and it is given to those behind it
  pub row-left : RowTakes x (old ∷ states) (new ∷ later) eaten
  row-left = record { eaten_is = next_eats; stands = next_stands }

-- what is kept of one more filter behind the others, before any event
pub FiltersStandFor-push : (fs : List Filter) (states : List FilterState) (f : Filter) (state : FilterState)
    → FiltersStandFor fs [] states → FilterStandsFor f [] state
    → FiltersStandFor (fs ++ f ∷ []) [] (states ++ state ∷ [])
unfolding FiltersStandFor given_all left_by
FiltersStandFor-push [] [] f state h one = (one, tt)
FiltersStandFor-push [] (s ∷ states) f state h one = absurd h
FiltersStandFor-push (g ∷ fs) [] f state h one = absurd h
FiltersStandFor-push (g ∷ fs) (s ∷ states) f state h one =
    (h.0, FiltersStandFor-push fs states f state h.1 one)

set-at : (states : List FilterState) (i : ℕ) (new : FilterState) → i < length states
    → set states i new ≡ take i states ++ new ∷ drop (i + 1) states
set-at states i new lt = rw add-one (set_split states i new lt)

-- A loop over the filters has come so far, and none of them ate the event yet: what comes of the others comes
-- of all.
abbrev pub GoesOn : Timed → List FilterState → List FilterState → ℕ → Type 0
GoesOn x before states i =
    (later : List FilterState) (eaten : Bool) → RowTakes x (drop i states) later eaten
    → RowTakes x before (take i states ++ later) eaten

-- the same, also where one of them ate it
abbrev pub ComesSoFar : Timed → List FilterState → List FilterState → ℕ → Bool → Type 0
ComesSoFar x before states i true = RowTakes x before states true
ComesSoFar x before states i false = GoesOn x before states i

-- what the next filter makes of it: the flag before it, the filter, the filter after it, the flag after it
pub record NextTakes (x : Timed) (is_eaten : Bool) (old new : FilterState) (eaten : Bool) : Type 0 where
  pub eaten_is : is_eaten ≡ true → eaten ≡ true
  pub kept : is_eaten ≡ true → new ≡ old
  pub eats : is_eaten ≡ false → (f : Filter) (given : List Given) → FilterStandsFor f given old
      → eaten ≡ eats f x given
  pub stands : is_eaten ≡ false → (f : Filter) (given : List Given) → FilterStandsFor f given old
      → FilterStandsFor f (given_more f x given) new

module _ (x : Timed) (before states : List FilterState) (i : ℕ) (default new : FilterState)
    (lt : i < length states) where
  -- the filter at this place is the first of those from it on
  from_here : drop i states ≡ get_or states i default ∷ drop (i + 1) states
  from_here = drop_more states i default lt

  goes_on-eaten : GoesOn x before states i → OneTakes x (get_or states i default) new true
      → RowTakes x before (set states i new) true
  goes_on-eaten inv one =
      let row = row-eaten x (get_or states i default) new (drop (i + 1) states) one in
      let all = inv _ _ (rw from_here row) in
      rw (set-at states i new lt) all

  goes_on-left : GoesOn x before states i → OneTakes x (get_or states i default) new false
      → GoesOn x before (set states i new) (i + 1)
  goes_on-left inv one later eaten others =
      let rest = rw (drop-set-lt (i + 1) states i new (omega arith)) at others in
      let row = row-left x (get_or states i default) new (drop (i + 1) states) later eaten one rest in
      let all = inv _ _ (rw from_here row) in
      rw (take_more_set states i new lt, append_assoc (take i states) (new ∷ []) later) all

  pub comes_so_far-more : (is_eaten eaten : Bool) → ComesSoFar x before states i is_eaten
      → NextTakes x is_eaten (get_or states i default) new eaten
      → ComesSoFar x before (set states i new) (i + 1) eaten
  comes_so_far-more true true row next =
      let same = rw (← next.kept refl) at (set-get_or states i default) in
      rw same row
  comes_so_far-more true false row next = absurd (cc (next.eaten_is refl))
  comes_so_far-more false true inv next =
      goes_on-eaten inv (record { eats = next.eats refl; stands = next.stands refl })
  comes_so_far-more false false inv next =
      goes_on-left inv (record { eats = next.eats refl; stands = next.stands refl })

-- behind the last filter
pub comes_so_far-all : (x : Timed) (before states : List FilterState) (i : ℕ) (is_eaten : Bool)
    → length states ≤ i → ComesSoFar x before states i is_eaten → RowTakes x before states is_eaten
comes_so_far-all x before states i true le row = row
comes_so_far-all x before states i false le inv =
    let none =
    subst (λ (l : List FilterState). RowTakes x l [] false) (sym (drop_all i states le)) (row-none x) in
    subst (λ (l : List FilterState). RowTakes x before l false) (append-nil (take i states)
    ∙ take_all i states le) (inv [] false none)

-- as many are kept as there are
pub FiltersStandFor-is_empty : (fs : List Filter) (given : List Timed) (states : List FilterState)
    → FiltersStandFor fs given states → is_empty states ≡ is_empty fs
unfolding FiltersStandFor
FiltersStandFor-is_empty [] given [] h = refl
FiltersStandFor-is_empty [] given (s ∷ states) h = absurd h
FiltersStandFor-is_empty (f ∷ fs) given [] h = absurd h
FiltersStandFor-is_empty (f ∷ fs) given (s ∷ states) h = refl
