-- The laws of filters.
use Rattle.std.proofs.Common.{◌≡◌, ℕ, Bool, true, false, ◌||◌, not, List, [], ◌∷◌, refl, sym, ap, ◌∙◌, inl}
use Rattle.std.proofs.Common.{inr}
use Rattle.std.specs.Prelude.{filter}
use Rattle.std.proofs.lemmas.Bool.{cases_Bool, or_left, or_right}
use Rattle.inp_model.specs.declared.event.Event.{Event}
use Rattle.inp_model.specs.declared.filter.Filter.{Filter}
use Rattle.inp_model.specs.Filter.{Timed, eats, timed, given_all, left_by, is_eaten, is_syn, with_event}
use Rattle.inp_filter.specs.Row.{is_let_through, let_through}

let_through-kept : (fs : List Filter) (moment : ℕ) (given : List Timed) (e : Event) (es : List Event)
    → is_let_through fs moment given e ≡ true
    → let_through fs moment given (e ∷ es) ≡ e ∷ let_through fs moment (with_event moment e given) es
unfolding let_through
let_through-kept fs moment given e es h =
    let rest = let_through fs moment (with_event moment e given) es in rw h

let_through-gone : (fs : List Filter) (moment : ℕ) (given : List Timed) (e : Event) (es : List Event)
    → is_let_through fs moment given e ≡ false
    → let_through fs moment given (e ∷ es) ≡ let_through fs moment (with_event moment e given) es
unfolding let_through
let_through-gone fs moment given e es h =
    let rest = let_through fs moment (with_event moment e given) es in rw h

let_through-none : (fs : List Filter) (moment : ℕ) (given : List Timed) → let_through fs moment given [] ≡ []
unfolding let_through
let_through-none fs moment given = refl

-- no events of EV_SYN are lost

kept_syn : (e : Event) (rest es : List Event) → filter is_syn rest ≡ filter is_syn es
    → filter is_syn (e ∷ rest) ≡ filter is_syn (e ∷ es)
kept_syn e rest es h = rw h

gone_syn : (e : Event) (rest es : List Event) → is_syn e ≡ false → filter is_syn rest ≡ filter is_syn es
    → filter is_syn rest ≡ filter is_syn (e ∷ es)
gone_syn e rest es other h = h ∙ sym (rw other)

no_syn : (s l : Bool) → (s || l) ≡ false → s ≡ false
no_syn true l h = h
no_syn false l h = refl

pub filter-let_through : (fs : List Filter) (moment : ℕ) (given : List Timed) (es : List Event)
    → filter is_syn (let_through fs moment given es) ≡ filter is_syn es
filter-let_through fs moment given [] = rw (let_through-none fs moment given)
filter-let_through fs moment given (e ∷ es) =
    elim (cases_Bool (is_let_through fs moment given e)) [
      | inl kept ↦ rw (let_through-kept fs moment given e es kept)
          (kept_syn e (let_through fs moment (with_event moment e given) es) es
          (filter-let_through fs moment (with_event moment e given) es))
      | inr gone ↦ rw (let_through-gone fs moment given e es gone)
          (gone_syn e (let_through fs moment (with_event moment e given) es) es (no_syn (is_syn e) _ gone)
          (filter-let_through fs moment (with_event moment e given) es))
    ]

-- no filter, nothing eaten

left_all : (moment : ℕ) (given : List Timed) (e : Event) → is_let_through [] moment given e ≡ true
unfolding is_eaten
left_all moment given e = or_right (is_syn e) true refl

pub let_through-no_filter : (moment : ℕ) (given : List Timed) (es : List Event)
    → let_through [] moment given es ≡ es
let_through-no_filter moment given [] = let_through-none [] moment given
let_through-no_filter moment given (e ∷ es) =
    rw (
      let_through-kept [] moment given e es (left_all moment given e),
      let_through-no_filter moment (with_event moment e given) es,
    )

-- one filter after another

left_by-eaten : (f : Filter) (x : Timed) (given : List Timed) → eats f x (given_all f given) ≡ true
    → left_by f (x ∷ given) ≡ left_by f given
unfolding left_by
left_by-eaten f x given h = rw h

left_by-left : (f : Filter) (x : Timed) (given : List Timed) → eats f x (given_all f given) ≡ false
    → left_by f (x ∷ given) ≡ x ∷ left_by f given
unfolding left_by
left_by-left f x given h = rw h

with_event-syn : (moment : ℕ) (e : Event) (given : List Timed) → is_syn e ≡ true
    → with_event moment e given ≡ given
with_event-syn moment e given h = rw h

with_event-other : (moment : ℕ) (e : Event) (given : List Timed) → is_syn e ≡ false
    → with_event moment e given ≡ timed moment e ∷ given
with_event-other moment e given h = rw h

is_let_through-other : (fs : List Filter) (moment : ℕ) (given : List Timed) (e : Event) (eaten : Bool)
    → is_syn e ≡ false → is_eaten fs (timed moment e) given ≡ eaten
    → is_let_through fs moment given e ≡ not eaten
is_let_through-other fs moment given e eaten other h = rw (other, h)

is_eaten-first : (f : Filter) (fs : List Filter) (x : Timed) (given : List Timed)
    → eats f x (given_all f given) ≡ true → is_eaten (f ∷ fs) x given ≡ true
unfolding is_eaten
is_eaten-first f fs x given h = rw h

is_eaten-later : (f : Filter) (fs : List Filter) (x : Timed) (given : List Timed)
    → eats f x (given_all f given) ≡ false → is_eaten (f ∷ fs) x given ≡ is_eaten fs x (left_by f given)
unfolding is_eaten
is_eaten-later f fs x given h = rw h

is_eaten-none : (x : Timed) (given : List Timed) → is_eaten [] x given ≡ false
unfolding is_eaten
is_eaten-none x given = refl

module _ (f : Filter) (fs : List Filter) (moment : ℕ) (given : List Timed) (e : Event) (es : List Event)
    (rest : (given : List Timed)
    → let_through (f ∷ fs) moment given es
    ≡ let_through fs moment (left_by f given) (let_through (f ∷ []) moment given es)) where
  -- the law at this frame
  abbrev IsOneAfterAnother : Type 0
  IsOneAfterAnother =
      let_through (f ∷ fs) moment given (e ∷ es)
      ≡ let_through fs moment (left_by f given) (let_through (f ∷ []) moment given (e ∷ es))

  syn_comes : is_syn e ≡ true → IsOneAfterAnother
  syn_comes s =
      let first =
      let_through-kept (f ∷ []) moment given e es (or_left (is_syn e) _ s)
      ∙ ap (λ (g : List Timed). e ∷ let_through (f ∷ []) moment g es) (with_event-syn moment e given s) in
      let behind = let_through (f ∷ []) moment given es in
      rw (
        let_through-kept (f ∷ fs) moment given e es (or_left (is_syn e) _ s),
        with_event-syn moment e given s,
        rest given,
      )
      (sym (rw (
        first,
        let_through-kept fs moment (left_by f given) e behind (or_left (is_syn e) _ s),
        with_event-syn moment e (left_by f given) s,
      )))

  first_eats : is_syn e ≡ false → eats f (timed moment e) (given_all f given) ≡ true → IsOneAfterAnother
  first_eats s a =
      let first =
      let_through-gone (f ∷ []) moment given e es
      (is_let_through-other (f ∷ []) moment given e true s (is_eaten-first f [] (timed moment e) given a))
      ∙ ap (λ (g : List Timed). let_through (f ∷ []) moment g es) (with_event-other moment e given s) in
      let behind = let_through (f ∷ []) moment (timed moment e ∷ given) es in
      rw (
        let_through-gone (f ∷ fs) moment given e es
            (is_let_through-other (f ∷ fs) moment given e true s
            (is_eaten-first f fs (timed moment e) given a)),
        with_event-other moment e given s,
        rest (timed moment e ∷ given),
        left_by-eaten f (timed moment e) given a,
      ) (sym (rw first))

  first_leaves : is_syn e ≡ false → eats f (timed moment e) (given_all f given) ≡ false
      → let_through (f ∷ []) moment given (e ∷ es) ≡ e
      ∷ let_through (f ∷ []) moment (timed moment e ∷ given) es
  first_leaves s a =
      rw (
        let_through-kept (f ∷ []) moment given e es
            (is_let_through-other (f ∷ []) moment given e false s
            (is_eaten-later f [] (timed moment e) given a
            ∙ is_eaten-none (timed moment e) (left_by f given))),
        with_event-other moment e given s,
      )

  -- the rest, behind what the other filters were given of the event
  others_rest : is_syn e ≡ false → eats f (timed moment e) (given_all f given) ≡ false
      → let_through (f ∷ fs) moment (with_event moment e given) es
      ≡ let_through fs moment (with_event moment e (left_by f given))
      (let_through (f ∷ []) moment (timed moment e ∷ given) es)
  others_rest s a =
      let behind = let_through (f ∷ []) moment (timed moment e ∷ given) es in
      cc (
        with_event-other moment e given s,
        rest (timed moment e ∷ given),
        left_by-left f (timed moment e) given a,
        with_event-other moment e (left_by f given) s,
      )

  other_eats : is_syn e ≡ false → eats f (timed moment e) (given_all f given) ≡ false
      → is_eaten fs (timed moment e) (left_by f given) ≡ true → IsOneAfterAnother
  other_eats s a b =
      let behind = let_through (f ∷ []) moment (timed moment e ∷ given) es in
      let_through-gone (f ∷ fs) moment given e es
      (is_let_through-other (f ∷ fs) moment given e true s (is_eaten-later f fs (timed moment e) given a ∙ b))
      ∙ others_rest s a
      ∙ sym
      (rw (first_leaves s a)
      (let_through-gone fs moment (left_by f given) e behind
      (is_let_through-other fs moment (left_by f given) e true s b)))

  none_eats : is_syn e ≡ false → eats f (timed moment e) (given_all f given) ≡ false
      → is_eaten fs (timed moment e) (left_by f given) ≡ false → IsOneAfterAnother
  none_eats s a b =
      let behind = let_through (f ∷ []) moment (timed moment e ∷ given) es in
      rw (
        let_through-kept (f ∷ fs) moment given e es
            (is_let_through-other (f ∷ fs) moment given e false s
            (is_eaten-later f fs (timed moment e) given a
            ∙ b)),
        others_rest s a,
      )
      (sym
      (rw (first_leaves s a)
      (let_through-kept fs moment (left_by f given) e behind
      (is_let_through-other fs moment (left_by f given) e false s b))))

  not_syn : is_syn e ≡ false → IsOneAfterAnother
  not_syn s =
      elim (cases_Bool (eats f (timed moment e) (given_all f given))) [
        | inl a ↦ first_eats s a
        | inr a ↦ elim (cases_Bool (is_eaten fs (timed moment e) (left_by f given)))
            [ inl b ↦ other_eats s a b | inr b ↦ none_eats s a b ]
      ]

  each_event : let_through (f ∷ fs) moment given (e ∷ es)
      ≡ let_through fs moment (left_by f given) (let_through (f ∷ []) moment given (e ∷ es))
  each_event = elim (cases_Bool (is_syn e)) [ inl s ↦ syn_comes s | inr s ↦ not_syn s ]

pub let_through-row : (f : Filter) (fs : List Filter) (moment : ℕ) (given : List Timed) (es : List Event)
    → let_through (f ∷ fs) moment given es
    ≡ let_through fs moment (left_by f given) (let_through (f ∷ []) moment given es)
let_through-row f fs moment given [] =
    let_through-none (f ∷ fs) moment given
    ∙ sym (rw (let_through-none (f ∷ []) moment given) (let_through-none fs moment (left_by f given)))
let_through-row f fs moment given (e ∷ es) =
    each_event f fs moment given e es (λ (g : List Timed). let_through-row f fs moment g es)
