-- A chord and a bounce eat a hold whole, or leave it whole.
use Rattle.std.proofs.Common.{◌≡◌, ℕ, Bool, true, false, ◌&&◌, List, [], ◌∷◌, Option, Some, None, refl, sym}
use Rattle.std.proofs.Common.{◌∙◌}
use Rattle.std.specs.Prelude.{if◌then◌else◌}
use Rattle.inp_model.specs.declared.filter.Filter.{Filter}
use Rattle.inp_model.specs.declared.filter.Filter.TheVariants.{Chord, Bounce}
use Rattle.inp_model.specs.Filter.{Timed, Given, Press, is_on_key, is_press, is_release, last_press}
use Rattle.inp_model.specs.Filter.{is_there_and, is_in_hold, is_chorded, is_bounced, eats, given_all}
use Rattle.inp_filter.specs.Laws.{has_eaten_press}

at_press : (test : Press → Bool) (on press : Bool) (here : Press) (earlier : Option Press) → on ≡ true
    → press ≡ true → (on && is_there_and test (if press then Some here else earlier)) ≡ test here
at_press test true true here earlier o p = refl
at_press test true false here earlier o p = absurd (cc p)
at_press test false press here earlier o p = absurd (cc o)

behind_press : (test : Press → Bool) (on press : Bool) (here : Press) (earlier : Option Press) → on ≡ true
    → press ≡ false → (on && is_there_and test (if press then Some here else earlier))
    ≡ is_there_and test earlier
behind_press test true false here earlier o p = refl
behind_press test true true here earlier o p = absurd (cc p)
behind_press test false press here earlier o p = absurd (cc o)

same_press : (test : Press → Bool) (on press release : Bool) (here : Press) (earlier : Option Press)
    (eaten before : Bool) → (on ≡ true → press ≡ true → test here ≡ eaten)
    → is_there_and test earlier ≡ before
    → is_there_and test (if on && press then Some here else if on && release then None else earlier)
    ≡ (if on && press then eaten else if on && release then false else before)
same_press test true true release here earlier eaten before at_it behind = at_it refl refl
same_press test true false true here earlier eaten before at_it behind = refl
same_press test true false false here earlier eaten before at_it behind = behind
same_press test false press release here earlier eaten before at_it behind = behind

module _ (code : ℕ) (test : Press → Bool) (f : Filter) (same : (x : Timed) (before : List Given)
    → eats f x before ≡ is_in_hold code test x before) where
  press_eaten : (given : List Timed)
      → is_there_and test (last_press code (given_all f given)) ≡ has_eaten_press code (given_all f given)
  unfolding last_press given_all has_eaten_press
  press_eaten [] = refl
  press_eaten (y ∷ given) =
      let before = given_all f given in
      let here : Press = record { moment = y.moment; before = before } in
      same_press test (is_on_key code y.event) (is_press y.event) (is_release y.event) here
      (last_press code before) (eats f y before) (has_eaten_press code before)
      (λ o p. sym (same y before
      ∙ at_press test (is_on_key code y.event) (is_press y.event) here (last_press code before) o p))
      (press_eaten given)

  follows_press : (x : Timed) (given : List Timed) → is_on_key code x.event ≡ true → is_press x.event ≡ false
      → eats f x (given_all f given) ≡ has_eaten_press code (given_all f given)
  follows_press x given o p =
      let before = given_all f given in
      let here : Press = record { moment = x.moment; before = before } in
      same x before
      ∙ behind_press test (is_on_key code x.event) (is_press x.event) here (last_press code before) o p
      ∙ press_eaten given

pub eats-chord : (first second : ℕ) (x : Timed) (given : List Timed) → is_on_key second x.event ≡ true
    → is_press x.event ≡ false
    → eats (Chord first second) x (given_all (Chord first second) given)
    ≡ has_eaten_press second (given_all (Chord first second) given)
eats-chord first second = follows_press second (is_chorded first) (Chord first second) (λ x before. refl)

pub eats-bounce : (code micros : ℕ) (x : Timed) (given : List Timed) → is_on_key code x.event ≡ true
    → is_press x.event ≡ false
    → eats (Bounce code micros) x (given_all (Bounce code micros) given)
    ≡ has_eaten_press code (given_all (Bounce code micros) given)
eats-bounce code micros = follows_press code (is_bounced code micros) (Bounce code micros) (λ x before. refl)
