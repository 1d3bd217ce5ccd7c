-- What is kept of a filter stands for the events that it was given.
use Rattle.std.proofs.Common.{◌≡◌, ℕ, Bool, true, false, ◌&&◌, not, List, ◌∷◌, Option, Some, None, refl}
use Rattle.std.specs.Prelude.{if◌then◌else◌}
use Rattle.inp_model.specs.Event.{is_set, is_repeat}
use Rattle.inp_model.specs.declared.filter.Filter.{Filter}
use Rattle.inp_model.specs.declared.filter.Filter.TheVariants.{Eat, Norepeat, Chord, Bounce}
use Rattle.inp_filter.specs.declared.eat.Eat.{Eat as KeptEat}
use Rattle.inp_filter.specs.declared.norepeat.Norepeat.{Norepeat as KeptNorepeat}
use Rattle.inp_filter.specs.declared.chord.Chord.{Chord as KeptChord}
use Rattle.inp_filter.specs.declared.bounce.Bounce.{Bounce as KeptBounce}
use Rattle.inp_filter.specs.declared.filter_state.FilterState.TheVariants.{Eat as EatState}
use Rattle.inp_filter.specs.declared.filter_state.FilterState.TheVariants.{Norepeat as NorepeatState}
use Rattle.inp_filter.specs.declared.filter_state.FilterState.TheVariants.{Chord as ChordState}
use Rattle.inp_filter.specs.declared.filter_state.FilterState.TheVariants.{Bounce as BounceState}
use Rattle.inp_filter.specs.FilterState.{IsChord, IsBounce, FilterStandsFor}
use Rattle.inp_model.specs.Filter.{Given, Press, is_on_key, is_press, is_release, last_press, is_there_and}
use Rattle.inp_model.specs.Filter.{is_down, last_release}

-- a test of the last press, behind an event that is about another key
skips : (test : Press → Bool) (on p r : Bool) (here earlier : Option Press) → on ≡ false
    → is_there_and test (if on && p then here else if on && r then None else earlier)
    ≡ is_there_and test earlier
skips test true p r here earlier h = absurd (cc h)
skips test false p r here earlier h = refl

pub last_press-other : (code : ℕ) (test : Press → Bool) (g : Given) (given : List Given)
    → is_on_key code g.event ≡ false
    → is_there_and test (last_press code (g ∷ given)) ≡ is_there_and test (last_press code given)
unfolding last_press
last_press-other code test g given other = skips test (is_on_key code g.event) _ _ _ _ other

same_and : (b : Bool) → b ≡ (b && true)
same_and true = refl
same_and false = refl

none_and : (b : Bool) → false ≡ (b && false)
none_and true = refl
none_and false = refl

decides : (test : Press → Bool) (on set rep : Bool) (press : Press) (earlier : Option Press) → on ≡ true
    → is_there_and test (if on && (set && not rep) then Some press else if on && not set then None
    else earlier) ≡ ((if set && not rep then test press else is_there_and test earlier) && set)
decides test false set rep press earlier h = absurd (cc h)
decides test true true true press earlier h = same_and (is_there_and test earlier)
decides test true true false press earlier h = same_and (test press)
decides test true false rep press earlier h = none_and (is_there_and test earlier)

-- the same, behind an event on the key: a press decides, and a release ends the hold
pub last_press-on : (code : ℕ) (test : Press → Bool) (g : Given) (given : List Given)
    → is_on_key code g.event ≡ true
    → is_there_and test (last_press code (g ∷ given))
    ≡ ((if is_press g.event then test (record { moment = g.moment; before = given })
    else is_there_and test (last_press code given)) && is_set g.event)
unfolding last_press
last_press-on code test g given on =
    decides test (is_on_key code g.event) (is_set g.event) (is_repeat g.event)
    (record { moment = g.moment; before = given }) (last_press code given) on

-- a key is down as the last event on it says that is no autorepeat
pub is_down-on : (code : ℕ) (g : Given) (given : List Given)
    → (is_on_key code g.event && not (is_repeat g.event)) ≡ true → is_down code (g ∷ given) ≡ is_set g.event
unfolding is_down
is_down-on code g given h = rw h

pub is_down-other : (code : ℕ) (g : Given) (given : List Given)
    → (is_on_key code g.event && not (is_repeat g.event)) ≡ false
    → is_down code (g ∷ given) ≡ is_down code given
unfolding is_down
is_down-other code g given h = rw h

-- the last release that was not eaten is the newest event, or an earlier one
pub last_release-on : (code : ℕ) (g : Given) (given : List Given)
    → (is_on_key code g.event && (is_release g.event && not g.eaten)) ≡ true
    → last_release code (g ∷ given) ≡ Some g.moment
unfolding last_release
last_release-on code g given h = rw h

pub last_release-other : (code : ℕ) (g : Given) (given : List Given)
    → (is_on_key code g.event && (is_release g.event && not g.eaten)) ≡ false
    → last_release code (g ∷ given) ≡ last_release code given
unfolding last_release
last_release-other code g given h = rw h

-- What is kept tells which kind of filter it stands for.

pub of_eat : (given : List Given) (eat : KeptEat) (Q : Filter → Type 0) → Q (Eat eat.kind eat.code)
    → (f : Filter) → FilterStandsFor f given (EatState eat) → Q f
unfolding FilterStandsFor
of_eat given eat Q q (Eat kind code) h = rw (h.1, h.0) at q
of_eat given eat Q q f h = absurd h

pub of_norepeat : (given : List Given) (norepeat : KeptNorepeat) (Q : Filter → Type 0) → Q Norepeat
    → (f : Filter) → FilterStandsFor f given (NorepeatState norepeat) → Q f
unfolding FilterStandsFor
of_norepeat given norepeat Q q Norepeat h = q
of_norepeat given norepeat Q q f h = absurd h

pub of_chord : (given : List Given) (chord : KeptChord) (Q : Filter → Type 0)
    → ((first second : ℕ) → IsChord first second given chord → Q (Chord first second)) → (f : Filter)
    → FilterStandsFor f given (ChordState chord) → Q f
unfolding FilterStandsFor
of_chord given chord Q q (Chord first second) h = q first second h
of_chord given chord Q q f h = absurd h

pub of_bounce : (given : List Given) (bounce : KeptBounce) (Q : Filter → Type 0)
    → ((code micros : ℕ) → IsBounce code micros given bounce → Q (Bounce code micros)) → (f : Filter)
    → FilterStandsFor f given (BounceState bounce) → Q f
unfolding FilterStandsFor
of_bounce given bounce Q q (Bounce code micros) h = q code micros h
of_bounce given bounce Q q f h = absurd h
