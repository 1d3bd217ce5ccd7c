-- What is kept of the events that filters were given, which are written newest first.
use Rattle.std.specs.Prelude.{◌≡◌, ℕ, Bool, List, [], ◌∷◌}
use Rattle.inp_model.specs.declared.filter.Filter.{Filter}
use Rattle.inp_model.specs.declared.filter.Filter.TheVariants.{Eat, Norepeat, Chord, Bounce}
use Rattle.inp_filter.specs.declared.hold.Hold.{Hold}
use Rattle.inp_filter.specs.declared.chord.Chord.{Chord as KeptChord}
use Rattle.inp_filter.specs.declared.bounce.Bounce.{Bounce as KeptBounce}
use Rattle.inp_filter.specs.declared.filter_state.FilterState.{FilterState}
use Rattle.inp_filter.specs.declared.filter_state.FilterState.TheVariants.{Eat as EatState, Norepeat as NorepeatState, Chord as ChordState, Bounce as BounceState}
use Rattle.inp_model.specs.Filter.{Timed, Given, Press, last_press, is_there_and, is_down, last_release, is_chorded, is_bounced, given_all, left_by}

-- of a key, whether a press is there after the last event, and passes the test
pub record IsHold (code : ℕ) (test : Press → Bool) (given : List Given) (hold : Hold) : Type 0 where
  pub code_is : hold.code ≡ code
  pub eaten : hold.is_eaten ≡ is_there_and test (last_press code given)

-- of a chord, whether the first key is down, and whether the present hold of the second one is eaten
pub record IsChord (first second : ℕ) (given : List Given) (chord : KeptChord) : Type 0 where
  pub first_is : chord.first ≡ first
  pub down : chord.is_first_down ≡ is_down first given
  pub hold : IsHold second (is_chorded first) given chord.hold

-- of a bounce, the moment of the last release that was not eaten, and whether the present hold is eaten
pub record IsBounce (code micros : ℕ) (given : List Given) (bounce : KeptBounce) : Type 0 where
  pub micros_is : bounce.micros ≡ micros
  pub released : bounce.released ≡ last_release code given
  pub hold : IsHold code (is_bounced code micros) given bounce.hold

-- this is kept of a filter that was given these events
unfoldable pub FilterStandsFor : Filter → List Given → FilterState → Type 0
FilterStandsFor (Eat kind code) given (EatState eat) = (eat.kind ≡ kind) × (eat.code ≡ code)
FilterStandsFor Norepeat given (NorepeatState norepeat) = Unit {0}
FilterStandsFor (Chord first second) given (ChordState chord) = IsChord first second given chord
FilterStandsFor (Bounce code micros) given (BounceState bounce) = IsBounce code micros given bounce
FilterStandsFor f given state = ⊥

-- This is kept of filters in a row, the first of which was given these events. Each other one was given what
-- the one before it did not eat of those that it was given itself.
unfoldable pub FiltersStandFor : List Filter → List Timed → List FilterState → Type 0
FiltersStandFor [] given [] = Unit {0}
FiltersStandFor [] given (state ∷ states) = ⊥
FiltersStandFor (f ∷ fs) given [] = ⊥
FiltersStandFor (f ∷ fs) given (state ∷ states) = FilterStandsFor f (given_all f given) state × FiltersStandFor fs (left_by f given) states
