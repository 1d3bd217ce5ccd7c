-- What holds of all filters and all frames, over the definitions alone. Events that came to filters are written newest
-- first.
use Rattle.std.specs.Prelude.{◌≡◌, ℕ, Bool, true, false, ◌&&◌, if◌then◌else◌, List, [], ◌∷◌, filter}
use Rattle.inp_model.specs.declared.event.Event.{Event}
use Rattle.inp_model.specs.declared.filter.Filter.{Filter}
use Rattle.inp_model.specs.declared.filter.Filter.TheVariants.{Chord, Bounce}
use Rattle.inp_model.specs.Filter.{Timed, Given, is_on_key, is_press, is_release, eats, given_all, left_by, is_syn}
use Rattle.inp_filter.specs.Row.{let_through}

-- the events of EV_SYN are all left, in order
abbrev pub LeavesSyn : Type 0
LeavesSyn =
    (fs : List Filter) (moment : ℕ) (given : List Timed) (es : List Event)
    → filter is_syn (let_through fs moment given es) ≡ filter is_syn es

-- without a filter all is left
abbrev pub LeavesAllOfNone : Type 0
LeavesAllOfNone = (moment : ℕ) (given : List Timed) (es : List Event) → let_through [] moment given es ≡ es

-- Filters in a row leave of a frame what the others leave of what the first one leaves of it, where they were
-- given what the first one left.
abbrev pub LeavesOneAfterAnother : Type 0
LeavesOneAfterAnother =
    (f : Filter) (fs : List Filter) (moment : ℕ) (given : List Timed) (es : List Event)
    → let_through (f ∷ fs) moment given es ≡ let_through fs moment (left_by f given) (let_through (f ∷ []) moment given es)

-- the last press of a key was eaten, and no release of the key stands after it
unfoldable pub has_eaten_press : ℕ → List Given → Bool
has_eaten_press code [] = false
has_eaten_press code (g ∷ before) =
    let earlier = has_eaten_press code before in
    if is_on_key code g.event && is_press g.event then g.eaten
    else if is_on_key code g.event && is_release g.event then false
    else earlier

-- Of the key that this filter is about, an autorepeat or a release is eaten exactly where the press before it was.
abbrev pub FollowsThePress : ℕ → Filter → Type 0
FollowsThePress code f =
    (x : Timed) (given : List Timed) → is_on_key code x.event ≡ true → is_press x.event ≡ false
    → eats f x (given_all f given) ≡ has_eaten_press code (given_all f given)

-- so chords and bounces eat a hold whole, or leave it whole
abbrev pub EatWholeHolds : Type 0
EatWholeHolds =
    ((first second : ℕ) → FollowsThePress second (Chord first second))
    × ((code micros : ℕ) → FollowsThePress code (Bounce code micros))
