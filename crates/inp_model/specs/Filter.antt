-- What a filter eats of the events that it is given, and what filters in a row do (docs/RULES.md, "Filters").
-- No filter is given an event of EV_SYN, which is never eaten.
use Rattle.std.specs.Prelude.{ℕ, ◌+◌, Bool, false, ◌&&◌, ◌||◌, not, if◌then◌else◌, nat_eq, nat_lt, nat_le, List, [], ◌∷◌, Option, Some, None}
use Rattle.inp_model.specs.declared.event.TheConstants.{EV_SYN, EV_KEY}
use Rattle.inp_model.specs.declared.event.Event.{Event}
use Rattle.inp_model.specs.Event.{is_set, is_repeat}
use Rattle.inp_model.specs.declared.filter.Filter.{Filter}
use Rattle.inp_model.specs.declared.filter.Filter.TheVariants.{Eat, Norepeat, Chord, Bounce}

-- an event of a frame, at the frame's moment
pub record Timed : Type 0 where
  pub event : Event
  pub moment : ℕ

abbrev pub timed : ℕ → Event → Timed
timed moment e = record { event = e; moment = moment }

-- an event that a filter was given, at the moment of its frame, and whether the filter ate it
pub record Given : Type 0 where
  pub event : Event
  pub moment : ℕ
  pub eaten : Bool

abbrev pub with_verdict : Timed → Bool → Given
with_verdict x eaten = record { event = x.event; moment = x.moment; eaten = eaten }

-- it is about this key
abbrev pub is_on_key : ℕ → Event → Bool
is_on_key code e = nat_eq e.kind EV_KEY && nat_eq e.code code

-- of a key: it goes down, and this is no autorepeat
abbrev pub is_press : Event → Bool
is_press e = is_set e && not (is_repeat e)

-- of a key: it goes up
abbrev pub is_release : Event → Bool
is_release e = not (is_set e)

-- Below, the events that a filter was given are written newest first.

-- a press of a key, by its moment and what the filter was given before it
pub record Press : Type 0 where
  pub moment : ℕ
  pub before : List Given

-- the last press of a key, if no release of the key stands after it
unfoldable pub last_press : ℕ → List Given → Option Press
last_press code [] = None
last_press code (g ∷ before) =
    let earlier = last_press code before in
    if is_on_key code g.event && is_press g.event then Some (record { moment = g.moment; before = before })
    else if is_on_key code g.event && is_release g.event then None
    else earlier

-- The press of an event on a key, after what the filter was given before. It is the event itself where that
-- is a press, else the last press, if no release stands between.
abbrev pub press_of : ℕ → Timed → List Given → Option Press
press_of code x before =
    if is_press x.event then Some (record { moment = x.moment; before = before }) else last_press code before

-- a press is there, and this holds of it
abbrev pub is_there_and : (Press → Bool) → Option Press → Bool
is_there_and test None = false
is_there_and test (Some press) = test press

-- An event on this key whose press is there and passes the test. So the holds of the key whose press passes
-- it are eaten whole, from the press over its autorepeats to the release.
abbrev pub is_in_hold : ℕ → (Press → Bool) → Timed → List Given → Bool
is_in_hold code test x before = is_on_key code x.event && is_there_and test (press_of code x before)

-- a key is down: the last event on it, autorepeats left out, is there and is no release
unfoldable pub is_down : ℕ → List Given → Bool
is_down code [] = false
is_down code (g ∷ before) =
    let earlier = is_down code before in
    if is_on_key code g.event && not (is_repeat g.event) then is_set g.event else earlier

-- the moment of the last release of a key that the filter did not eat
unfoldable pub last_release : ℕ → List Given → Option ℕ
last_release code [] = None
last_release code (g ∷ before) =
    let earlier = last_release code before in
    if is_on_key code g.event && (is_release g.event && not g.eaten) then Some g.moment else earlier

-- A moment is that of a release or less than so many microseconds after it. Where moments fall it may be
-- before the release, and is not soon then.
abbrev pub is_soon : ℕ → Option ℕ → ℕ → Bool
is_soon micros None moment = false
is_soon micros (Some release) moment = nat_le release moment && nat_lt moment (release + micros)

-- a press of the second key of a chord, while the first one is down
abbrev pub is_chorded : ℕ → Press → Bool
is_chorded first press = is_down first press.before

-- a press of a key too soon after a release that was not eaten
abbrev pub is_bounced : ℕ → ℕ → Press → Bool
is_bounced code micros press = is_soon micros (last_release code press.before) press.moment

-- whether a filter eats an event, after what it was given before
abbrev pub eats : Filter → Timed → List Given → Bool
eats (Eat kind code) x before = nat_eq x.event.kind kind && nat_eq x.event.code code
eats Norepeat x before = nat_eq x.event.kind EV_KEY && is_repeat x.event
eats (Chord first second) x before = is_in_hold second (is_chorded first) x before
eats (Bounce code micros) x before = is_in_hold code (is_bounced code micros) x before

-- one more event that a filter is given
abbrev pub given_more : Filter → Timed → List Given → List Given
given_more f x before = with_verdict x (eats f x before) ∷ before

-- Filters in a row. Events that came to filters are written newest first too.

-- a filter was given these events, one after another
unfoldable pub given_all : Filter → List Timed → List Given
given_all f [] = []
given_all f (x ∷ before) = given_more f x (given_all f before)

-- those of them that it did not eat, which the next filter is given
unfoldable pub left_by : Filter → List Timed → List Timed
left_by f [] = []
left_by f (x ∷ before) =
    let rest = left_by f before in
    if eats f x (given_all f before) then rest else x ∷ rest

-- One of the filters in a row eats the event, after the events that the first one was given before. Each
-- filter is given what the one before it did not eat.
unfoldable pub is_eaten : List Filter → Timed → List Timed → Bool
is_eaten [] x before = false
is_eaten (f ∷ fs) x before = eats f x (given_all f before) || is_eaten fs x (left_by f before)

-- it separates frames, or tells of them: no filter sees it
abbrev pub is_syn : Event → Bool
is_syn e = nat_eq e.kind EV_SYN

-- what the first filter was given after one more event of a frame that ends at this moment
abbrev pub with_event : ℕ → Event → List Timed → List Timed
with_event moment e before = if is_syn e then before else timed moment e ∷ before

-- what the first filter was given after the frame
unfoldable pub given_after : ℕ → List Timed → List Event → List Timed
given_after moment before [] = before
given_after moment before (e ∷ es) = given_after moment (with_event moment e before) es
