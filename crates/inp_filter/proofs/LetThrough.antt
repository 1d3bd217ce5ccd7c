-- What is left of a frame so far, and what is left of the rest of it.
use Rattle.std.proofs.Common.{◌≡◌, ℕ, ◌+◌, ◌<◌, ◌≤◌, true, false, List, [], ◌∷◌, ◌++◌, length, get_or, set}
use Rattle.std.proofs.Common.{take, drop, refl, sym, arith, append_assoc}
use Rattle.std.proofs.lemmas.List.{drop_more, drop-drop, drop-set-lt, take_more_set}
use Rattle.inp_model.specs.declared.event.Event.{Event}
use Rattle.inp_model.specs.declared.filter.Filter.{Filter}
use Rattle.inp_filter.specs.declared.filter_state.FilterState.{FilterState}
use Rattle.inp_model.specs.Filter.{Timed, with_event, given_after}
use Rattle.inp_filter.specs.Row.{is_let_through, let_through}
use Rattle.inp_filter.specs.FilterState.{FiltersStandFor}

-- Behind a part of a frame: the filters stand for what the first one was given so far, what is left is
-- this, and then what is left of the rest.
pub record IsPassing (fs : List Filter) (moment : ℕ) (given : List Timed) (events rest : List Event)
    (states : List FilterState) (so_far : List Event) : Type 0 where
  pub given_so_far : List Timed
  pub stands : FiltersStandFor fs given_so_far states
  pub left_is : let_through fs moment given events ≡ so_far ++ let_through fs moment given_so_far rest
  pub given_is : given_after moment given events ≡ given_after moment given_so_far rest

pub passing-none : (fs : List Filter) (moment : ℕ) (given : List Timed) (events : List Event)
    (states : List FilterState) → FiltersStandFor fs given states
    → IsPassing fs moment given events events states []
passing-none fs moment given events states h =
    record { given_so_far = given; stands = h; left_is = refl; given_is = refl }

module _ (fs : List Filter) (moment : ℕ) (given : List Timed) (events : List Event) (e : Event)
    (rest : List Event) (states later : List FilterState) (so_far : List Event)
    (p : IsPassing fs moment given events (e ∷ rest) states so_far)
    (stands : FiltersStandFor fs (with_event moment e p.given_so_far) later) where
  pub passing-left : true ≡ is_let_through fs moment p.given_so_far e
      → IsPassing fs moment given events rest later (so_far ++ e ∷ [])
  unfolding let_through given_after
  passing-left is =
      let more = with_event moment e p.given_so_far in
      record {
        given_so_far = more;
        stands = stands;
        left_is = rw (p.left_is, ← is) (sym (append_assoc so_far (e ∷ []) (let_through fs moment more rest)));
        given_is = p.given_is;
      }

  pub passing-eaten : false ≡ is_let_through fs moment p.given_so_far e
      → IsPassing fs moment given events rest later so_far
  unfolding let_through given_after
  passing-eaten is =
      let more = with_event moment e p.given_so_far in
      record {
        given_so_far = more;
        stands = stands;
        left_is = rw (p.left_is, ← is);
        given_is = p.given_is;
      }

pub let_through-none : (fs : List Filter) (moment : ℕ) (given : List Timed)
    → let_through fs moment given [] ≡ []
unfolding let_through
let_through-none fs moment given = refl

pub given_after-none : (moment : ℕ) (given : List Timed) → given_after moment given [] ≡ given
unfolding given_after
given_after-none moment given = refl

-- After so many events of a frame, so many are left: they stand at the front of the buffer, the rest of
-- which is as it was, and the frame is passed so far.
pub record Writes (moment : ℕ) (events : List Event) (first : List FilterState) (buffer : List Event)
    (i count : ℕ) (states : List FilterState) (out : List Event) : Type 0 where
  pub few : count ≤ i
  pub rest : drop count out ≡ drop count buffer
  pub passing : (fs : List Filter) (given : List Timed) → FiltersStandFor fs given first
      → IsPassing fs moment given events (drop i events) states (take count out)

module _ (moment : ℕ) (events : List Event) (first : List FilterState) (buffer : List Event) (i count : ℕ)
    (states later : List FilterState) (out : List Event) (default : Event) (lt : i < length events)
    (w : Writes moment events first buffer i count states out)
    (stands : (fs : List Filter) (given : List Timed) → FiltersStandFor fs given states
    → FiltersStandFor fs (with_event moment (get_or events i default) given) later) where
  at_event : (fs : List Filter) (given : List Timed) → FiltersStandFor fs given first
      → IsPassing fs moment given events (get_or events i default ∷ drop (i + 1) events) states
      (take count out)
  at_event fs given h = rw (drop_more events i default lt) at (w.passing fs given h)

  written_left : ((fs : List Filter) (given : List Timed) → FiltersStandFor fs given states
      → true ≡ is_let_through fs moment given (get_or events i default)) → count < length out
      → (fs : List Filter) (given : List Timed) → FiltersStandFor fs given first
      → IsPassing fs moment given events (drop (i + 1) events) later
      (take (count + 1) (set out count (get_or events i default)))
  written_left is room fs given h =
      let e = get_or events i default in
      let p = at_event fs given h in
      let next =
      passing-left fs moment given events e (drop (i + 1) events) states later (take count out) p
      (stands fs p.given_so_far p.stands) (is fs p.given_so_far p.stands) in
      rw (take_more_set out count e room) next

  rest_left : drop (count + 1) (set out count (get_or events i default)) ≡ drop (count + 1) buffer
  rest_left =
      rw (
        drop-set-lt (count + 1) out count (get_or events i default) (omega arith),
        ← drop-drop 1 count out,
        w.rest,
      ) (drop-drop 1 count buffer)

  -- the next event is left, and written behind those before
  pub writes-left : ((fs : List Filter) (given : List Timed) → FiltersStandFor fs given states
      → true ≡ is_let_through fs moment given (get_or events i default)) → count < length out
      → Writes moment events first buffer (i + 1) (count + 1) later (set out count (get_or events i default))
  writes-left is room =
      record { few = omega (arith, w.few); rest = rest_left; passing = written_left is room }

  written_eaten : ((fs : List Filter) (given : List Timed) → FiltersStandFor fs given states
      → false ≡ is_let_through fs moment given (get_or events i default))
      → (fs : List Filter) (given : List Timed) → FiltersStandFor fs given first
      → IsPassing fs moment given events (drop (i + 1) events) later (take count out)
  written_eaten is fs given h =
      let p = at_event fs given h in
      passing-eaten fs moment given events (get_or events i default) (drop (i + 1) events) states later
      (take count out) p (stands fs p.given_so_far p.stands) (is fs p.given_so_far p.stands)

  -- the next event is eaten
  pub writes-eaten : ((fs : List Filter) (given : List Timed) → FiltersStandFor fs given states
      → false ≡ is_let_through fs moment given (get_or events i default))
      → Writes moment events first buffer (i + 1) count later out
  writes-eaten is = record { few = omega (arith, w.few); rest = w.rest; passing = written_eaten is }
