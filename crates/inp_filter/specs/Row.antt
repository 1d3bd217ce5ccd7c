-- What filters in a row leave of frames (docs/RULES.md, "Filters").
use Rattle.std.specs.Prelude.{ℕ, Bool, ◌||◌, not, if◌then◌else◌, List, [], ◌∷◌}
use Rattle.inp_model.specs.declared.event.Event.{Event}
use Rattle.inp_model.specs.declared.filter.Filter.{Filter}
use Rattle.inp_model.specs.Filter.{Timed, timed, is_eaten, is_syn, with_event}

-- Below, events that came to filters are written newest first.

-- filters in a row let an event of a frame through: it is of EV_SYN, or no filter eats it
abbrev pub is_let_through : List Filter → ℕ → List Timed → Event → Bool
is_let_through fs moment before e = is_syn e || not (is_eaten fs (timed moment e) before)

-- what is let through of a frame that ends at this moment, in order, after what the first filter was given
-- before
unfoldable pub let_through : List Filter → ℕ → List Timed → List Event → List Event
let_through fs moment before [] = []
let_through fs moment before (e ∷ es) =
    let rest = let_through fs moment (with_event moment e before) es in
    if is_let_through fs moment before e then e ∷ rest else rest
