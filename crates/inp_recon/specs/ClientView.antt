-- The view that a client makes of a history: a fold over its answers and the events that it took
-- (docs/READER.md, "Faithful views"). A history is written newest first, and is called a past. What has `eats` for its
-- first argument speaks of any choice of what is left of a frame. The device's own is `eaten d`, and where a name ends in
-- _with, the same name without it speaks of that one.
use Rattle.std.specs.Prelude.{ℕ, if◌then◌else◌, List, [], ◌∷◌, ◌++◌, map}
use Rattle.inp_model.specs.declared.step.Step.{Step}
use Rattle.inp_model.specs.Description.{Description}
use Rattle.inp_model.specs.Step.{client_of, is_same}
use Rattle.inp_model.specs.Left.{Eats, eaten}
use Rattle.inp_model.specs.Queue.{Entry, event_of, taken_by_with}
use Rattle.inp_model.specs.Reply.{accepted_with}
use Rattle.inp_recon.specs.declared.view.View.{View}
use Rattle.inp_recon.specs.View.{first_view, view_after_events, view_after_answer}

-- What a step makes of a client's view: of its own step first the events that it takes, then the answer. Steps that
-- others make leave the view.
abbrev pub view_after_step : Eats → Description → List Step → ℕ → Step → View → View
view_after_step eats d past client x v =
    if is_same (client_of x) client
    then view_after_answer (view_after_events v (map event_of (taken_by_with eats d past client x))) x (accepted_with eats d past x).reply (accepted_with eats d past x).cells
    else v

-- the view of a client after a past
unfoldable pub client_view_with : Eats → Description → List Step → ℕ → View
client_view_with eats d [] client = first_view d
client_view_with eats d (x ∷ past) client = view_after_step eats d past client x (client_view_with eats d past client)

-- an entry that a read of a client took
pub record ReadEntry : Type 0 where
  -- the past before the read
  pub before : List Step
  -- what the read took, up to and with this entry
  pub taken : List Entry
  pub entry : Entry

-- Each of these entries, which a read after this past took behind the ones in `earlier`.
abbrev pub entries_of_read : List Step → List Entry → List Entry → List ReadEntry
entries_of_read before earlier [] = []
entries_of_read before earlier (e ∷ rest) =
    let taken : List Entry = earlier ++ e ∷ [] in
    record { before = before; taken = taken; entry = e } ∷ entries_of_read before taken rest

-- all entries that a client's reads took, in order
unfoldable pub read_entries_with : Eats → Description → List Step → ℕ → List ReadEntry
read_entries_with eats d [] client = []
read_entries_with eats d (x ∷ past) client =
    read_entries_with eats d past client ++ entries_of_read past [] (taken_by_with eats d past client x)

-- the view of a client when it took this entry, the entry included
abbrev pub view_at_with : Eats → Description → ℕ → ReadEntry → View
view_at_with eats d client at =
    view_after_events (client_view_with eats d at.before client) (map event_of at.taken)

-- of the device's own

abbrev pub client_view : Description → List Step → ℕ → View
client_view d past client = client_view_with (eaten d) d past client

abbrev pub read_entries : Description → List Step → ℕ → List ReadEntry
read_entries d past client = read_entries_with (eaten d) d past client

abbrev pub view_at : Description → ℕ → ReadEntry → View
view_at d client at = view_at_with (eaten d) d client at
