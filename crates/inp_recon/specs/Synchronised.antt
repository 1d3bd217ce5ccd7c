-- When a client is synchronised: what it asked for, and what it took, since it opened or discarded
-- (docs/READER.md, "Faithful views").
use Rattle.std.specs.Prelude.{ℕ, ◌+◌, Bool, false, ◌&&◌, ◌||◌, not, if◌then◌else◌, nat_eq, nat_lt, List, [], ◌∷◌, ◌++◌, length}
use Rattle.std.specs.List.{list_all, range_with_len}
use Rattle.inp_model.specs.declared.event.TheConstants.{EV_SYN, EV_KEY, EV_ABS, EV_SW, EV_LED, SYN_DROPPED, ABS_MAX}
use Rattle.inp_model.specs.declared.event.Event.{Event}
use Rattle.inp_model.specs.declared.step.Step.{Step}
use Rattle.inp_model.specs.declared.step.Step.TheVariants.{Discard, GetKeys, GetSwitches, GetLeds, GetAxis, SyncSlots}
use Rattle.inp_model.specs.Description.{Description, has_kind, supports, is_multi_touch_code}
use Rattle.inp_model.specs.Past.{is_opening}
use Rattle.inp_model.specs.Left.{Eats, eaten}
use Rattle.inp_model.specs.Queue.{Entry, event_of, taken_by_with}

-- what a client may ask for, to bring its view up to date
pub data Part : Type 0 where
  AllKeys : Part
  AllSwitches : Part
  AllLeds : Part
  OneAxis : ℕ → Part
  AllSlots : Part

-- the client asks for this part
abbrev pub asks_for : Part → ℕ → Step → Bool
asks_for AllKeys client (GetKeys named) = nat_eq named client
asks_for AllSwitches client (GetSwitches named) = nat_eq named client
asks_for AllLeds client (GetLeds named) = nat_eq named client
asks_for (OneAxis code) client (GetAxis named asked) = nat_eq named client && nat_eq asked code
asks_for AllSlots client (SyncSlots named) = nat_eq named client
asks_for part client _ = false

-- the client asks for some part
abbrev pub is_query_of : ℕ → Step → Bool
is_query_of client (GetKeys named) = nat_eq named client
is_query_of client (GetSwitches named) = nat_eq named client
is_query_of client (GetLeds named) = nat_eq named client
is_query_of client (GetAxis named code) = nat_eq named client
is_query_of client (SyncSlots named) = nat_eq named client
is_query_of client _ = false

-- the client discards what it could read
abbrev pub is_discard_of : ℕ → Step → Bool
is_discard_of client (Discard named) = nat_eq named client
is_discard_of client _ = false

-- a synchronisation starts where the client opens or discards
abbrev pub is_start : List Step → ℕ → Step → Bool
is_start past client x = is_opening past client x || is_discard_of client x

-- the place of the client's last query since its start, or of the start where it made none
unfoldable pub sync_place : List Step → ℕ → ℕ
sync_place [] client = 0
sync_place (x ∷ past) client =
    let before = sync_place past client in
    if is_start past client x || is_query_of client x then length past else before

-- the client asked for this part since its start
unfoldable pub has_asked : Part → List Step → ℕ → Bool
has_asked part [] client = false
has_asked part (x ∷ past) client =
    let before = has_asked part past client in
    if is_start past client x then false else asks_for part client x || before

-- the entries that the client took since its start
unfoldable pub taken_since_start : Eats → Description → List Step → ℕ → List Entry
taken_since_start eats d [] client = []
taken_since_start eats d (x ∷ past) client =
    let before = taken_since_start eats d past client in
    if is_start past client x then [] else before ++ taken_by_with eats d past client x

-- it tells a client that it lost events
abbrev pub is_dropped : Event → Bool
is_dropped e = nat_eq e.kind EV_SYN && nat_eq e.code SYN_DROPPED

-- none of these entries tells of a loss
abbrev pub has_no_loss : List Entry → Bool
has_no_loss entries = list_all (λ e. not (is_dropped (event_of e))) entries

-- a supported axis with a value of its own
abbrev pub has_axis : Description → ℕ → Bool
has_axis d code = supports d EV_ABS code && not (is_multi_touch_code code)

-- the client asked for this part, where the device has it
abbrev pub has_asked_where : Bool → Part → List Step → ℕ → Bool
has_asked_where has_it part past client = not has_it || has_asked part past client

-- Since its start the client asked for everything that the device has and a view keeps, and took no loss; `taken` is
-- what it takes now.
unfoldable pub is_synchronised_with : Eats → Description → List Step → ℕ → List Entry → Bool
is_synchronised_with eats d past client taken =
    has_asked_where (has_kind d EV_KEY) AllKeys past client
    && has_asked_where (has_kind d EV_SW) AllSwitches past client
    && has_asked_where (has_kind d EV_LED) AllLeds past client
    && list_all (λ code. has_asked_where (has_axis d code) (OneAxis code) past client) (range_with_len 0 (ABS_MAX + 1))
    && has_asked_where (nat_lt 0 d.slots) AllSlots past client
    && has_no_loss (taken_since_start eats d past client ++ taken)

abbrev pub is_synchronised : Description → List Step → ℕ → List Entry → Bool
is_synchronised d past client taken = is_synchronised_with (eaten d) d past client taken
