-- Each client's queue, oldest first: what it was offered, has not taken and did not lose
-- (docs/RULES.md, "A client's queue").
use Rattle.std.specs.Prelude.{ℕ, suc, ◌+◌, min, Bool, true, false, ◌&&◌, ◌||◌, not, if◌then◌else◌, nat_eq, nat_lt, List, [], ◌∷◌, ◌++◌, length, map, filter, take, drop, flat_map, Option, Some, None}
use Rattle.inp_model.specs.declared.event.Event.{Event}
use Rattle.inp_model.specs.declared.taken.Taken.{Taken}
use Rattle.inp_model.specs.declared.step.Step.{Step}
use Rattle.inp_model.specs.declared.clock.Clock.{Clock}
use Rattle.inp_model.specs.declared.clock.Clock.TheVariants.{Realtime, Monotonic, Boottime}
use Rattle.inp_model.specs.declared.step.Step.TheVariants.{Open, Read, Discard, Clock as ToClock}
use Rattle.inp_model.specs.Description.{Description, ring, offset}
use Rattle.inp_model.specs.Event.{is_report, syn_dropped}
use Rattle.inp_model.specs.Step.{Query, query_of, is_part_of}
use Rattle.inp_model.specs.Past.{is_open, is_call_of, is_revoked, holder, is_other, clock_of, admits}
use Rattle.inp_model.specs.RawItem.{Frame}
use Rattle.inp_model.specs.Frame.{place, moment, frames_of_step}
use Rattle.inp_model.specs.Left.{Eats, eaten, left}

-- an event in a client's queue, with the frame that it came in
pub record Entry : Type 0 where
  pub taken : Taken
  pub frame : Option Frame

abbrev pub event_of : Entry → Event
event_of e = e.taken.event

-- SYN_DROPPED in the place of what was lost, at the time and place of the event that did not fit
abbrev pub dropped_at : Taken → Taken
dropped_at t = record t { event = syn_dropped }

abbrev pub entry_dropped_at : Entry → Entry
entry_dropped_at e = record e { taken = dropped_at e.taken }

-- A queue of any items whose events are known.

abbrev pub ends_in_report : {X : Type 0} → (X → Event) → List X → Bool
ends_in_report event [] = false
ends_in_report event (x ∷ []) = is_report (event x)
ends_in_report event (x ∷ y ∷ q) = ends_in_report event (y ∷ q)

abbrev pub is_empty : {X : Type 0} → List X → Bool
is_empty [] = true
is_empty (x ∷ q) = false

-- One more item in a queue with so many places. A report that would follow a report, or nothing, is left out.
-- Where only one place is left the whole queue is lost, and SYN_DROPPED stands in its place.
abbrev pub put : {X : Type 0} → (X → Event) → (X → X) → ℕ → List X → X → List X
put event dropped places q x =
    if is_report (event x) && (is_empty q || ends_in_report event q) then q
    else if nat_lt (suc (length q)) places then q ++ x ∷ []
    else dropped x ∷ x ∷ []

abbrev pub put_all : {X : Type 0} → (X → Event) → (X → X) → ℕ → List X → List X → List X
put_all event dropped places q [] = q
put_all event dropped places q (x ∷ xs) = put_all event dropped places (put event dropped places q x) xs

-- how many items are visible: those up to the last report
abbrev pub visible : {X : Type 0} → (X → Event) → List X → ℕ
visible event [] = 0
visible event (x ∷ q) =
    let behind = visible event q in
    if nat_eq behind 0 then (if is_report (event x) then 1 else 0) else suc behind

-- a queue without the events that are dropped; its reports stay
abbrev pub without : {X : Type 0} → (X → Event) → (Event → Bool) → List X → List X
without event drops q = filter (λ x. is_report (event x) || not (drops (event x))) q

-- A queue without each report that comes directly after a report. The flag says whether a report came before its first item.
abbrev pub apart : {X : Type 0} → (X → Event) → Bool → List X → List X
apart event after [] = []
apart event after (x ∷ q) =
    (if is_report (event x) && after then [] else x ∷ []) ++ apart event (is_report (event x)) q

-- A query drops events, and then each report that now comes directly after a report (docs/RULES.md, "Queries").
abbrev pub flush : {X : Type 0} → (X → Event) → (Event → Bool) → List X → List X
flush event drops q = apart event false (without event drops q)

-- without what the answer to a query tells whole; as it is where nothing is asked
abbrev pub flush_for : {X : Type 0} → (X → Event) → Option Query → List X → List X
flush_for event None q = q
flush_for event (Some query) q = flush event (is_part_of query) q

-- A frame is offered to each client that is open and not revoked when it ends, or to the holder of the grab alone
-- (docs/RULES.md, "A client's queue", "The grab" and "Revocation").
abbrev pub is_offered : List Step → ℕ → Bool
is_offered past client = is_open past client && not (is_revoked past client) && not (is_other (holder past) client)

-- an event of a frame as a client reads it, timed by its clock (docs/RULES.md, "Clocks")
abbrev pub entry : Description → ℕ → Frame → Event → Entry
entry d client f e = record {
  taken = record { event = e; time = moment f + offset d (clock_of f.before client); place = place f };
  frame = Some f;
}

-- What comes to a client of a frame: what is left of it that the client admits, where it is offered the frame
-- (docs/RULES.md, "A client's queue" and "Masks").
--
-- This definition, and each that has `eats` for its first argument, speaks of any choice of what is left of a
-- frame. The device's own is `eaten d`. Where a name ends in _with, the same name without it speaks of that one.
abbrev pub entries_of : Eats → Description → ℕ → Frame → List Entry
entries_of eats d client f = if is_offered f.before client then map (entry d client f) (filter (admits f.before client) (left eats f)) else []

abbrev pub entries_with : Eats → Description → ℕ → List Frame → List Entry
entries_with eats d client fs = flat_map (entries_of eats d client) fs

abbrev pub entries : Description → ℕ → List Frame → List Entry
entries d client fs = entries_with (eaten d) d client fs

abbrev pub is_same_clock : Clock → Clock → Bool
is_same_clock Realtime Realtime = true
is_same_clock Monotonic Monotonic = true
is_same_clock Boottime Boottime = true
is_same_clock _ _ = false

-- SYN_DROPPED at the moment of a change of clock, on the new clock (docs/RULES.md, "Clocks")
abbrev pub clock_entry : Description → List Step → Clock → ℕ → Entry
clock_entry d past clock now = record {
  taken = record { event = syn_dropped; time = now + offset d clock; place = length past };
  frame = None;
}

-- A change to another clock empties a queue and leaves SYN_DROPPED there, but for one that is empty
-- (docs/RULES.md, "Clocks").
abbrev pub clock_changed : {X : Type 0} → Bool → X → List X → List X
clock_changed same dropped [] = []
clock_changed same dropped (x ∷ q) = if same then x ∷ q else dropped ∷ []

-- what a client's own call leaves in its queue (docs/RULES.md, "A client's queue", "Clocks" and "Queries")
abbrev pub left_by_call : Description → List Step → Step → List Entry → List Entry
left_by_call d past Open q = []
left_by_call d past (Read client count) q = drop (min count (visible event_of q)) q
left_by_call d past (Discard client) q = drop (visible event_of q) q
left_by_call d past (ToClock client clock now) q =
    clock_changed (is_same_clock (clock_of past client) clock) (clock_entry d past clock now) q
left_by_call d past x q = flush_for event_of (query_of x) q

-- what a step leaves in a client's queue: its own call first, then what comes of the frames that the step ends
abbrev pub queue_after : Eats → Description → List Step → ℕ → Step → List Entry → List Entry
queue_after eats d past client x q =
    put_all event_of entry_dropped_at (ring d)
    (if is_call_of past client x then left_by_call d past x q else q)
    (entries_with eats d client (frames_of_step d past x))

unfoldable pub queue_with : Eats → Description → List Step → ℕ → List Entry
queue_with eats d [] client = []
queue_with eats d (x ∷ past) client = queue_after eats d past client x (queue_with eats d past client)

-- what a step takes from a client's queue
abbrev pub taken_by_with : Eats → Description → List Step → ℕ → Step → List Entry
taken_by_with eats d past client (Read reader count) =
    let q = queue_with eats d past client in
    if nat_eq reader client then take (min count (visible event_of q)) q else []
taken_by_with eats d past client _ = []

-- all that a client's reads have taken, in order
unfoldable pub took_with : Eats → Description → List Step → ℕ → List Entry
took_with eats d [] client = []
took_with eats d (x ∷ past) client = took_with eats d past client ++ taken_by_with eats d past client x

-- of the device's own

abbrev pub queue : Description → List Step → ℕ → List Entry
queue d past client = queue_with (eaten d) d past client

abbrev pub taken_by : Description → List Step → ℕ → Step → List Entry
taken_by d past client x = taken_by_with (eaten d) d past client x

abbrev pub took : Description → List Step → ℕ → List Entry
took d past client = took_with (eaten d) d past client
