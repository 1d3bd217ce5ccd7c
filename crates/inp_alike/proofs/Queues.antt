-- A step leaves the same events in each client's queue after alike pasts.
use Rattle.std.proofs.Common.{◌≡◌, ℕ, Bool, true, false, List, [], ◌∷◌, length, refl, sym, ap, ◌∙◌}
use Rattle.std.proofs.Common.{if◌then◌else◌, drop}
use Rattle.std.specs.Prelude.{map, filter, min}
use Rattle.std.proofs.lemmas.List.{map-append, drop-map}
use Rattle.inp_model.specs.declared.event.Event.{Event}
use Rattle.inp_model.specs.declared.clock.Clock.{Clock}
use Rattle.inp_model.specs.declared.step.Step.{Step}
use Rattle.inp_model.specs.declared.step.Step.TheVariants.{Open, Read, Discard, Clock as ToClock}
use Rattle.inp_model.specs.Description.{Description, ring}
use Rattle.inp_model.specs.Step.{query_of}
use Rattle.inp_model.specs.RawItem.{Cut, Frame}
use Rattle.inp_model.specs.Past.{clock_of, admits, is_call_of}
use Rattle.inp_model.specs.Frame.{frame_of, frames_of_step, cuts_of_step}
use Rattle.inp_model.specs.Left.{eaten, left}
use Rattle.inp_model.specs.Raw.{raw}
use Rattle.inp_model.specs.Queue.{Entry, event_of, entry_dropped_at, visible, flush_for, is_offered, entry}
use Rattle.inp_model.specs.Queue.{entries_of, entries_with, is_same_clock, clock_entry, left_by_call}
use Rattle.inp_model.specs.Queue.{queue_with, queue}
use Rattle.inp_alike.specs.Alike.{AreAlike}
use Rattle.inp_alike.proofs.Pointwise.{filter_same}
use Rattle.inp_alike.proofs.Cuts.{IsCutAlike, AreCutsAlike}
use Rattle.inp_alike.proofs.Filters.{step_cuts, left_alike}
use Rattle.inp_alike.proofs.OnEvents.{itself, put_on_events, flush_on_events, clock_on_events}
use Rattle.inp_alike.proofs.OnEvents.{visible_on_events}

-- what comes of a frame

entry_events : (d : Description) (client : ℕ) (f : Frame) (es : List Event)
    → map event_of (map (entry d client f) es) ≡ es
entry_events d client f [] = refl
entry_events d client f (e ∷ es) = rw (entry_events d client f es)

offered_events : (d : Description) (client : ℕ) (f : Frame) (b : Bool) (es : List Event)
    → map event_of (if b then map (entry d client f) es else []) ≡ (if b then es else [])
offered_events d client f true es = entry_events d client f es
offered_events d client f false es = refl

offered_alike : (d : Description) (past other : List Step) (client : ℕ) → AreAlike d past other
    → is_offered past client ≡ is_offered other client
offered_alike d past other client h = cc (h.are_open client, h.are_revoked client, h.holders)

admits_alike : (d : Description) (past other : List Step) (client : ℕ) → AreAlike d past other
    → (e : Event) → admits past client e ≡ admits other client e
admits_alike d past other client h e = cc (h.masks client 0 e.kind, h.masks client e.kind e.code)

frame_alike : (d : Description) (past other : List Step) (x : Step) (client : ℕ) (c k : Cut)
    → AreAlike d past other → IsCutAlike d (length (raw d past)) (length (raw d other)) c k
    → map event_of (entries_of (eaten d) d client (frame_of past x c)) ≡ map event_of
    (entries_of (eaten d) d client (frame_of other x k))
frame_alike d past other x client c k h one =
    let es = left (eaten d) (frame_of past x c) in
    let ds = left (eaten d) (frame_of other x k) in
    let same : filter (admits past client) es ≡ filter (admits other client) ds
    = filter_same (admits past client) (admits other client) es (admits_alike d past other client h)
    ∙ ap (filter (admits other client)) (left_alike d past other x c k h one) in
    offered_events d client (frame_of past x c) (is_offered past client) (filter (admits past client) es)
    ∙ cc (offered_alike d past other client h, same)
    ∙ sym (offered_events d client (frame_of other x k) (is_offered other client)
    (filter (admits other client) ds))

frames_alike : (d : Description) (past other : List Step) (x : Step) (client : ℕ) → AreAlike d past other
    → (cs ks : List Cut) → AreCutsAlike d (length (raw d past)) (length (raw d other)) cs ks
    → map event_of (entries_with (eaten d) d client (map (frame_of past x) cs)) ≡ map event_of
    (entries_with (eaten d) d client (map (frame_of other x) ks))
frames_alike d past other x client h [] [] more = refl
frames_alike d past other x client h [] (k ∷ ks) more = absurd more
frames_alike d past other x client h (c ∷ cs) [] more = absurd more
frames_alike d past other x client h (c ∷ cs) (k ∷ ks) more =
    map-append event_of (entries_of (eaten d) d client (frame_of past x c))
    (entries_with (eaten d) d client (map (frame_of past x) cs))
    ∙ cc (frame_alike d past other x client c k h more.0, frames_alike d past other x client h cs ks more.1)
    ∙ sym (map-append event_of (entries_of (eaten d) d client (frame_of other x k))
    (entries_with (eaten d) d client (map (frame_of other x) ks)))

-- what a client's own call leaves

drop_events : (n : ℕ) (q p : List Entry) → map event_of q ≡ map event_of p
    → map event_of (drop n q) ≡ map event_of (drop n p)
drop_events n q p same = sym (drop-map event_of n q) ∙ ap (drop n) same ∙ drop-map event_of n p

pub visible_alike : (q p : List Entry) → map event_of q ≡ map event_of p
    → visible event_of q ≡ visible event_of p
visible_alike q p same = visible_on_events event_of q ∙ ap (visible itself) same
    ∙ sym (visible_on_events event_of p)

flush_alike : (x : Step) (q p : List Entry) → map event_of q ≡ map event_of p
    → map event_of (flush_for event_of (query_of x) q) ≡ map event_of (flush_for event_of (query_of x) p)
flush_alike x q p same = flush_on_events event_of (query_of x) q
    ∙ ap (flush_for itself (query_of x)) same ∙ sym (flush_on_events event_of (query_of x) p)

clock_alike : (d : Description) (past other : List Step) (client : ℕ) (clock : Clock) (now : ℕ)
    (q p : List Entry) → clock_of past client ≡ clock_of other client → map event_of q ≡ map event_of p
    → map event_of (left_by_call d past (ToClock client clock now) q) ≡ map event_of
    (left_by_call d other (ToClock client clock now) p)
clock_alike d past other client clock now q p clocks same =
    clock_on_events event_of (is_same_clock (clock_of past client) clock) (clock_entry d past clock now) q
    ∙ cc (clocks, same)
    ∙ sym (clock_on_events event_of (is_same_clock (clock_of other client) clock)
    (clock_entry d other clock now) p)

read_alike : (d : Description) (past other : List Step) (client count : ℕ) (q p : List Entry)
    → map event_of q ≡ map event_of p
    → map event_of (left_by_call d past (Read client count) q) ≡ map event_of
    (left_by_call d other (Read client count) p)
read_alike d past other client count q p same =
    rw (visible_alike q p same) (drop_events (min count (visible event_of p)) q p same)

discard_alike : (q p : List Entry) → map event_of q ≡ map event_of p
    → map event_of (drop (visible event_of q) q) ≡ map event_of (drop (visible event_of p) p)
discard_alike q p same = rw (visible_alike q p same) (drop_events (visible event_of p) q p same)

call_alike : (d : Description) (past other : List Step) (x : Step) (q p : List Entry) → ((client : ℕ)
    → clock_of past client ≡ clock_of other client) → map event_of q ≡ map event_of p
    → map event_of (left_by_call d past x q) ≡ map event_of (left_by_call d other x p)
call_alike d past other Open q p clocks same = refl
call_alike d past other (Read client count) q p clocks same = read_alike d past other client count q p same
call_alike d past other (Discard client) q p clocks same = discard_alike q p same
call_alike d past other (ToClock client clock now) q p clocks same =
    clock_alike d past other client clock now q p (clocks client) same
call_alike d past other x q p clocks same = flush_alike x q p same

if_events : (b : Bool) (q p : List Entry)
    → map event_of (if b then q else p) ≡ (if b then map event_of q else map event_of p)
if_events true q p = refl
if_events false q p = refl

-- a client's queue after a step
pub queue_more : (d : Description) (past other : List Step) (x : Step) (client : ℕ)
    → AreAlike d past other
    → map event_of (queue d (x ∷ past) client) ≡ map event_of (queue d (x ∷ other) client)
unfolding queue_with
queue_more d past other x client h =
    let q = queue d past client in
    let p = queue d other client in
    let left : map event_of (if is_call_of past client x then left_by_call d past x q else q) ≡ map
    event_of (if is_call_of other client x then left_by_call d other x p else p)
    = if_events (is_call_of past client x) (left_by_call d past x q) q
    ∙ cc (h.opened, call_alike d past other x q p h.clocks (h.queues client), h.queues client)
    ∙ sym (if_events (is_call_of other client x) (left_by_call d other x p) p) in
    put_on_events event_of entry_dropped_at (λ e. refl) (ring d)
    (if is_call_of past client x then left_by_call d past x q else q)
    (entries_with (eaten d) d client (frames_of_step d past x))
    ∙ cc (
      left,
      frames_alike d past other x client h (cuts_of_step d past x) (cuts_of_step d other x)
          (step_cuts d past other x h),
    )
    ∙ sym (put_on_events event_of entry_dropped_at (λ e. refl) (ring d)
    (if is_call_of other client x then left_by_call d other x p else p)
    (entries_with (eaten d) d client (frames_of_step d other x)))
