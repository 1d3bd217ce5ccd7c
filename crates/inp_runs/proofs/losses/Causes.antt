-- Each loss in a queue has its cause, since none comes in a frame.
use Rattle.std.proofs.Common.{◌≡◌, ◌⊎◌, ℕ, ℤ, Bool, true, false, if◌then◌else◌, List, [], ◌∷◌, ◌++◌, length}
use Rattle.std.proofs.Common.{map, filter, nat_le, refl, sym, subst, inl, inr, Option, Some, None}
use Rattle.std.proofs.Common.{option_to_list, option_map, ◌≤◌, ◌<◌, zero, suc, ◌*◌, ◌&&◌, ◌||◌, nat_eq}
use Rattle.std.proofs.Common.{nat_lt, min, ◌∙◌, arith, append_assoc, length-append, length-drop}
use Rattle.inp_model.specs.Description.{doubled, ring}
use Rattle.inp_model.specs.Past.{admits, is_call_of, is_opening, clock_of}
use Rattle.inp_model.specs.Left.{left}
use Rattle.inp_recon.proofs.Each.{Each-append, Each-weaker, Each-take, Each-drop}
use Rattle.inp_model.specs.Step.{Query, query_of, is_part_of, is_same}
use Rattle.inp_runs.proofs.Common.{cond_both, true≢false, eqb-true, Step, Description, eaten, Each, nat_tests}
use Rattle.inp_runs.proofs.Common.{client_of}
use Rattle.inp_model.specs.declared.event.Event.{Event}
use Rattle.inp_model.specs.RawItem.{RawItem, Occurred, Described, Cut}
use Rattle.inp_model.specs.Event.{is_report, slot_event}
use Rattle.inp_model.specs.State.{staged}
use Rattle.inp_model.specs.Passed.{passes_as, announces, announcement, passed, passed_for}
use Rattle.inp_model.specs.Cut.{pending, cut_for, cuts}
use Rattle.inp_model.specs.Frame.{frame_of, frames_of_step}
use Rattle.inp_model.specs.Queue.{Entry, event_of, entry, entries_of, entries, is_offered, entry_dropped_at}
use Rattle.inp_model.specs.Queue.{is_empty, ends_in_report, put, put_all, visible, flush_for, is_same_clock}
use Rattle.inp_model.specs.Queue.{clock_entry, clock_changed, left_by_call, queue, queue_with, taken_by, took}
use Rattle.inp_model.specs.Queue.{took_with}
use Rattle.inp_recon.specs.Synchronised.{is_dropped}
use Rattle.inp_recon.proofs.EventKinds.{of_reports, of_losses}
use Rattle.inp_recon.proofs.FrameEntries.{Each-left_from}
use Rattle.inp_recon.proofs.Cuts.{NoCut, OneCut, cut_cases}
use Rattle.std.specs.List.{slice_get}
use Rattle.inp_model.specs.declared.clock.Clock.{Clock}
use Rattle.inp_model.specs.declared.step.Step.TheVariants.{Open, Read, Clock as ToClock, Discard}
use Rattle.inp_model.specs.Raw.{raw, raw_of_step}
use Rattle.inp_model.proofs.Removal.{flush-length}
use Rattle.inp_recon.proofs.QueuedValues.{put_all-append, flush-each}
use Rattle.inp_runs.specs.LossCauses.{queue_before_frames, MeetsFullRing, ChangesClock, IsCausedAt, IsCaused}
use Rattle.inp_runs.specs.LossCauses.{AreQueuedCaused, AreTakenCaused}

abbrev pub IsNoLoss : Event → Type 0
IsNoLoss e = is_dropped e ≡ false

report-no_loss : (e : Event) → is_report e ≡ true → IsNoLoss e
report-no_loss = of_reports IsNoLoss (λ value. refl)

slot-no_loss : (b : Bool) (slot : ℤ) → Each IsNoLoss (if b then slot_event slot ∷ [] else [])
slot-no_loss true slot = (refl, tt)
slot-no_loss false slot = tt

value-no_loss : (o : Option ℤ) (e : Event) → IsNoLoss e
    → Each IsNoLoss (option_to_list (option_map (λ v. record e { value = v }) o))
value-no_loss None e h = tt
value-no_loss (Some v) e h = (h, tt)

module _ (d : Description) where
  passed-no_loss : (r : List RawItem) (e : Event) → Each IsNoLoss (passed d r e)
  passed-no_loss r e = by (is_dropped e) refl
    where
      by : (b : Bool) → is_dropped e ≡ b → Each IsNoLoss (passed d r e)
      by true h = of_losses (λ x. Each IsNoLoss (passed d r x)) (λ value. tt) e h
      by false h =
          Each-append IsNoLoss (announcement d r e) _ (slot-no_loss (announces d r e) (staged d r))
          (value-no_loss (passes_as d r e) e h)

  item-no_loss : (r : List RawItem) (x : RawItem) → Each IsNoLoss (passed_for d r x)
  item-no_loss r (Occurred e) = passed-no_loss r e
  item-no_loss r (Described code axis) = tt

  batch-no_loss : (r : List RawItem) (x : RawItem) → Each IsNoLoss (pending d r)
      → Each IsNoLoss (pending d r ++ passed_for d r x)
  batch-no_loss r x h = Each-append IsNoLoss (pending d r) (passed_for d r x) h (item-no_loss r x)

  pending-no_loss : (r : List RawItem) → Each IsNoLoss (pending d r)
  unfolding pending
  pending-no_loss [] = tt
  pending-no_loss (Described code axis ∷ r) = pending-no_loss r
  pending-no_loss (Occurred e ∷ r) =
      cond_both (is_report e) _ _ (Each IsNoLoss) (λ _. tt) (λ _.
      cond_both (nat_le d.hint (length (pending d r ++ passed d r e))) _ _ (Each IsNoLoss) (λ _. tt)
      (λ _. batch-no_loss r (Occurred e) (pending-no_loss r)))

  cut-no_loss : (r : List RawItem) (x : RawItem) → (h : OneCut d r x)
      → Each IsNoLoss (h.body ++ h.report ∷ [])
  cut-no_loss r x h = by h.same
    where
      by : (h.body ++ h.report ∷ [] ≡ pending d r ++ passed_for d r x)
          ⊎ (h.body ≡ pending d r ++ passed_for d r x) → Each IsNoLoss (h.body ++ h.report ∷ [])
      by (inl whole) = rw whole (batch-no_loss r x (pending-no_loss r))
      by (inr body) =
          Each-append IsNoLoss h.body (h.report ∷ []) (rw body (batch-no_loss r x (pending-no_loss r)))
          (report-no_loss h.report h.ends, tt)

  pub cuts-no_loss : (xs r : List RawItem) → Each (λ (c : Cut). Each IsNoLoss c.events) (cuts d r xs)
  unfolding cuts
  cuts-no_loss [] r = tt
  cuts-no_loss (x ∷ xs) r = by (cut_cases d r x) (cuts-no_loss xs (x ∷ r))
    where
      by : NoCut d r x ⊎ OneCut d r x → Each (λ (c : Cut). Each IsNoLoss c.events) (cuts d (x ∷ r) xs)
          → Each (λ (c : Cut). Each IsNoLoss c.events) (cut_for d r x ++ cuts d (x ∷ r) xs)
      by (inl h) ih = rw h.none ih
      by (inr h) ih = rw h.one (cut-no_loss r x h, ih)

-- an entry that comes with a step after this past: no loss, and placed there
pub record ComesAt (place : ℕ) (x : Entry) : Type 0 where
  pub no_loss : is_dropped (event_of x) ≡ false
  -- its place is that of the step, which is the length of the past
  pub at : x.taken.place ≡ place

module _ (d : Description) (client : ℕ) (past : List Step) (s : Step) where
  admitted-come : (c : Cut) (p : Event → Bool) (es : List Event) → Each IsNoLoss es
      → Each (ComesAt (length past)) (map (entry d client (frame_of past s c)) (filter p es))
  admitted-come c p [] h = tt
  admitted-come c p (e ∷ es) h =
      (cond_both (p e) _ _
      (λ x. Each (ComesAt (length past)) (map (entry d client (frame_of past s c)) (filter p es))
      → Each (ComesAt (length past)) (map (entry d client (frame_of past s c)) x))
      (λ _ rest. (record { no_loss = h.0; at = refl }, rest)) (λ _ rest. rest)) (admitted-come c p es h.1)

  pub entries-come : (cs : List Cut) → Each (λ (c : Cut). Each IsNoLoss c.events) cs
      → Each (ComesAt (length past)) (entries d client (map (frame_of past s) cs))
  entries-come [] h = tt
  entries-come (c ∷ cs) h =
      Each-append (ComesAt (length past)) (entries_of (eaten d) d client (frame_of past s c))
      (entries d client (map (frame_of past s) cs))
      (cond_both (is_offered past client) _ _ (Each (ComesAt (length past)))
      (λ _. admitted-come c (admits past client) (left (eaten d) (frame_of past s c))
      (Each-left_from IsNoLoss (eaten d (frame_of past s c)) 0 c.events h.0))
      (λ _. tt)) (entries-come cs h.1)

-- ---- a ring's places

doubled-least : (times enough n : ℕ) → n ≤ doubled times enough n
doubled-least zero enough n = omega arith
doubled-least (suc times) enough n =
    (cond_both (nat_le enough n) _ _ (λ x. 2 * n ≤ doubled times enough (2 * n) → n ≤ x)
    (λ _ h. omega arith) (λ _ h. omega (arith, h))) (doubled-least times enough (2 * n))

ring-places : (d : Description) → 64 ≤ ring d
ring-places d = doubled-least 6 (8 * d.hint) 64

-- the queue after one more item, by whether it is left out and whether there is room
abbrev put_by : Bool → Bool → List Entry → Entry → List Entry
put_by true fits q x = q
put_by false true q x = q ++ x ∷ []
put_by false false q x = entry_dropped_at x ∷ x ∷ []

abbrev is_left_out : List Entry → Entry → Bool
is_left_out q x = is_report (event_of x) && (is_empty q || ends_in_report event_of q)

put-by : (places : ℕ) (q : List Entry) (x : Entry)
    → put event_of entry_dropped_at places q x ≡ put_by (is_left_out q x) (nat_lt (suc (length q)) places) q x
put-by places q x = by (is_left_out q x) (nat_lt (suc (length q)) places)
  where
    by : (a b : Bool) → (if a then q else if b then q ++ x ∷ [] else entry_dropped_at x ∷ x ∷ [])
        ≡ put_by a b q x
    by true b = refl
    by false true = refl
    by false false = refl

put-room : (places : ℕ) (q : List Entry) (x : Entry) → 64 ≤ places → length q < places
    → length (put event_of entry_dropped_at places q x) < places
put-room places q x most room = rw put-by (by (is_left_out q x) (nat_lt (suc (length q)) places) refl)
  where
    by : (a b : Bool) → nat_lt (suc (length q)) places ≡ b → length (put_by a b q x) < places
    by true b h = room
    by false true h =
        let fits : suc (length q) < places = grind (arith, nat_tests) in
        omega (arith, length-append q (x ∷ []), fits)
    by false false h = omega (arith, most)

put_all-room : (places : ℕ) (q xs : List Entry) → 64 ≤ places → length q < places
    → length (put_all event_of entry_dropped_at places q xs) < places
put_all-room places q [] most room = room
put_all-room places q (x ∷ xs) most room =
    put_all-room places (put event_of entry_dropped_at places q x) xs most (put-room places q x most room)

flush_for-length : (o : Option Query) (q : List Entry) → length (flush_for event_of o q) ≤ length q
flush_for-length None q = omega arith
flush_for-length (Some query) q = flush-length event_of (is_part_of query) q

clock-room : (same : Bool) (e : Entry) (q : List Entry) (places : ℕ) → 64 ≤ places → length q < places
    → length (clock_changed same e q) < places
clock-room same e [] places most room = room
clock-room true e (x ∷ q) places most room = room
clock-room false e (x ∷ q) places most room = omega (arith, most)

call-room : (d : Description) (past : List Step) (x : Step) (q : List Entry) → length q < ring d
    → length (left_by_call d past x q) < ring d
call-room d past Open q room = omega (arith, room)
call-room d past (Read client count) q room =
    omega (arith, room, length-drop (min count (visible event_of q)) q)
call-room d past (Discard client) q room = omega (arith, room, length-drop (visible event_of q) q)
call-room d past (ToClock client clock now) q room =
    clock-room (is_same_clock (clock_of past client) clock) (clock_entry d past clock now) q (ring d)
    (ring-places d) room
call-room d past x q room = omega (arith, room, flush_for-length (query_of x) q)

before-room : (d : Description) (past : List Step) (client : ℕ) (x : Step)
    → length (queue d past client) < ring d → length (queue_before_frames d past client x) < ring d
before-room d past client x room =
    cond_both (is_call_of past client x) _ _ (λ y. length y < ring d)
    (λ _. call-room d past x (queue d past client) room) (λ _. room)

-- each call and each entry that comes leaves a queue shorter than its ring
pub queue-room : (d : Description) (past : List Step) (client : ℕ) → length (queue d past client) < ring d
unfolding queue_with
queue-room d [] client = omega (arith, ring-places d)
queue-room d (x ∷ past) client =
    put_all-room (ring d) (queue_before_frames d past client x) (entries d client (frames_of_step d past x))
    (ring-places d)
    (before-room d past client x (queue-room d past client))

-- ---- causes

abbrev pub AreCaused : Description → List Step → ℕ → List Entry → Type 0
AreCaused d past client q = Each (IsCaused d past client) q

flush_for-each : (G : Entry → Type 0) (o : Option Query) (q : List Entry) → Each G q
    → Each G (flush_for event_of o q)
flush_for-each G None q h = h
flush_for-each G (Some query) q h = flush-each G (is_part_of query) q h

module _ (d : Description) (past : List Step) (client : ℕ) where
  abbrev queued : List Entry
  queued = queue d past client

  -- a cause is one for each longer past too
  caused-later : (x : Step) (e : Entry) → IsCaused d past client e → IsCaused d (x ∷ past) client e
  caused-later x e h lost =
      let c = h lost in
      record {
        before = c.before;
        step = c.step;
        later = x ∷ c.later;
        whole = rw c.whole;
        at = c.at;
        cause = c.cause;
      }

  -- the newest step is the cause
  here : (place : ℕ) (x : Step) → place ≡ length past
      → MeetsFullRing d past client x ⊎ ChangesClock d past client x → IsCausedAt d (x ∷ past) client place
  here place x at cause = record { before = past; step = x; later = []; whole = refl; at = at; cause = cause }

  -- a change of clock
  clock-caused : (clock : Clock) (now : ℕ) (q : List Entry) → queued ≡ q → (same : Bool)
      → is_same_clock (clock_of past client) clock ≡ same
      → AreCaused d (ToClock client clock now ∷ past) client q
      → AreCaused d (ToClock client clock now ∷ past) client
      (clock_changed same (clock_entry d past clock now) q)
  clock-caused clock now [] is same e h = tt
  clock-caused clock now (y ∷ q) is true e h = h
  clock-caused clock now (y ∷ q) is false e h = (
    λ lost. here (length past) (ToClock client clock now) refl
        (inr (record { clock = clock; now = now; step = refl; other = e; queued = rw is })),
    tt,
  )

  own-caused : (x : Step) → is_same (client_of x) client ≡ true → AreCaused d (x ∷ past) client queued
      → AreCaused d (x ∷ past) client (left_by_call d past x queued)
  own-caused Open own h = tt
  own-caused (Read named count) own h =
      Each-drop (IsCaused d (Read named count ∷ past) client) (min count (visible event_of queued)) queued h
  own-caused (Discard named) own h =
      Each-drop (IsCaused d (Discard named ∷ past) client) (visible event_of queued) queued h
  own-caused (ToClock named clock now) own h =
      let same : named ≡ client = eqb-true named client own in
      subst (λ (n : ℕ). AreCaused d (ToClock n clock now ∷ past) client queued
      → AreCaused d (ToClock n clock now ∷ past) client
      (clock_changed (is_same_clock (clock_of past n) clock) (clock_entry d past clock now) queued))
      (sym same)
      (clock-caused clock now queued refl (is_same_clock (clock_of past client) clock) refl) h
  own-caused x own h = flush_for-each (IsCaused d (x ∷ past) client) (query_of x) queued h

  open-caused : (x : Step) → is_opening past client x ≡ true
      → AreCaused d (x ∷ past) client (left_by_call d past x queued)
  open-caused Open h = tt
  open-caused x h = absurd cc

  before-caused : (x : Step) → AreCaused d (x ∷ past) client queued
      → AreCaused d (x ∷ past) client (queue_before_frames d past client x)
  before-caused x h = by (is_opening past client x) refl (is_same (client_of x) client) refl
    where
      by : (a : Bool) → is_opening past client x ≡ a → (b : Bool) → is_same (client_of x) client ≡ b
          → AreCaused d (x ∷ past) client
          (if (if a then true else b) then left_by_call d past x queued else queued)
      by true e b k = open-caused x e
      by false e true k = own-caused x k h
      by false e false k = h

-- the entries that come, one after another
module _ (d : Description) (past : List Step) (client : ℕ) (x : Step) where
  abbrev base : List Entry
  base = queue_before_frames d past client x

  put-caused : (before : List Entry) (y : Entry) (behind : List Entry) (q : List Entry)
      → entries d client (frames_of_step d past x) ≡ before ++ y ∷ behind
      → q ≡ put_all event_of entry_dropped_at (ring d) base before
      → length q < ring d → ComesAt (length past) y → AreCaused d (x ∷ past) client q
      → AreCaused d (x ∷ past) client (put event_of entry_dropped_at (ring d) q y)
  put-caused before y behind q come is room at h =
      subst (AreCaused d (x ∷ past) client) (sym (put-by (ring d) q y))
      (by (is_left_out q y) (nat_lt (suc (length q)) (ring d)) refl)
    where
      fresh : IsCaused d (x ∷ past) client y
      fresh lost = absurd (true≢false (sym lost ∙ at.no_loss))

      by : (a b : Bool) → nat_lt (suc (length q)) (ring d) ≡ b
          → AreCaused d (x ∷ past) client (put_by a b q y)
      by true b e = h
      by false true e = Each-append (IsCaused d (x ∷ past) client) q (y ∷ []) h (fresh, tt)
      by false false e =
          let tight : suc (length q) ≡ ring d = grind (arith, nat_tests) in
          let full : suc (length (put_all event_of entry_dropped_at (ring d) base before)) ≡ ring d =
          rw (← is) tight in (
            λ lost. here d past client y.taken.place x at.at
                (inl (record { before = before; next = y; behind = behind; come = come; full = full })),
            (fresh, tt),
          )

  put_all-caused : (before behind : List Entry) (q : List Entry)
      → entries d client (frames_of_step d past x) ≡ before ++ behind
      → q ≡ put_all event_of entry_dropped_at (ring d) base before
      → length q < ring d → Each (ComesAt (length past)) behind → AreCaused d (x ∷ past) client q
      → AreCaused d (x ∷ past) client (put_all event_of entry_dropped_at (ring d) q behind)
  put_all-caused before [] q come is room at h = h
  put_all-caused before (y ∷ behind) q come is room at h =
      let next : List Entry = put event_of entry_dropped_at (ring d) q y in
      put_all-caused (before ++ y ∷ []) behind next
      (come ∙ sym (append_assoc before (y ∷ []) behind))
      (rw is (sym (put_all-append (ring d) base before (y ∷ []))))
      (put-room (ring d) q y (ring-places d) room)
      at.1
      (put-caused before y behind q come is room at.0 h)

pub queue-caused : (d : Description) (past : List Step) (client : ℕ)
    → AreCaused d past client (queue d past client)
unfolding queue_with
queue-caused d [] client = tt
queue-caused d (x ∷ past) client =
    let older : AreCaused d (x ∷ past) client (queue d past client) =
    Each-weaker (IsCaused d past client) (IsCaused d (x ∷ past) client) (caused-later d past client x)
    (queue d past client) (queue-caused d past client) in
    put_all-caused d past client x [] (entries d client (frames_of_step d past x))
    (queue_before_frames d past client x) refl refl
    (before-room d past client x (queue-room d past client))
    (entries-come d client past x _ (cuts-no_loss d (raw_of_step d past x) (raw d past)))
    (before-caused d past client x older)

taken-caused : (d : Description) (past : List Step) (client : ℕ) (x : Step)
    → AreCaused d (x ∷ past) client (queue d past client)
    → AreCaused d (x ∷ past) client (taken_by d past client x)
taken-caused d past client (Read named count) h =
    cond_both (nat_eq named client) _ _ (AreCaused d (Read named count ∷ past) client)
    (λ _. Each-take (IsCaused d (Read named count ∷ past) client)
    (min count (visible event_of (queue d past client))) (queue d past client) h)
    (λ _. tt)
taken-caused d past client x h = tt

pub took-caused : (d : Description) (past : List Step) (client : ℕ)
    → AreCaused d past client (took d past client)
unfolding took_with
took-caused d [] client = tt
took-caused d (x ∷ past) client =
    let queued : AreCaused d (x ∷ past) client (queue d past client) =
    Each-weaker (IsCaused d past client) (IsCaused d (x ∷ past) client) (caused-later d past client x)
    (queue d past client) (queue-caused d past client) in
    Each-append (IsCaused d (x ∷ past) client) (took d past client) (taken_by d past client x)
    (Each-weaker (IsCaused d past client) (IsCaused d (x ∷ past) client) (caused-later d past client x)
    (took d past client) (took-caused d past client))
    (taken-caused d past client x queued)

-- ---- by index

each-at : (P : Entry → Type 0) (xs : List Entry) (i : ℕ) (e : Entry) → Each P xs
    → slice_get xs i ≡ Some e → P e
each-at P [] i e h at = absurd cc
each-at P (x ∷ xs) zero e h at = let same : x ≡ e = cc in rw (← same) h.0
each-at P (x ∷ xs) (suc i) e h at = each-at P xs i e h.1 at

-- all losses in a queue have their causes, and so has the one at the index
pub queued-caused : AreQueuedCaused
queued-caused d past client i e at =
    each-at (IsCaused d past client) (queue d past client) i e (queue-caused d past client) at

-- all losses that a client took have their causes, and so has the one at the index
pub all_taken-caused : AreTakenCaused
all_taken-caused d past client i e at =
    each-at (IsCaused d past client) (took d past client) i e (took-caused d past client) at
