-- What a step adds to a past: raw events, frames and entries, and where their places lie; and what it leaves
-- in a queue.
use Rattle.std.proofs.Common.{◌≡◌, ◌⊎◌, ◌<◌, ◌≤◌, ℕ, suc, Bool, true, false, if◌then◌else◌, nat_eq, List, []}
use Rattle.std.proofs.Common.{◌∷◌, ◌++◌, length, map, drop, refl, Some, None, inl, inr, arith}
use Rattle.inp_model.specs.declared.event.Event.{Event}
use Rattle.inp_model.specs.declared.step.Step.{Step}
use Rattle.inp_model.specs.declared.step.Step.TheVariants.{Open, Discard}
use Rattle.inp_model.specs.RawItem.{RawItem, Cut, Frame}
use Rattle.inp_model.specs.Description.{Description, ring}
use Rattle.inp_model.specs.Step.{is_close_of, is_revoke_of, is_part_of}
use Rattle.inp_model.specs.Past.{opens, is_opening, is_open, is_revoked}
use Rattle.inp_model.specs.Cut.{raw_after, cuts}
use Rattle.inp_model.specs.Raw.{raw, raw_and_timer, raw_of_step}
use Rattle.inp_model.specs.Frame.{place, frame_of, frames_of_step}
use Rattle.inp_model.specs.Left.{Eats}
use Rattle.inp_model.specs.Queue.{Entry, event_of, visible, flush, entry, entries_of, entries_with}
use Rattle.inp_model.specs.Queue.{queue_with, is_offered}
use Rattle.inp_recon.specs.Synchronised.{is_dropped, is_start, is_query_of, sync_place}
use Rattle.inp_recon.proofs.Each.{Each, Each-append, Each-weaker, Each-drop}
use Rattle.inp_recon.proofs.QueuedValues.{KeepsLosses, put_all-each, flush-each}
use Rattle.inp_recon.proofs.Cuts.{over_items}
use Rattle.inp_recon.proofs.CallsLeft.{LeftBy, ByRead, ByLoss, ByFlush, ByNone, left_by, left_in_queue}
use Rattle.inp_recon.proofs.FrameEntries.{Receives}
use Rattle.inp_recon.proofs.FrameSteps.{frames_by, offered_to}
use Rattle.std.proofs.Math.Bool.{or-false}
use Rattle.std.proofs.lemmas.Bool.{cases_Bool, or_parts, or_right, cond_both}
use Rattle.inp_recon.specs.Undisturbed.{frames_since_start}

pub raw-step : (d : Description) (past : List Step) (x : Step)
    → raw d (x ∷ past) ≡ raw_after (raw d past) (raw_of_step d past x)
unfolding raw raw_and_timer raw_of_step
raw-step d past x = refl

pub queue-step : (eats : Eats) (d : Description) (past : List Step) (client : ℕ) (x : Step)
    → queue_with eats d (x ∷ past) client ≡ offered_to eats d client (left_in_queue eats d past client x)
    (frames_of_step d past x)
unfolding queue_with
queue-step eats d past client x = refl

-- ---- a client's last start and last query, and whether it receives frames

still_open : (opening closing before : Bool) → opening ≡ false
    → (if opening then true else if closing then false else before) ≡ true → before ≡ true
still_open opening closing before h k = grind arith

not_yet_revoked : (revoking before : Bool) → (if revoking then true else before) ≡ false → before ≡ false
not_yet_revoked revoking before h = grind arith

module _ (past : List Step) (client : ℕ) (x : Step) where
  pub sync-same : is_start past client x ≡ false → is_query_of client x ≡ false
      → sync_place (x ∷ past) client ≡ sync_place past client
  unfolding sync_place
  sync-same h k = rw (h, k)

  pub sync-query : is_query_of client x ≡ true → sync_place (x ∷ past) client ≡ length past
  unfolding sync_place
  sync-query h = rw or_right

  -- a client that receives frames did so before the step
  pub receives-before : is_start past client x ≡ false → Receives (x ∷ past) client → Receives past client
  unfolding is_open is_revoked
  receives-before start h = record {
    is_there =
        still_open (is_opening past client x) (is_close_of client x) (is_open past client)
        (or_parts _ _ start).0 h.is_there;
    unrevoked = not_yet_revoked (is_revoke_of client x) (is_revoked past client) h.unrevoked;
  }

-- the frames since the last start
pub since-step : (d : Description) (past : List Step) (client : ℕ) (x : Step) → is_start past client x ≡ false
    → frames_since_start d (x ∷ past) client ≡ frames_since_start d past client ++ frames_of_step d past x
unfolding frames_since_start
since-step d past client x h = rw h

-- ---- what a step leaves in the queue

module _ (eats : Eats) (d : Description) (past : List Step) (client : ℕ) where
  abbrev queue : List Entry
  queue = queue_with eats d past client

  abbrev left : Step → List Entry
  left x = left_in_queue eats d past client x

  -- a start leaves nothing, or what a reader could not read
  pub start_left : (x : Step) → is_start past client x ≡ true
      → (left x ≡ []) ⊎ (left x ≡ drop (visible event_of queue) queue)
  start_left Open h = inl (let own : nat_eq (opens past) client ≡ true = rw or-false at h in rw own)
  start_left (Discard reader) h = inr (rw h)
  start_left x h = absurd cc

  -- what holds of no entries, of the queue, of its ends, of a loss alone and of a flushed queue holds of
  -- what a step leaves
  pub left-holds : (P : List Entry → Type 0) (x : Step) → P [] → P queue → ((n : ℕ) → P (drop n queue))
      → ((e : Entry) → is_dropped (event_of e) ≡ true → e.frame ≡ None → P (e ∷ []))
      → ((drops : Event → Bool) → KeepsLosses drops → P (flush event_of drops queue)) → P (left x)
  left-holds P x none same rest lost flushed = elim (cases_Bool (is_start past client x)) [
    | inl start ↦ elim (start_left x start) [ inl e ↦ rw e none | inr e ↦ rw e (rest _) ]
    | inr start ↦ at_call _ (left_by eats d past client x start)
  ]
    where
      at_call : (taken : List Entry) → LeftBy x client queue taken (left x) → P (left x)
      at_call taken (ByRead n t e) = rw e (rest n)
      at_call taken (ByLoss entry is frame t e) = rw e (lost entry is frame)
      at_call taken (ByFlush query asked own kind keeps t e) = rw e (flushed (is_part_of query) keeps)
      at_call taken (ByNone t e) = rw e same

  -- what holds of each entry of a queue, and of a loss, holds of those that a step leaves there
  pub left-each : (G : Entry → Type 0) → ((e : Entry) → is_dropped (event_of e) ≡ true → e.frame ≡ None → G e)
      → (x : Step) → Each G queue → Each G (left x)
  left-each G loss x h =
      left-holds (Each G) x tt h (λ n. Each-drop G n queue h) (λ e is frame. (loss e is frame, tt))
      (λ drops keeps. flush-each G drops queue h)

-- ---- each queued entry was entered before the past's end

abbrev pub IsPlacedBelow : ℕ → Entry → Type 0
IsPlacedBelow n x = (f : Frame) → x.frame ≡ Some f → place f < n

pub entries-each : (G : Entry → Type 0) (eats : Eats) (d : Description) (client : ℕ) (past : List Step)
    (s : Step) → ((c : Cut) (e : Event) → G (entry d client (frame_of past s c) e)) → (cs : List Cut)
    → Each G (entries_with eats d client (map (frame_of past s) cs))
entries-each G eats d client past s h [] = tt
entries-each G eats d client past s h (c ∷ cs) =
    Each-append G (entries_of eats d client (frame_of past s c))
    (entries_with eats d client (map (frame_of past s) cs)) (by (is_offered past client) _)
    (entries-each G eats d client past s h cs)
  where
    by : (b : Bool) (es : List Event) → Each G (if b then map (entry d client (frame_of past s c)) es else [])
    by true [] = tt
    by true (e ∷ es) = (h c e, by true es)
    by false es = tt

pub queue-placed : (eats : Eats) (d : Description) (past : List Step) (client : ℕ)
    → Each (IsPlacedBelow (length past)) (queue_with eats d past client)
unfolding queue_with
queue-placed eats d [] client = tt
queue-placed eats d (x ∷ past) client =
    let G : Entry → Type 0 = IsPlacedBelow (suc (length past)) in
    let old =
    Each-weaker (IsPlacedBelow (length past)) G
    (λ e k f i. (let m : place f < length past = k f i in omega arith)) (queue_with eats d past client)
    (queue-placed eats d past client) in
    rw (queue-step eats d past client x)
    (put_all-each G (λ e k. k) (ring d) (left_in_queue eats d past client x) _
    (left-each eats d past client G (λ e loss none f k. absurd cc) x old)
    (entries-each G eats d client past x
    (λ c e f k. (let is : frame_of past x c ≡ f = cc in rw (← is) (omega arith)))
    (cuts d (raw d past) (raw_of_step d past x))))

-- ---- frames in order

abbrev pub IsEndedWithin : ℕ → Frame → Type 0
IsEndedWithin n f = length f.cut.until ≤ n

pub raw_after-longer : (r xs : List RawItem) → length r ≤ length (raw_after r xs)
raw_after-longer r [] = omega arith
raw_after-longer r (x ∷ xs) = omega (arith, raw_after-longer (x ∷ r) xs)

frames_by-within : (d : Description) (past : List Step) (s : Step) (xs r : List RawItem)
    → Each (IsEndedWithin (length (raw_after r xs))) (frames_by d past s r xs)
frames_by-within d past s =
    over_items d (λ r xs cs. Each (IsEndedWithin (length (raw_after r xs))) (map (frame_of past s) cs))
    (λ r. tt) (λ r x xs cs h ih. ih)
    (λ r x xs cs h ih. (raw_after-longer (x ∷ r) xs, ih))

pub since-within : (d : Description) (past : List Step) (client : ℕ)
    → Each (IsEndedWithin (length (raw d past))) (frames_since_start d past client)
unfolding frames_since_start
since-within d [] client = tt
since-within d (x ∷ past) client =
    let xs : List RawItem = raw_of_step d past x in
    let n : ℕ = length (raw_after (raw d past) xs) in
    let longer : length (raw d past) ≤ n = raw_after-longer (raw d past) xs in
    let old =
    Each-weaker (IsEndedWithin (length (raw d past))) (IsEndedWithin n) (λ f k. omega arith)
    (frames_since_start d past client) (since-within d past client) in
    cond_both (is_start past client x) _ _ (Each (IsEndedWithin (length (raw d (x ∷ past))))) (λ _. tt)
    (λ _. rw (raw-step d past x)
    (Each-append (IsEndedWithin n) (frames_since_start d past client) (frames_of_step d past x) old
    (frames_by-within d past x xs (raw d past))))
