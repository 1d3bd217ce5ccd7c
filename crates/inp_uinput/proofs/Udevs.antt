-- What a call leaves of a device made by requests.
use Rattle.std.proofs.Common.{◌≡◌, ℕ, ◌≤◌, ◌<◌, Bool, true, false, if◌then◌else◌, List, [], ◌∷◌, ◌++◌, length}
use Rattle.std.proofs.Common.{take, drop, reverse, sym, ap, ◌∙◌, subst, arith, ℤ, Option, option_to_list, ◌-◌}
use Rattle.std.proofs.Common.{refl, Some, None, ◌+◌, map, get_or, append_assoc}
use Rattle.std.specs.Prelude.{nat_le, min}
use Rattle.std.specs.Bool.{then_some}
use Rattle.std.proofs.lemmas.List.{reverse-append, length-take, take_min, append-nil, length-drop, take_more}
use Rattle.std.proofs.lemmas.List.{get_or-take}
use Rattle.std.proofs.lemmas.Bool.{le-leb, lt-leb}
use Rattle.circular_buffer.specs.Buffer.{buffer, Buffer, keep_last}
use Rattle.inp_model.specs.declared.event.Event.{Event}
use Rattle.inp_model.specs.declared.taken.Taken.{Taken}
use Rattle.inp_model.specs.declared.step.Step.{Step}
use Rattle.inp_model.specs.declared.reply.Reply.{Reply}
use Rattle.inp_model.specs.Description.{Description}
use Rattle.inp_model.specs.DeviceView.{DeviceView}
use Rattle.inp_model.specs.History.{IsHistory}
use Rattle.inp_model.specs.Reply.{is_accepted, past_after, written, IsDeviceStep}
use Rattle.inp_feedback.specs.declared.u_entry.UEntry.{UEntry}
use Rattle.inp_feedback.specs.declared.u_entry.UEntry.TheVariants.{Made, Feedback}
use Rattle.inp_feedback.specs.declared.fed.Fed.TheVariants.{Took, Full}
use Rattle.inp_feedback.specs.declared.fed.TheConstants.{FEEDBACK_MAX}
use Rattle.inp_feedback.specs.declared.feedback_call.FeedbackCall.{FeedbackCall}
use Rattle.inp_feedback.specs.UEntry.{steps_in, kept_after_step, kept_after_events}
use Rattle.inp_feedback.specs.Sent.{sent_at_step}
use Rattle.inp_uinput.specs.UdevView.{UdevView}
use Rattle.inp_feedback.specs.Feedback.{feedback_queue, is_full_of_feedback, taken_by_feedback, fed}
use Rattle.inp_feedback.specs.Feedback.{kept_after_feedback}
use Rattle.inp_feedback.specs.KeptList.{kept_of, StandsWithin}
use Rattle.inp_uinput.specs.KeptBeside.{with_sent, IsKeptBeside}
use Rattle.inp_feedback.proofs.Lists.{steps_in-kept_of, feedback_count-kept_of, kept_of-nothing, kept_of-made}
use Rattle.inp_feedback.proofs.Lists.{kept_of-fed, within-more, reverse-cons}
use Rattle.inp_model.specs.declared.stamped.Stamped.{Stamped}
use Rattle.inp_model.specs.Injection.{inject_of}
use Rattle.inp_device.specs.Device.{goes_out}
use Rattle.inp_device.proofs.Injection.{no_stamped}
use Rattle.inp_uinput.proofs.SentEvents.{some_if, sends}

-- What waits for the owner

-- The queue has 15 events at most

length-keep_last : (n : ℕ) (xs : List Event) → length (keep_last n xs) ≤ n
length-keep_last n xs = omega (arith, length-drop (length xs - n) xs)

-- a step keeps the last 15 events at most, and a feedback call only takes some away
pub queue_within : (d : Description) (kept : List UEntry) → length (feedback_queue d kept) ≤ FEEDBACK_MAX
unfolding feedback_queue
queue_within d [] = omega arith
queue_within d (Made x ∷ kept) =
    length-keep_last FEEDBACK_MAX (feedback_queue d kept ++ sent_at_step d (steps_in kept) x)
queue_within d (Feedback count ∷ kept) =
    omega (arith, queue_within d kept, length-drop count (feedback_queue d kept))

-- After a step

keep_last-few : (n : ℕ) (xs : List Event) → length xs ≤ n → keep_last n xs ≡ xs
keep_last-few n xs h = let none : length xs - n ≡ 0 = omega arith in rw none

queue-made : (d : Description) (kept : List UEntry) (x : Step) (es : List Event)
    → es ≡ sent_at_step d (steps_in kept) x
    → keep_last FEEDBACK_MAX (feedback_queue d kept ++ es) ≡ feedback_queue d (Made x ∷ kept)
unfolding feedback_queue
queue-made d kept x es h = rw h

pub waits_made : (d : Description) (kept : List UEntry) (x : Step) (sent : Option Event) (old : Buffer Event)
    → old ≡ buffer (feedback_queue d kept) FEEDBACK_MAX
    → option_to_list sent ≡ sent_at_step d (steps_in kept) x
    → with_sent sent old ≡ buffer (feedback_queue d (Made x ∷ kept)) FEEDBACK_MAX
waits_made d kept x None old is sends =
    let queue : List Event = feedback_queue d kept in
    rw (
      is,
      ← keep_last-few FEEDBACK_MAX queue (queue_within d kept),
      ← append-nil queue,
      queue-made d kept x [] sends,
    )
waits_made d kept x (Some e) old is sends = rw (is, queue-made d kept x (e ∷ []) sends)

-- After a feedback call

pub waits_fed : (d : Description) (kept : List UEntry) (count : ℕ) (old : Buffer Event)
    → old ≡ buffer (feedback_queue d kept) FEEDBACK_MAX
    → buffer (drop count old.items) old.capacity
    ≡ buffer (feedback_queue d (Feedback count ∷ kept)) FEEDBACK_MAX
unfolding feedback_queue
waits_fed d kept count old is = rw is

-- Of a device that keeps nothing

pub waits_first : (d : Description) → buffer [] FEEDBACK_MAX ≡ buffer (feedback_queue d []) FEEDBACK_MAX
unfolding feedback_queue
waits_first d = refl

-- A step

-- what a device did to its past, over the steps of a kept list
pub step_over : (d : Description) (past new : List Step) (calls : List FeedbackCall) (x : Step)
    (reply : Reply) (out new_out : List Taken) (cells new_cells : List ℤ)
    → IsDeviceStep d past x reply out new_out cells new_cells new
    → IsDeviceStep d (steps_in (kept_of past calls)) x reply out new_out cells new_cells
    (steps_in (kept_of new calls))
step_over d past new calls x reply out new_out cells new_cells s =
    rw (steps_in-kept_of past calls, steps_in-kept_of new calls) s

-- the steps of the kept list are the device's own past
pub history_over : (d : Description) (past : List Step) (calls : List FeedbackCall) → IsHistory d past
    → IsHistory d (steps_in (kept_of past calls))
history_over d past calls h = subst (IsHistory d) (sym (steps_in-kept_of past calls)) h

kept_by : (past new : List Step) (calls : List FeedbackCall) (x : Step) (b : Bool)
    → StandsWithin (length past) calls → new ≡ (if b then x ∷ past else past)
    → kept_of new calls ≡ (if b then Made x ∷ kept_of past calls else kept_of past calls)
kept_by past new calls x true within e = rw e (kept_of-made past calls x within)
kept_by past new calls x false within e = rw e

-- an accepted step is the newest entry, and the feedback calls stay where they stood
pub step_kept : (past new : List Step) (calls : List FeedbackCall) (x : Step) (reply : Reply)
    → StandsWithin (length past) calls → new ≡ past_after reply x past
    → kept_of new calls ≡ kept_after_step reply x (kept_of past calls)
step_kept past new calls x reply within e = kept_by past new calls x (is_accepted reply) within e

-- What is kept beside the steps

-- the description and the past are the same ones
pub beside_same : (d new_d : Description) (past new : List Step) (calls : List FeedbackCall) (capacity : ℕ)
    (w : Buffer Event) → new_d ≡ d → new ≡ past → IsKeptBeside d past calls capacity w
    → IsKeptBeside new_d new calls capacity w
beside_same d new_d past new calls capacity w same e k = rw (same, e) k

-- the event that the step sent waits behind the others, and no feedback call was made
pub beside_made : (d : Description) (past : List Step) (calls : List FeedbackCall) (capacity : ℕ) (x : Step)
    (sent : Option Event) (old lent after : Buffer Event)
    → IsKeptBeside d past calls capacity old → lent ≡ old
    → option_to_list sent ≡ sent_at_step d past x → after ≡ with_sent sent lent
    → IsKeptBeside d (x ∷ past) calls capacity after
beside_made d past calls capacity x sent old lent after k is sends keeps =
    let kept : List UEntry = kept_of past calls in
    let sent_here : option_to_list sent ≡ sent_at_step d (steps_in kept) x =
    rw (steps_in-kept_of past calls, ← sends) in
    record {
      waits =
          rw (
            keeps,
            is,
            waits_made d kept x sent old k.waits sent_here,
            ← kept_of-made past calls x k.within,
          );
      within = within-more (length past) calls k.within;
      few = k.few;
      room = k.room;
    }

-- Where the device entered an event

-- a device and its feedback calls, as a contract sees them
abbrev over : DeviceView → List FeedbackCall → UdevView
over v calls = record { description = v.description; kept = kept_of v.past calls; agains = v.agains }

-- the step is the newest entry, and all else stays as it was
pub view_entered : (old new : DeviceView) (calls : List FeedbackCall) (x : Step)
    → StandsWithin (length old.past) calls
    → (let now : DeviceView = record old { past = x ∷ old.past } in new ≡ now)
    → over new calls ≡ record (over old calls) { kept = Made x ∷ kept_of old.past calls }
view_entered old new calls x within is =
    ap (λ (v : DeviceView). over v calls) is
    ∙ ap (λ (kept : List UEntry). record (over old calls) { kept = kept })
    (kept_of-made old.past calls x within)

-- the event waits for the owner if it goes to the device, and no feedback call was made
pub beside_entered : (old new : DeviceView) (calls : List FeedbackCall) (capacity : ℕ) (stamped : Stamped)
    (goes : Bool) (waiting lent after : Buffer Event)
    → IsKeptBeside old.description old.past calls capacity waiting
    → (let now : DeviceView = record old { past = inject_of stamped ∷ old.past } in new ≡ now)
    → goes ≡ goes_out old.description old.past stamped.event → lent ≡ waiting
    → after ≡ with_sent (then_some goes stamped.event) lent
    → IsKeptBeside new.description new.past calls capacity after
beside_entered old new calls capacity stamped goes waiting lent after k is out lends keeps =
    let x : Step = inject_of stamped in
    let sent : option_to_list (then_some goes stamped.event) ≡ sent_at_step old.description old.past x =
    ap option_to_list (some_if goes stamped.event) ∙ sends old.description old.past x goes out in
    beside_same old.description new.description (x ∷ old.past) new.past calls capacity after
    (ap (λ (v : DeviceView). v.description) is)
    (ap (λ (v : DeviceView). v.past) is)
    (beside_made old.description old.past calls capacity x (then_some goes stamped.event) waiting lent after k
    lends sent keeps)

-- A feedback call

module _ (d : Description) (past : List Step) (calls : List FeedbackCall) (room : ℕ) where
  abbrev kept : List UEntry
  kept = kept_of past calls

  abbrev queue : List Event
  queue = feedback_queue d kept

  -- where as many calls are kept as may be

  -- as many calls are kept as the limit allows
  pub at_limit : d.log_limit ≤ length calls → is_full_of_feedback d kept ≡ true
  at_limit h =
      ap (nat_le d.log_limit) (feedback_count-kept_of past calls) ∙ le-leb d.log_limit (length calls) h

  -- the call is refused as full, at the history's length
  pub full_answer : is_full_of_feedback d kept ≡ true → Full (length past) ≡ fed d kept room
  full_answer full = rw (full, steps_in-kept_of past calls)

  -- a refused call takes no event
  pub full_taken : is_full_of_feedback d kept ≡ true → taken_by_feedback d kept room ≡ []
  full_taken full = rw full

  -- a refused call is not kept
  pub full_kept : is_full_of_feedback d kept ≡ true → kept ≡ kept_after_feedback d kept room
  full_kept full = rw full

  -- where there is room for a call

  -- fewer calls are kept than the limit allows
  pub below_limit : length calls < d.log_limit → is_full_of_feedback d kept ≡ false
  below_limit h =
      ap (nat_le d.log_limit) (feedback_count-kept_of past calls) ∙ lt-leb d.log_limit (length calls) h

  -- the call takes the first events that wait, up to its room
  pub taken_some : is_full_of_feedback d kept ≡ false → taken_by_feedback d kept room ≡ take room queue
  taken_some some = rw some

  -- it takes as many events as wait, or as many as it has room for
  pub taken_count : (count : ℕ) → is_full_of_feedback d kept ≡ false → count ≡ min room (length queue)
      → count ≡ length (taken_by_feedback d kept room)
  taken_count count some is = is ∙ sym (ap length (taken_some some) ∙ length-take room queue)

  -- the answer has the history's length and how many events were taken
  pub some_answer : (count : ℕ) → is_full_of_feedback d kept ≡ false → count ≡ min room (length queue)
      → Took (length past) count ≡ fed d kept room
  some_answer count some is = cc (steps_in-kept_of past calls, taken_count count some is, some)

  -- the events that were taken are the first ones in the caller's buffer, and the rest of it stays
  pub some_written : (count : ℕ) (out : List Event) → is_full_of_feedback d kept ≡ false
      → count ≡ min room (length queue)
      → take count queue ++ drop count out ≡ written (taken_by_feedback d kept room) out
  some_written count out some is =
      rw (← taken_count count some is, taken_some some, ← take_min room queue, ← is)

  -- the call is the newest entry, since it comes after all steps so far
  pub some_kept : (call : FeedbackCall) → is_full_of_feedback d kept ≡ false → call.at ≡ length past
      → call.count ≡ min room (length queue) → kept_of past (call ∷ calls) ≡ kept_after_feedback d kept room
  some_kept call some at is = cc (kept_of-fed past calls call at, taken_count call.count some is, some)

-- the calls, newest first
pub calls_pushed : (calls : List FeedbackCall) (call : FeedbackCall)
    → call ∷ reverse calls ≡ reverse (calls ++ call ∷ [])
calls_pushed calls call = sym (reverse-append calls (call ∷ []))

-- the taken events wait no longer, and the call is kept after all steps so far
pub beside_fed : (d : Description) (past : List Step) (calls : List FeedbackCall) (call : FeedbackCall)
    (capacity wider : ℕ) (old : Buffer Event) → IsKeptBeside d past calls capacity old → call.at ≡ length past
    → length calls < d.log_limit → capacity ≤ wider
    → IsKeptBeside d past (call ∷ calls) wider (buffer (drop call.count old.items) old.capacity)
beside_fed d past calls call capacity wider old k at few wide = record {
  waits = rw (waits_fed d (kept_of past calls) call.count old k.waits, ← kept_of-fed past calls call at);
  within = omega (arith, at);
  few = omega (arith, few);
  room = omega (arith, k.room, wide);
}

-- A device that keeps nothing

-- no step and no call was made yet, so nothing waits
pub first_beside : (caps d : Description) (past : List Step) (agains : ℕ) (calls : List FeedbackCall)
    (capacity : ℕ) (made w : Buffer Event)
    → (let device : DeviceView = record { description = d; past = past; agains = agains } in
    device ≡ record { description = caps; past = []; agains = 0 })
    → calls ≡ [] → caps.log_limit ≤ capacity → made ≡ buffer [] FEEDBACK_MAX → w ≡ made
    → IsKeptBeside d past (reverse calls) capacity w
first_beside caps d past agains calls capacity made w device none room fresh is =
    subst (λ (v : DeviceView). IsKeptBeside v.description v.past (reverse calls) capacity w) (sym device)
    (subst (λ (calls : List FeedbackCall). IsKeptBeside caps [] (reverse calls) capacity w)
    (sym none) (record {
      waits = rw (is, fresh, waits_first caps, ← kept_of-nothing);
      within = tt;
      few = omega arith;
      room = room;
    }))

-- no step and no call was made yet, so the kept list is empty
pub first_view : (caps d : Description) (past : List Step) (agains : ℕ) (calls : List FeedbackCall)
    → (let device : DeviceView = record { description = d; past = past; agains = agains } in
    device ≡ record { description = caps; past = []; agains = 0 })
    → calls ≡ []
    → (let given : UdevView =
    record { description = d; kept = kept_of past (reverse calls); agains = agains } in
    given ≡ record { description = caps; kept = []; agains = 0 })
first_view caps d past agains calls device none =
    ap (λ (v : DeviceView). record {
      description = v.description;
      kept = kept_of v.past (reverse calls);
      agains = v.agains;
    }) device
    ∙ ap (λ (calls : List FeedbackCall).
    record { description = caps; kept = kept_of [] (reverse calls); agains = 0 }) none
    ∙ ap (λ (kept : List UEntry). record { description = caps; kept = kept; agains = 0 }) kept_of-nothing

-- Events that are injected by one call, one after another

-- one event more
pub kept-event : (events : List Stamped) (stamped : Stamped) (kept : List UEntry)
    → kept_after_events (events ++ stamped ∷ []) kept ≡ Made (inject_of stamped)
    ∷ kept_after_events events kept
kept-event [] stamped kept = refl
kept-event (first ∷ events) stamped kept = kept-event events stamped (Made (inject_of first) ∷ kept)

-- oldest first, the events come behind what was kept before
pub reverse-kept : (events : List Stamped) (kept : List UEntry)
    → reverse (kept_after_events events kept) ≡ reverse kept
    ++ map (λ stamped. Made (inject_of stamped)) events
reverse-kept [] kept = sym (append-nil (reverse kept))
reverse-kept (stamped ∷ events) kept =
    let e : UEntry = Made (inject_of stamped) in
    let rest : List UEntry = map (λ stamped. Made (inject_of stamped)) events in
    rw (reverse-kept events (e ∷ kept), reverse-cons kept e) (append_assoc (reverse kept) (e ∷ []) rest)

-- the history of the steps
pub events_entered : (events : List Stamped) (kept : List UEntry)
    → reverse (steps_in (kept_after_events events kept)) ≡ reverse (steps_in kept) ++ map inject_of events
events_entered [] kept = sym (append-nil (reverse (steps_in kept)))
events_entered (stamped ∷ events) kept =
    rw (
      events_entered events (Made (inject_of stamped) ∷ kept),
      reverse-cons (steps_in kept) (inject_of stamped),
    )
    (append_assoc (reverse (steps_in kept)) (inject_of stamped ∷ []) (map inject_of events))

-- Events that are entered one after another

steps_long : (events : List Stamped) (kept : List UEntry)
    → length (steps_in (kept_after_events events kept)) ≡ length (steps_in kept) + length events
steps_long [] kept = omega arith
steps_long (stamped ∷ events) kept = omega (arith, steps_long events (Made (inject_of stamped) ∷ kept))

-- A device after so many of these events, which it had not yet when it was the first one.
pub record HasKept (first : UdevView) (events : List Stamped) (count : ℕ) (u : UdevView) : Type 0 where
  -- the device is the first one with so many of the events as its newest entries
  pub kept : u ≡ record first { kept = kept_after_events (take count events) first.kept }
  -- each step that it keeps was accepted
  pub accepted : IsHistory u.description (steps_in u.kept)

-- one of those for which there is room
pub kept-room : (first : UdevView) (events : List Stamped) (most count : ℕ) (u : UdevView)
    → HasKept first events count u
    → most ≡ min (length events) (first.description.log_limit - length (steps_in first.kept))
    → count < length (take most events) → length (steps_in u.kept) < u.description.log_limit
kept-room first events most count u h is below =
    let few : count < most = omega (arith, below, length-take most events) in
    let taken : length (take count events) ≡ count = omega (arith, length-take count events, few, is) in
    let long : length (steps_in u.kept) ≡ length (steps_in first.kept) + length (take count events) =
    rw h.kept (steps_long (take count events) first.kept) in
    let limit : u.description.log_limit ≡ first.description.log_limit = rw h.kept in
    omega (arith, few, is, taken, long, limit)

-- the next event is one entry more, after those that were entered
pub kept-more : (first : UdevView) (events : List Stamped) (most count : ℕ) (u new : UdevView)
    (stamped : Stamped) → HasKept first events count u → count < length (take most events)
    → stamped ≡ get_or (take most events) count no_stamped
    → new ≡ record u { kept = Made (inject_of stamped) ∷ u.kept }
    → IsHistory new.description (steps_in new.kept) → HasKept first events (count + 1) new
kept-more first events most count u new stamped h below is made accepted =
    let few : count < most = omega (arith, below, length-take most events) in
    let within : count < length events = omega (arith, below, length-take most events) in
    let item : stamped ≡ get_or events count no_stamped = is ∙ get_or-take most events count no_stamped few in
    let more : Made (inject_of stamped) ∷ kept_after_events (take count events) first.kept
    ≡ kept_after_events (take (count + 1) events) first.kept =
    sym (rw (take_more events count no_stamped within)
    (kept-event (take count events) (get_or events count no_stamped) first.kept)
    ∙ ap (λ (s : Stamped). Made (inject_of s)
    ∷ kept_after_events (take count events) first.kept) (sym item)) in
    record {
      kept = rw (made, h.kept, more);
      accepted = accepted;
    }
