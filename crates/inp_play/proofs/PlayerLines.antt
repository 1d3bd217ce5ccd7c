-- A line that an actor does on its device is one of a play.
use Rattle.std.proofs.Common.{◌≡◌, ℕ, inl, inr, true, false, if◌then◌else◌, min, List, ◌∷◌, length, Option}
use Rattle.std.proofs.Common.{Some, None, refl, sym, ap, subst, ◌∙◌, length-set, get_or}
use Rattle.std.specs.Prelude.{map, slice_get, slice_set, option_map}
use Rattle.std.proofs.lemmas.List.{map-set, length-map}
use Rattle.std.proofs.lemmas.Option.{slice_get-map, slice_get_read, same_Some}
use Rattle.std.proofs.lemmas.Bool.{cond_both}
use Rattle.inp_script.specs.DoneLine.{IsLineOf}
use Rattle.inp_script.proofs.Common.{Stamped, Step, Description, ActorText, DeviceText, Line, Command, Role}
use Rattle.inp_script.proofs.Common.{Source, RecordView, IsRecord, UEntry, steps_in, Job, ActorView}
use Rattle.inp_script.proofs.Common.{is_command_of, is_owner, feedback_room, FEEDBACK_MAX, Talk, talk_with}
use Rattle.inp_script.proofs.Common.{HasActor, Holds, unless_stopped, line_talk, inject_talk, stream_talk}
use Rattle.inp_model.proofs.Leaves.{description-kept}
use Rattle.inp_actors.specs.declared.command.Command.TheVariants.{Feedback as ToFeed}
use Rattle.inp_feedback.specs.declared.u_entry.UEntry.TheVariants.{Feedback}
use Rattle.inp_feedback.specs.declared.feedback_call.FeedbackCall.{FeedbackCall}
use Rattle.inp_feedback.specs.declared.fed.Fed.TheVariants.{Took, Full}
use Rattle.inp_feedback.specs.Feedback.{is_full_of_feedback, taken_by_feedback, fed, kept_after_feedback}
use Rattle.inp_feedback.specs.KeptList.{calls_in}
use Rattle.inp_feedback.proofs.Few.{room-enough, room-enough-taken, room-enough-kept}
use Rattle.inp_feedback.proofs.Woven.{kept-woven}
use Rattle.inp_uinput.specs.UdevView.{UdevView, device_of, owned_view}
use Rattle.inp_uinput.specs.OwnedFeeds.{IsFeedbackOf}
use Rattle.inp_uinput.proofs.Tied.{untied-calls, tied-calls}
use Rattle.inp_script.specs.ActorLine.{ActsLine}
use Rattle.inp_script.specs.Owner.{OwnerState, after_feedback, FeedsUnless, FeedsLine}
use Rattle.inp_runs.specs.Play.{feedback_calls_after, after_talk, unless_owner_stopped, after_line_of}
use Rattle.inp_play.specs.Player.{pasts_of, feedback_calls_of}
use Rattle.inp_play.proofs.Common.{Stage, after_line, after_lines, stage_with, HasDevices, HasActors}
use Rattle.inp_runs.specs.EventLines.{inject_line}
use Rattle.inp_play.proofs.Common.{Stop}
use Rattle.inp_runs.proofs.order.Alone.{device-alone}
use Rattle.inp_runs.proofs.Lists.{map-set_same, slice_get-set}
use Rattle.inp_runs.proofs.order.LineDone.{set_same}
use Rattle.inp_play.proofs.RunLines.{line-finds, injects-lines}
use Rattle.inp_runs.proofs.memory.Memory.{GivesUp, gives_up-line, gives_up-stream}

-- Lists

-- at one place of a list stands one item
pub same_item : {A : Type 0} (xs : List A) (i : ℕ) (x y : A) → slice_get xs i ≡ Some x
    → slice_get xs i ≡ Some y → x ≡ y
same_item xs i x y h k = same_Some x y (sym h ∙ k)

-- What a line finds

-- the line of a number, its actor's text, the actor, and its device
pub record IsFound (r : RecordView) (devices : List UdevView) (actors : List ActorView) (number : ℕ)
    (line : Line) (text : ActorText) (a : ActorView) (device : UdevView) : Type 0 where
  -- the devices have the descriptions of the record's
  pub has_devices : HasDevices r devices
  -- the actors are the record's, in order
  pub has_actors : HasActors r actors
  -- the record's line of that number
  pub is_line : slice_get r.lines number ≡ Some line
  -- the text of the actor that the line names
  pub is_text : slice_get r.actors line.actor ≡ Some text
  -- the actor stands at the number that the line names
  pub is_actor : slice_get actors line.actor ≡ Some a
  -- the device stands at the number that the text names
  pub is_device : slice_get devices text.device ≡ Some device

-- the devices' descriptions are the record's, so there are as many
pub length-devices : (r : RecordView) (devices : List UdevView) → HasDevices r devices
    → length devices ≡ length r.devices
length-devices r devices has =
    sym (length-map devices (λ (d : UdevView). d.description)) ∙ ap length has
    ∙ length-map r.devices (λ (t : DeviceText). t.caps)

-- the numbers in a record are all within its lists, so what was looked up is there
pub found : (r : RecordView) (devices : List UdevView) (actors : List ActorView) (number : ℕ) (line : Line)
    (text : ActorText) (a : ActorView) (device : UdevView) → IsRecord r → HasDevices r devices
    → HasActors r actors → slice_get r.lines number ≡ Some line → slice_get r.actors line.actor ≡ Some text
    → a ≡ get_or actors line.actor a → device ≡ get_or devices text.device device
    → IsFound r devices actors number line text a device
found r devices actors number line text a device keeps has_devices has_actors is_line is_text here there =
    let few : length devices ≡ length r.devices = length-devices r devices has_devices in
    record {
      has_devices = has_devices;
      has_actors = has_actors;
      is_line = is_line;
      is_text = is_text;
      is_actor =
          slice_get_read actors (length r.actors) line.actor a (sym has_actors.count)
          (keeps.actors number line is_line) here;
      is_device =
          slice_get_read devices (length r.devices) text.device device (sym few)
          (keeps.devices line.actor text is_text) there;
    }

-- an actor stands at its own number, so the line names it
pub found-line : (r : RecordView) (devices : List UdevView) (actors : List ActorView) (number : ℕ)
    (line : Line) (text : ActorText) (a : ActorView) (device : UdevView)
    → IsFound r devices actors number line text a device → IsLineOf r number a.actor
found-line r devices actors number line text a device f =
    record { line = line; is_line = f.is_line; is_actor = sym (f.has_actors.each line.actor a f.is_actor).0 }

-- the actor's own text is that one
own_text : (r : RecordView) (devices : List UdevView) (actors : List ActorView) (number : ℕ) (line : Line)
    (text : ActorText) (a : ActorView) (device : UdevView)
    → (f : IsFound r devices actors number line text a device)
    → (f.has_actors.each line.actor a f.is_actor).1.text ≡ text
own_text r devices actors number line text a device f =
    let e = f.has_actors.each line.actor a f.is_actor in
    same_item r.actors line.actor e.1.text text (ap (slice_get r.actors) (sym e.0) ∙ e.1.is_text) f.is_text

-- the device stands at the number that the actor's own text names
pub found-description : (r : RecordView) (devices : List UdevView) (actors : List ActorView) (number : ℕ)
    (line : Line) (text : ActorText) (a : ActorView) (device : UdevView)
    → IsFound r devices actors number line text a device → device.description ≡ a.description
found-description r devices actors number line text a device f =
    let e = f.has_actors.each line.actor a f.is_actor in
    let there : slice_get r.devices text.device ≡ Some e.1.device =
    rw (← own_text r devices actors number line text a device f) e.1.is_device in
    let mine : slice_get (map (λ (d : UdevView). d.description) devices) text.device
    ≡ Some device.description = slice_get-map (λ (d : UdevView). d.description) devices text.device
    ∙ ap (option_map (λ (d : UdevView). d.description)) f.is_device in
    let its : slice_get (map (λ (t : DeviceText). t.caps) r.devices) text.device ≡ Some e.1.device.caps =
    slice_get-map (λ (t : DeviceText). t.caps) r.devices text.device
    ∙ ap (option_map (λ (t : DeviceText). t.caps)) there in
    same_Some device.description e.1.device.caps (rw (← mine, f.has_devices) its) ∙ e.1.description

-- the text that was found is the actor's own
pub found-same_role : (r : RecordView) (devices : List UdevView) (actors : List ActorView) (number : ℕ)
    (line : Line) (text : ActorText) (a : ActorView) (device : UdevView)
    → IsFound r devices actors number line text a device → text.role ≡ a.role
found-same_role r devices actors number line text a device f =
    rw (← own_text r devices actors number line text a device f)
    ((f.has_actors.each line.actor a f.is_actor).1.role)

found-role : (r : RecordView) (devices : List UdevView) (actors : List ActorView) (number : ℕ) (line : Line)
    (text : ActorText) (a : ActorView) (device : UdevView) → IsRecord r
    → IsFound r devices actors number line text a device → is_command_of a.role line.command ≡ true
found-role r devices actors number line text a device keeps f =
    rw (← found-same_role r devices actors number line text a device f)
    (keeps.commands number line text f.is_line f.is_text)

-- A line that was done

past_at : (r : RecordView) (devices : List UdevView) (actors : List ActorView) (number : ℕ) (line : Line)
    (text : ActorText) (a : ActorView) (device : UdevView)
    → IsFound r devices actors number line text a device
    → slice_get (pasts_of devices) text.device ≡ Some (steps_in device.kept)
past_at r devices actors number line text a device f =
    slice_get-map (λ (d : UdevView). steps_in d.kept) devices text.device
    ∙ ap (option_map (λ (d : UdevView). steps_in d.kept)) f.is_device

calls_at : (r : RecordView) (devices : List UdevView) (actors : List ActorView) (number : ℕ) (line : Line)
    (text : ActorText) (a : ActorView) (device : UdevView)
    → IsFound r devices actors number line text a device
    → slice_get (feedback_calls_of devices) text.device ≡ Some (calls_in device.kept)
calls_at r devices actors number line text a device f =
    slice_get-map (λ (d : UdevView). calls_in d.kept) devices text.device
    ∙ ap (option_map (λ (d : UdevView). calls_in d.kept)) f.is_device

stage_after : (r : RecordView) (n : ℕ) (devices : List UdevView) (actors : List ActorView) (number : ℕ)
    (line : Line) (text : ActorText) (a : ActorView) (device : UdevView)
    → IsFound r devices actors number line text a device
    → after_line r n (stage_with devices actors) line
    ≡ after_line_of r n (stage_with devices actors) line text.device a (steps_in device.kept)
stage_after r n devices actors number line text a device f =
    line-finds r n (stage_with devices actors) line text a (steps_in device.kept) f.is_text f.is_actor
    (past_at r devices actors number line text a device f)

-- A line of calls of an evdev

-- what a talk with its device leaves, whose calls these were
talk_does : (r : RecordView) (devices : List UdevView) (actors : List ActorView) (number : ℕ) (line : Line)
    (text : ActorText) (a : ActorView) (device after : UdevView) (talk : Talk (Option Job)) (new : Job)
    → IsFound r devices actors number line text a device → GivesUp talk
    → Holds (owned_view device) (owned_view after) talk (Some new)
    → after_talk (stage_with devices actors) text.device a
    (talk_with a.description (steps_in device.kept) talk)
    ≡ Some (stage_with (slice_set devices text.device after)
    (slice_set actors line.actor (record a { job = new })))
talk_does r devices actors number line text a device after talk new f gives_up holds =
    let s : Stage = stage_with devices actors in
    let past : List Step = steps_in device.kept in
    let now : List Step = steps_in after.kept in
    let done : talk_with device.description past talk ≡ (Some new, now) =
    device-alone (device_of device) (device_of after) talk holds.calls new gives_up holds.talk_ends
    (untied-calls device after holds.calls holds.are_calls) in
    let its : talk_with a.description past talk ≡ (Some new, now) =
    rw (← found-description r devices actors number line text a device f) done in
    let place : a.actor ≡ line.actor = (f.has_actors.each line.actor a f.is_actor).0 in
    let calls : feedback_calls_of (slice_set devices text.device after) ≡ s.calls = map-set_same
    (λ (d : UdevView). calls_in d.kept) devices text.device device after f.is_device
    (tied-calls device after holds.calls holds.are_calls) in
    rw (its, place, ← map-set (λ (d : UdevView). steps_in d.kept) devices text.device after, ← calls)

line_does : (r : RecordView) (devices : List UdevView) (actors : List ActorView) (number : ℕ) (line : Line)
    (text : ActorText) (a : ActorView) (device after : UdevView) (n : ℕ) (new : Job) → IsRecord r
    → IsFound r devices actors number line text a device → feedback_room line.command ≡ None
    → Holds (owned_view device) (owned_view after)
    (line_talk a.role a.description r.streams None n line.command a.job) (Some new)
    → after_line r n (stage_with devices actors) line
    ≡ Some (stage_with (slice_set devices text.device after)
    (slice_set actors line.actor (record a { job = new })))
line_does r devices actors number line text a device after n new keeps f no_room holds =
    let s : Stage = stage_with devices actors in
    let past : List Step = steps_in device.kept in
    let talk : Talk (Option Job) = line_talk a.role a.description r.streams None n line.command a.job in
    rw (stage_after r n devices actors number line text a device f, no_room)
    (talk_does r devices actors number line text a device after talk new f
    (gives_up-line a.role a.description r.streams None n line.command a.job
    (found-role r devices actors number line text a device keeps f)) holds)

-- Lines that inject events of one source

gives_up-inject : (events : List Stamped) (j : Job) → GivesUp (inject_talk events j)
gives_up-inject events j =
    elim j.stop as (λ stop. GivesUp (unless_stopped stop j (stream_talk events j)))
    [ None ↦ gives_up-stream events j | Some stop ↦ tt ]

-- the lines leave what the talk of all their events leaves, whose calls were made
pub inject_does : (r : RecordView) (devices : List UdevView) (actors : List ActorView) (number : ℕ)
    (line : Line) (text : ActorText) (a : ActorView) (device after : UdevView) (events : List Stamped)
    (new : Job) → IsFound r devices actors number line text a device → a.role ≡ Source
    → Holds (owned_view device) (owned_view after) (inject_talk events a.job) (Some new)
    → after_lines r 0 (stage_with devices actors) (map (inject_line line.actor) events)
    ≡ Some (stage_with (slice_set devices text.device after)
    (slice_set actors line.actor (record a { job = new })))
inject_does r devices actors number line text a device after events new f source holds =
    injects-lines r 0 line.actor text f.is_text events (stage_with devices actors) a (steps_in device.kept)
    (record {
      role = source;
      place = (f.has_actors.each line.actor a f.is_actor).0;
      is_actor = f.is_actor;
      is_past = past_at r devices actors number line text a device f;
    })
    ∙ talk_does r devices actors number line text a device after (inject_talk events a.job) new f
    (gives_up-inject events a.job) holds

-- A line of a feedback call

-- what it leaves of a device is what the device keeps of its steps, and of its calls
steps_kept : (d : Description) (kept : List UEntry) (room : ℕ)
    → steps_in (kept_after_feedback d kept room) ≡ steps_in kept
steps_kept d kept room =
    cond_both (is_full_of_feedback d kept) _ _ (λ x. steps_in x ≡ steps_in kept) (λ _. refl) (λ _. refl)

calls_kept : (d : Description) (kept : List UEntry) (room : ℕ)
    → calls_in (kept_after_feedback d kept room) ≡ feedback_calls_after (fed d kept room) (calls_in kept)
calls_kept d kept room =
    let at : ℕ = length (steps_in kept) in
    let count : ℕ = length (taken_by_feedback d kept room) in
    elim (is_full_of_feedback d kept) as (λ b.
    calls_in (if b then kept else Feedback count ∷ kept)
    ≡ feedback_calls_after (if b then Full at else Took at count) (calls_in kept)) [
      | true ↦ refl
      | false ↦ refl
    ]

-- What a line of an owner leaves, by whether it had stopped. A call with room for so many events, but for
-- no more than ever wait, is one with room for so many.
feed_leaves : (devices : List UdevView) (actors : List ActorView) (i number : ℕ) (a : ActorView)
    (device after : UdevView) (count : ℕ) (new : OwnerState) (stop : Option Stop)
    → slice_get devices i ≡ Some device → slice_get actors number ≡ Some a → a.actor ≡ number
    → device.description ≡ a.description
    → FeedsUnless IsFeedbackOf stop device after (min count FEEDBACK_MAX) a.owning new
    → unless_owner_stopped stop (stage_with devices actors) i a count (steps_in device.kept)
    (calls_in device.kept) ≡ stage_with (slice_set devices i after)
    (slice_set actors number (record a { owning = new }))
feed_leaves devices actors i number a device after count new None is_device is_actor place description h =
    let s : Stage = stage_with devices actors in
    let d : Description = device.description in
    let kept : List UEntry = device.kept in
    let f : IsFeedbackOf device after (min count FEEDBACK_MAX) h.answer h.events = h.fed in
    let noted : new ≡ after_feedback (fed d kept count) (taken_by_feedback d kept count) a.owning =
    rw (h.noted, f.answered, room-enough d kept count, f.taken, room-enough-taken d kept count) in
    let left_is : after.kept ≡ kept_after_feedback d kept count = rw f.kept (room-enough-kept d kept count) in
    let steps : steps_in after.kept ≡ steps_in kept = ap steps_in left_is ∙ steps_kept d kept count in
    let calls : feedback_calls_after (fed d kept count) (calls_in kept) ≡ calls_in after.kept =
    sym (ap calls_in left_is ∙ calls_kept d kept count) in
    let told : Description → List UEntry → OwnerState =
    λ e es. after_feedback (fed e es count) (taken_by_feedback e es count) a.owning in
    let left : Description → List UEntry → Stage =
    λ e es. record s {
      calls = slice_set s.calls i (feedback_calls_after (fed e es count) (calls_in kept));
      actors = slice_set s.actors a.actor (record a { owning = told e es });
    } in
    rw (
      kept-woven kept,
      ← description,
      calls,
      ← noted,
      place,
      ← map-set (λ (v : UdevView). calls_in v.kept) devices i after,
      ← map-set_same (λ (v : UdevView). steps_in v.kept) devices i device after is_device steps,
    )
feed_leaves devices actors i number a device after count new
    (Some stop) is_device is_actor place description h =
    sym (
    rw (h.0, h.1, set_same devices i device is_device, set_same actors number a is_actor)
    )

feed_does : (r : RecordView) (devices : List UdevView) (actors : List ActorView) (number : ℕ) (line : Line)
    (text : ActorText) (a : ActorView) (device after : UdevView) (count : ℕ) (new : OwnerState)
    → IsFound r devices actors number line text a device → feedback_room line.command ≡ Some count
    → FeedsLine IsFeedbackOf device after (min count FEEDBACK_MAX) a.owning new
    → after_line r 0 (stage_with devices actors) line
    ≡ Some (stage_with (slice_set devices text.device after)
    (slice_set actors line.actor (record a { owning = new })))
feed_does r devices actors number line text a device after count new f is_room does =
    let s : Stage = stage_with devices actors in
    let past : List Step = steps_in device.kept in
    let calls : List FeedbackCall = calls_in device.kept in
    let talked : Option Stage =
    after_talk s text.device a
    (talk_with a.description past (line_talk a.role a.description r.streams None 0 line.command a.job)) in
    rw (
      stage_after r 0 devices actors number line text a device f,
      is_room,
      calls_at r devices actors number line text a device f,
      feed_leaves devices actors text.device line.actor a device after count new a.owning.stop f.is_device
          f.is_actor (f.has_actors.each line.actor a f.is_actor).0
          (found-description r devices actors number line text a device f) does,
    )

-- A line of any actor

-- only owners make feedback calls
no-call : (role : Role) (command : Command) → is_command_of role command ≡ true → is_owner role ≡ false
    → feedback_room command ≡ None
no-call role (ToFeed count) h caller = absurd (let both : true ≡ false = sym h ∙ caller in cc)
no-call role _ h caller = refl

-- an owner's line is a feedback call, and any other actor's the talk whose calls were made
pub act_does : (r : RecordView) (devices : List UdevView) (actors : List ActorView) (number : ℕ) (line : Line)
    (text : ActorText) (a b : ActorView) (device after : UdevView) → IsRecord r
    → IsFound r devices actors number line text a device
    → ActsLine owned_view IsFeedbackOf device after r None a line b
    → (rounds : ℕ)
    × (after_line r rounds (stage_with devices actors) line
    ≡ Some (stage_with (slice_set devices text.device after) (slice_set actors line.actor b)))
act_does r devices actors number line text a b device after keeps f (inl o) = (
  0,
  rw (
    feed_does r devices actors number line text a device after o.room b.owning f o.is_room
        o.fed,
    ← o.actor,
  ),
)
act_does r devices actors number line text a b device after keeps f (inr c) = (
  c.rounds,
  rw (
    line_does r devices actors number line text a device after c.rounds b.job keeps f
        (no-call a.role line.command (found-role r devices actors number line text a device keeps f) c.caller)
        c.holds,
    ← c.actor,
  ),
)

-- it is still the same device
pub act_described : (r : RecordView) (line : Line) (a b : ActorView) (device after : UdevView)
    → ActsLine owned_view IsFeedbackOf device after r None a line b → after.description ≡ device.description
act_described r line a b device after (inr c) =
    description-kept (owned_view device) (owned_view after) c.holds.calls c.holds.are_calls
act_described r line a b device after (inl o) =
    (elim a.owning.stop as (λ stop.
    FeedsUnless IsFeedbackOf stop device after (min o.room FEEDBACK_MAX) a.owning b.owning
    → after.description ≡ device.description) [
      | None ↦ λ h. (let f : IsFeedbackOf device after (min o.room FEEDBACK_MAX) h.answer h.events =
          h.fed in rw f.kept)
      | Some stop ↦ λ h. rw h.0
    ]) o.fed

-- The devices and the actors are still the record's

-- the device that was changed has the description that it had
pub devices_stay : (r : RecordView) (devices : List UdevView) (i : ℕ) (device after : UdevView)
    → HasDevices r devices → slice_get devices i ≡ Some device → after.description ≡ device.description
    → HasDevices r (slice_set devices i after)
devices_stay r devices i device after has there same = map-set_same
    (λ (d : UdevView). d.description) devices i device after there same ∙ has

-- the actor that was changed has the number, role and description that it had
pub actors_stay : (r : RecordView) (actors : List ActorView) (i : ℕ) (a : ActorView) (job : Job)
    (owning : OwnerState) → HasActors r actors → slice_get actors i ≡ Some a
    → HasActors r (slice_set actors i (record a { job = job; owning = owning }))
actors_stay r actors i a job owning has there = record {
  count = length-set actors i (record a { job = job; owning = owning }) ∙ has.count;
  each = λ k b h.
      let old = has.each i a there in
      elim (slice_get-set actors i k a (record a { job = job; owning = owning }) b there h) [
        | inl e ↦
            let mine : HasActor r (record a { job = job; owning = owning }) =
            record {
              text = old.1.text;
              device = old.1.device;
              is_text = old.1.is_text;
              role = old.1.role;
              is_device = old.1.is_device;
              description = old.1.description;
            } in
            (rw (e.1, old.0) (sym e.0), subst (HasActor r) (sym e.1) mine)
        | inr e ↦ has.each k b e.1
      ];
}
