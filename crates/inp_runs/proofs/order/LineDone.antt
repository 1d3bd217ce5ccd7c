-- What a line of a record changes: the past of its device, the feedback calls that the device keeps, and its
-- actor.
use Rattle.std.proofs.Common.{◌≡◌, ℕ, zero, suc, true, List, [], ◌∷◌, ◌++◌, refl, sym, ◌∙◌, append-nil}
use Rattle.std.proofs.Common.{Option, Some, None}
use Rattle.std.proofs.lemmas.Option.{option_and_then_some}
use Rattle.inp_runs.proofs.Common.{slice_set, option_map, Stamped, Step, Description, Call, ActorText}
use Rattle.inp_runs.proofs.Common.{Command, Feedback, Line, Role, Owner, is_command_of, feedback_room}
use Rattle.inp_runs.proofs.Common.{RecordView, Talk, finish, EndsWith, Sight, Stop, Job, ActorView}
use Rattle.inp_runs.proofs.Common.{sight_of_calls, OwnerState, Stage}
use Rattle.std.specs.Prelude.{slice_get}
use Rattle.inp_feedback.specs.declared.feedback_call.FeedbackCall.{FeedbackCall}
use Rattle.inp_feedback.specs.declared.u_entry.UEntry.{UEntry}
use Rattle.inp_feedback.specs.Feedback.{fed}
use Rattle.inp_feedback.specs.KeptList.{kept_of}
use Rattle.inp_reader.specs.Talk.{LeadsTo, talk_with, calls_with}
use Rattle.inp_script.specs.DoneLine.{line_talk}
use Rattle.inp_runs.specs.Play.{after_line, after_talk, unless_owner_stopped, by_command, after_line_of}
use Rattle.inp_runs.proofs.order.Calls.{AreExact, talk_with-ends, talk_with-exact, exact-answered}
use Rattle.inp_runs.proofs.memory.ReaderTalks.{leaves-ends}
use Rattle.inp_runs.proofs.memory.LineTalks.{IsKept, IsKeptIfSome, leaves-line}
use Rattle.inp_runs.proofs.Lists.{IsImage, option_map-some}
use Rattle.inp_runs.proofs.JobEnds.{owner-role}
use Rattle.inp_runs.proofs.owners.OwnerLaws.{owning_behind}
use Rattle.inp_runs.proofs.owners.OwnerTalks.{stopped-nothing}
use Rattle.inp_runs.specs.Play.{feedback_calls_after}

-- An owner that did not stop made its feedback call on a device that kept these steps and calls; one that
-- stopped did nothing.
abbrev pub IsFedUnless : Option Stop → Stage → Stage → ℕ → ActorView → ℕ → List Step → List FeedbackCall
    → OwnerState → Type 0
IsFedUnless None stage now device a room past calls owning =
    let kept = kept_of past calls in
    (now.calls ≡ slice_set stage.calls device (feedback_calls_after (fed a.description kept room) calls))
    × (owning ≡ owning_behind a.description kept room a.owning)
IsFedUnless (Some stop) stage now device a room past calls owning =
    (now.calls ≡ stage.calls) × (owning ≡ a.owning)

-- what a line leaves of the feedback calls and of what its actor keeps as an owner, by whether it is a
-- feedback call
abbrev pub IsFedWhereAsked : Option ℕ → Stage → Stage → ℕ → ActorView → List Step → OwnerState → Type 0
IsFedWhereAsked None stage now device a past owning = (now.calls ≡ stage.calls) × (owning ≡ a.owning)
IsFedWhereAsked (Some room) stage now device a past owning =
    (calls : List FeedbackCall) × (slice_get stage.calls device ≡ Some calls)
    × IsFedUnless a.owning.stop stage now device a room past calls owning

-- An actor did a line on its device, after this past and up to the other one.
pub record IsLinePlayed (r : RecordView) (rounds : ℕ) (stage now : Stage) (line : Line) : Type 0 where
  -- the record's text of the actor
  pub text : ActorText
  -- it stands in the record at the number of the line's actor
  pub is_text : slice_get r.actors line.actor ≡ Some text
  -- the actor before the line
  pub actor : ActorView
  -- it stands at its number before the line
  pub is_actor : slice_get stage.actors line.actor ≡ Some actor
  -- the steps of its device before the line, newest first
  pub past : List Step
  -- they stand at the device's number before the line
  pub is_past : slice_get stage.pasts text.device ≡ Some past
  -- the actor's job behind the line
  pub job : Job
  -- what the actor was told as an owner, behind the line
  pub owning : OwnerState
  -- the steps of its device behind the line, newest first
  pub after : List Step
  -- the calls that the line made
  pub calls : List Call
  -- by these calls the line's talk ends in the job
  pub ends : EndsWith (line_talk actor.role actor.description r.streams None rounds line.command actor.job)
      calls (Some job)
  -- the device answered each of them, from the one past on to the other
  pub exact : AreExact actor.description past after calls
  -- a sight that told of all calls still does, and a view of the device's size is still so
  pub kept : (entries : List Sight) → IsKept actor.description actor.job entries
      → IsKept actor.description job (entries ++ sight_of_calls calls)
  -- no other device's past changed
  pub pasts : now.pasts ≡ slice_set stage.pasts text.device after
  -- no other actor changed
  pub actors : now.actors ≡ slice_set stage.actors actor.actor (record actor { job = job; owning = owning })
  -- what its feedback call, if it made one, leaves of the kept calls and tells its owner
  pub is_fed : IsFedWhereAsked (feedback_room line.command) stage now text.device actor past owning

-- the line's actor behind it
abbrev pub actor_behind : {r : RecordView} {rounds : ℕ} {stage now : Stage} {line : Line}
    → IsLinePlayed r rounds stage now line → ActorView
actor_behind u = record u.actor { job = u.job; owning = u.owning }

-- The actor of a feedback call's line stands at its number, and its role has the command.
abbrev pub MayDo : RecordView → Stage → Line → Type 0
MayDo r stage line =
    (room : ℕ) (text : ActorText) (a : ActorView) (past : List Step)
    → feedback_room line.command ≡ Some room
    → slice_get r.actors line.actor ≡ Some text → slice_get stage.actors line.actor ≡ Some a
    → slice_get stage.pasts text.device ≡ Some past
    → (a.actor ≡ line.actor) × (is_command_of a.role line.command ≡ true)

-- a line of a talk

-- a line of a feedback call

-- only owners make feedback calls
pub feedback-of : (role : Role) (command : Command) (room : ℕ) → feedback_room command ≡ Some room
    → is_command_of role command ≡ true → role ≡ Owner
feedback-of role (Feedback count) room is h = owner-role role h
feedback-of role _ room is h = absurd cc

-- an owner does nothing of a job
owner-talk : (role : Role) (d : Description) (streams : List (List Stamped)) (n : ℕ) (command : Command)
    (j : Job) → role ≡ Owner → line_talk role d streams None n command j ≡ finish (Some j)
unfolding line_talk
owner-talk role d streams n command j is = rw is (stopped-nothing j.stop j)

-- an element that is set to itself leaves the list as it was
pub set_same : {X : Type 0} (xs : List X) (i : ℕ) (x : X) → slice_get xs i ≡ Some x → slice_set xs i x ≡ xs
set_same [] i x h = refl
set_same (y ∷ xs) zero x h = let same : y ≡ x = cc in rw (← same)
set_same (y ∷ xs) (suc i) x h = rw (set_same xs i x h)

-- what it leaves, by whether its owner had stopped
record IsCallDone (stage now : Stage) (device : ℕ) (a : ActorView) (room : ℕ) (past : List Step)
    (calls : List FeedbackCall) : Type 0 where
  owning : OwnerState
  pasts : now.pasts ≡ stage.pasts
  actors : now.actors ≡ slice_set stage.actors a.actor (record a { owning = owning })
  is_fed : IsFedUnless a.owning.stop stage now device a room past calls owning

call-done : (stage now : Stage) (device : ℕ) (a : ActorView) (room : ℕ) (past : List Step)
    (calls : List FeedbackCall) → slice_get stage.actors a.actor ≡ Some a
    → unless_owner_stopped a.owning.stop stage device a room past calls ≡ now
    → IsCallDone stage now device a room past calls
call-done stage now device a room past calls is_actor h = by_stop a.owning.stop refl h
  where
    kept : List UEntry
    kept = kept_of past calls

    told : OwnerState
    told = owning_behind a.description kept room a.owning

    by_stop : (stop : Option Stop) → a.owning.stop ≡ stop
        → unless_owner_stopped stop stage device a room past calls ≡ now
        → IsCallDone stage now device a room past calls
    by_stop None e is = record {
      owning = told;
      pasts = rw (← is);
      actors = rw (← is);
      is_fed = rw e (rw (← is), refl);
    }
    by_stop (Some stop) e is = record {
      owning = a.owning;
      pasts = rw (← is);
      actors = rw (← is) (sym (set_same stage.actors a.actor a is_actor));
      is_fed = rw e (rw (← is), refl);
    }

nothing-said : (r : RecordView) (rounds : ℕ) (line : Line) (a : ActorView) → a.role ≡ Owner
    → EndsWith (line_talk a.role a.description r.streams None rounds line.command a.job) [] (Some a.job)
unfolding LeadsTo
nothing-said r rounds line a role = owner-talk a.role a.description r.streams rounds line.command a.job role

module _ (r : RecordView) (rounds : ℕ) (stage now : Stage) (line : Line) (text : ActorText) (a : ActorView)
    (past : List Step) (is_text : slice_get r.actors line.actor ≡ Some text)
    (is_actor : slice_get stage.actors line.actor ≡ Some a)
    (is_past : slice_get stage.pasts text.device ≡ Some past) where
  talked : feedback_room line.command ≡ None
      → after_talk stage text.device a
      (talk_with a.description past (line_talk a.role a.description r.streams None rounds line.command a.job))
      ≡ Some now → IsLinePlayed r rounds stage now line
  talked no_room h =
      let d : Description = a.description in
      let talk : Talk (Option Job) = line_talk a.role d r.streams None rounds line.command a.job in
      let done : Option Job × List Step = talk_with d past talk in
      let stage_with : Job → Stage =
      λ job. record {
        pasts = slice_set stage.pasts text.device done.1;
        calls = stage.calls;
        actors = slice_set stage.actors a.actor (record a { job = job });
      } in
      let image : IsImage stage_with done.0 now = option_map-some stage_with done.0 now h in
      record {
        text = text;
        is_text = is_text;
        actor = a;
        is_actor = is_actor;
        past = past;
        is_past = is_past;
        job = image.from;
        owning = a.owning;
        after = done.1;
        calls = calls_with d past talk;
        ends = rw image.is at (talk_with-ends d past talk);
        exact = talk_with-exact d past talk;
        kept = λ entries k. rw image.is at
            (leaves-ends d (IsKeptIfSome d) entries talk (calls_with d past talk) done.0
            (exact-answered d past done.1 (calls_with d past talk) (talk_with-exact d past talk))
            (talk_with-ends d past talk)
            (leaves-line a.role d r.streams rounds line.command a.job entries k));
        pasts = rw (← image.same);
        actors = simp (← image.same);
        is_fed = rw no_room (rw (← image.same), refl);
      }

  was-fed : (room : ℕ) → feedback_room line.command ≡ Some room → a.actor ≡ line.actor → a.role ≡ Owner
      → option_map (λ calls. unless_owner_stopped a.owning.stop stage text.device a room past calls)
      (slice_get stage.calls text.device) ≡ Some now → IsLinePlayed r rounds stage now line
  was-fed room is_room number role h =
      let image : IsImage (λ (calls : List FeedbackCall).
      unless_owner_stopped a.owning.stop stage text.device a room past calls)
      (slice_get stage.calls text.device) now =
      option_map-some (λ (calls : List FeedbackCall).
      unless_owner_stopped a.owning.stop stage text.device a room past calls)
      (slice_get stage.calls text.device) now h in
      let u : IsCallDone stage now text.device a room past image.from =
      call-done stage now text.device a room past image.from (rw (← number) at is_actor) image.same in
      record {
        text = text;
        is_text = is_text;
        actor = a;
        is_actor = is_actor;
        past = past;
        is_past = is_past;
        job = a.job;
        owning = u.owning;
        after = past;
        calls = [];
        ends = nothing-said r rounds line a role;
        exact = refl;
        kept = λ entries k. rw append-nil k;
        pasts = u.pasts ∙ sym (set_same stage.pasts text.device past is_past);
        actors = u.actors;
        is_fed = rw is_room (image.from, image.is, u.is_fed);
      }

  line_was_done : MayDo r stage line → after_line_of r rounds stage line text.device a past ≡ Some now
      → IsLinePlayed r rounds stage now line
  line_was_done may h = by_room (feedback_room line.command) refl h
    where
      by_room : (o : Option ℕ) → feedback_room line.command ≡ o
          → by_command o stage text.device a past
          (after_talk stage text.device a
          (talk_with a.description past
          (line_talk a.role a.description r.streams None rounds line.command a.job))) ≡ Some now
          → IsLinePlayed r rounds stage now line
      by_room None e is = talked e is
      by_room (Some room) e is =
          let m = may room text a past e is_text is_actor is_past in
          was-fed room e m.0 (feedback-of a.role line.command room e m.1) is

-- a line with a stage behind it found its actor and device, and did its talk or feedback call
pub line-done : (r : RecordView) (rounds : ℕ) (stage now : Stage) (line : Line) → MayDo r stage line
    → after_line r rounds stage line ≡ Some now → IsLinePlayed r rounds stage now line
unfolding after_line
line-done r rounds stage now line may h =
    option_and_then_some _ (slice_get r.actors line.actor) now h (λ text is_text h1.
    option_and_then_some _ (slice_get stage.actors line.actor) now h1 (λ a is_actor h2.
    option_and_then_some _ (slice_get stage.pasts text.device) now h2 (λ past is_past h3.
    line_was_done r rounds stage now line text a past is_text is_actor is_past may h3)))
