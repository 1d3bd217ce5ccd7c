-- What is so between two lines: of each actor, of the history of each device, and of its places.
use Rattle.std.proofs.Common.{◌≡◌, ℕ, suc, ◌+◌, ◌≤◌, Bool, true, false, if◌then◌else◌, nat_eq, List, [], ◌∷◌}
use Rattle.std.proofs.Common.{◌++◌, length, map, reverse, refl, sym, subst, ◌∙◌, arith, append_assoc}
use Rattle.std.proofs.Common.{append-nil, length-set, inl, inr, Some, None}
use Rattle.std.proofs.lemmas.Option.{option_and_then_some}
use Rattle.inp_model.specs.Evdev.{BeginsWith}
use Rattle.inp_script.proofs.Told.{sight_of_calls-append}
use Rattle.inp_runs.proofs.Common.{filter, list_any, range_with_len, sum_by, slice_get-map, same_Some, Step}
use Rattle.inp_runs.proofs.Common.{Description, Call, IsLegalFrom, IsLegalRun, next_place, ActorText, Line}
use Rattle.inp_runs.proofs.Common.{Role, is_command_of, RecordView, IsHistory, IsSizedFor, EndsWith}
use Rattle.inp_runs.proofs.Common.{line_talk, Job, ActorView, first_job, sight_of_calls, is_call_entry}
use Rattle.inp_runs.proofs.Common.{OwnerState, lines_by, lines_talk, call_lacks_memory, Stage, description_at}
use Rattle.std.specs.Prelude.{slice_get}
use Rattle.inp_script.specs.Runs.{is_on_device}
use Rattle.inp_model.proofs.Leaves.{HasPlace-longer}
use Rattle.inp_runs.specs.Play.{after_lines, after_line}
use Rattle.inp_runs.proofs.order.Calls.{AreExact, exact-grows, exact-legal, exact-memory, exact-within}
use Rattle.inp_runs.proofs.order.Calls.{exact-history, entries-gained}
use Rattle.inp_runs.proofs.order.LineDone.{actor_behind, IsLinePlayed, MayDo, line-done}
use Rattle.inp_runs.proofs.LinesWalk.{lines_talk-more, lines_by-more, lines_by-other}
use Rattle.inp_runs.proofs.memory.LineTalks.{IsKept}
use Rattle.inp_runs.proofs.Lists.{IsSetAt, eq_true, eq_false, slice_get-set, map-set_same, slice_get-range}
use Rattle.inp_runs.proofs.Lists.{sum_by-replaced}
use Rattle.inp_runs.proofs.Entries.{entries, below}
use Rattle.std.proofs.lemmas.List.Folds.{list_any-append}

-- What an actor did at these lines, on a device of this description that accepted these steps.
pub record IsSoFar (r : RecordView) (rounds : ℕ) (lines : List Line) (d : Description) (role : Role)
    (past : List Step) (a : ActorView) : Type 0 where
  -- its role is the one in the record
  pub role_is : a.role ≡ role
  -- its description is the device's
  pub description : a.description ≡ d
  -- the calls that it made at the lines
  pub calls : List Call
  -- they are a legal run of the device's history so far
  pub legal : IsLegalRun d (reverse past) calls
  -- none of them was refused for want of memory
  pub memory : list_any call_lacks_memory calls ≡ false
  -- they are those that its sight tells of
  pub told : sight_of_calls calls ≡ filter is_call_entry a.job.sight
  -- its job is what its lines and the answers to these calls make
  pub follows : EndsWith (lines_talk role d r.streams None rounds (lines_by a.actor lines) (first_job role d))
      calls (Some a.job)
  -- its view is of the device's size
  pub sized : IsSizedFor d.slots a.job.reading.view

-- the actor of this text did its lines among these
abbrev pub HasDone : RecordView → ℕ → List Line → ActorText → List Step → ActorView → Type 0
HasDone r rounds lines text past a = IsSoFar r rounds lines (description_at r text.device) text.role past a

-- how many accepted calls at this place an actor's sight tells of, where it is one of this device
abbrev pub weight : RecordView → ℕ → ℕ → ActorView → ℕ
weight r device place a =
    if is_on_device device (slice_get r.actors a.actor) then entries place a.job.sight else 0

-- What stands when these lines were done.
pub record IsStage (r : RecordView) (rounds : ℕ) (lines : List Line) (stage : Stage) : Type 0 where
  -- the actors are those of the record, in the order of their numbers
  pub numbers : map (λ (a : ActorView). a.actor) stage.actors ≡ range_with_len 0 (length r.actors)
  -- each device has a past
  pub devices : length stage.pasts ≡ length r.devices
  -- each actor did its own lines among them
  pub actors : (i : ℕ) (a : ActorView) (text : ActorText) (past : List Step)
      → slice_get stage.actors i ≡ Some a → slice_get r.actors i ≡ Some text
      → slice_get stage.pasts text.device ≡ Some past → HasDone r rounds lines text past a
  -- no past is longer than its device's limit
  pub within : (i : ℕ) (past : List Step) → slice_get stage.pasts i ≡ Some past
      → length past ≤ (description_at r i).log_limit
  -- each step of a past was accepted after those before it
  pub history : (i : ℕ) (past : List Step) → slice_get stage.pasts i ≡ Some past
      → IsHistory (description_at r i) past
  -- each place of a past is that of one accepted call, of one actor of the device
  pub once : (i : ℕ) (past : List Step) (place : ℕ) → slice_get stage.pasts i ≡ Some past
      → sum_by (weight r i place) stage.actors ≡ below place (length past)

-- an actor stands at its number
pub number_is : (r : RecordView) (rounds : ℕ) (lines : List Line) (stage : Stage) (i : ℕ) (a : ActorView)
    → IsStage r rounds lines stage → slice_get stage.actors i ≡ Some a → a.actor ≡ i
number_is r rounds lines stage i a s h =
    let number : ActorView → ℕ = λ (b : ActorView). b.actor in
    let at : slice_get (range_with_len 0 (length r.actors)) i ≡ Some a.actor =
    rw (← s.numbers, slice_get-map, h) in
    omega (arith, slice_get-range 0 (length r.actors) i a.actor at)

-- One actor more or less far

legal-longer : (d : Description) (h k : List Step) (least : ℕ) (calls : List Call) → BeginsWith h k
    → IsLegalFrom d h least calls → IsLegalFrom d k least calls
legal-longer d h k least [] begins l = tt
legal-longer d h k least (call ∷ calls) begins l = (
  l.0,
  HasPlace-longer d h k call begins l.1,
  legal-longer d h k (next_place call.answer.reply) calls begins l.2,
)

module _ (r : RecordView) (rounds : ℕ) (lines : List Line) (line : Line) (d : Description) (role : Role)
    (past after : List Step) (a : ActorView) (s : IsSoFar r rounds lines d role past a) where
  -- of an actor that did another line
  so_far-more : (job : Job) (owning : OwnerState) (calls : List Call) → line.actor ≡ a.actor
      → EndsWith (line_talk a.role a.description r.streams None rounds line.command a.job) calls (Some job)
      → AreExact a.description past after calls → IsHistory d past
      → IsKept a.description job (filter is_call_entry a.job.sight ++ sight_of_calls calls)
      → IsSoFar r rounds (lines ++ line ∷ []) d role after (record a { job = job; owning = owning })
  so_far-more job owning calls own ends exact history kept =
      let exact_here : AreExact d past after calls = rw s.description at exact in
      let ends_here : EndsWith (line_talk role d r.streams None rounds line.command a.job) calls (Some job) =
      rw s.role_is at
      (rw s.description at ends) in
      let kept_here : IsKept d job (filter is_call_entry a.job.sight ++ sight_of_calls calls) =
      rw s.description at kept in
      record {
        role_is = s.role_is;
        description = s.description;
        calls = s.calls ++ calls;
        legal = exact-legal d past after s.calls calls exact_here history s.legal;
        memory = rw (list_any-append, s.memory) (exact-memory d past after calls exact_here);
        told = rw (sight_of_calls-append, s.told) (sym kept_here.1);
        follows = rw (lines_by-more a.actor lines line (eq_true line.actor a.actor own))
            (lines_talk-more role d r.streams rounds (lines_by a.actor lines) line
            (first_job role d) a.job job s.calls calls s.follows ends_here);
        sized = kept_here.0;
      }

  -- of one that did not, on a history that is longer now
  so_far-other : (line.actor ≡ a.actor → ⊥) → BeginsWith (reverse past) (reverse after)
      → IsSoFar r rounds (lines ++ line ∷ []) d role after a
  so_far-other other grows = record {
    role_is = s.role_is;
    description = s.description;
    calls = s.calls;
    legal = legal-longer d (reverse past) (reverse after) 0 s.calls grows s.legal;
    memory = s.memory;
    told = s.told;
    follows = rw (lines_by-other a.actor lines line (eq_false line.actor a.actor other)) s.follows;
    sized = s.sized;
  }

-- a line changes its own device's past alone, and each other one stands as before
pub past-behind : (r : RecordView) (rounds : ℕ) (stage now : Stage) (line : Line)
    (u : IsLinePlayed r rounds stage now line) (i : ℕ) (past : List Step) → slice_get now.pasts i ≡ Some past
    → IsSetAt stage.pasts u.text.device u.after i past
past-behind r rounds stage now line u i past h =
    slice_get-set stage.pasts u.text.device i u.past u.after past u.is_past (rw (← u.pasts) h)

-- what is so of the past of the line's device, and of each one before the line, is so of each one behind it
each-past : (r : RecordView) (rounds : ℕ) (stage now : Stage) (line : Line) (u : IsLinePlayed r rounds stage
    now line) (P : ℕ → List Step → Type 0)
    → P u.text.device u.after → ((i : ℕ) (past : List Step) → slice_get stage.pasts i ≡ Some past → P i past)
    → (i : ℕ) (past : List Step) → slice_get now.pasts i ≡ Some past → P i past
each-past r rounds stage now line u P new old i past is_past = elim
    (past-behind r rounds stage now line u i past is_past) [
      | inl behind ↦ subst (P i) (sym behind.1) (rw behind.0 new)
      | inr behind ↦ old i past behind.1
    ]

-- an actor counts for its own device alone
weight_of : (r : RecordView) (device place : ℕ) (a : ActorView) (text : ActorText) (b : Bool)
    → slice_get r.actors a.actor ≡ Some text → nat_eq text.device device ≡ b
    → weight r device place a ≡ (if b then entries place a.job.sight else 0)
weight_of r device place a text b is e = rw (is, e)

module _ (r : RecordView) (rounds : ℕ) (lines : List Line) (stage now : Stage) (line : Line)
    (s : IsStage r rounds lines stage) (u : IsLinePlayed r rounds stage now line) where
  -- the line's actor stands at its number
  pub its_number : u.actor.actor ≡ line.actor
  its_number = number_is r rounds lines stage line.actor u.actor s u.is_actor

  -- a line changes its own actor alone, and each other one stands as before
  pub actor-behind : (i : ℕ) (a : ActorView) → slice_get now.actors i ≡ Some a
      → IsSetAt stage.actors line.actor (actor_behind u) i a
  actor-behind i a h =
      let number : u.actor.actor ≡ line.actor = its_number in
      let new : ActorView = actor_behind u in
      slice_get-set stage.actors line.actor i u.actor new a u.is_actor
      (rw (← number, ← u.actors) h)

  -- the line's actor had done the lines before
  pub its_actor : HasDone r rounds lines u.text u.past u.actor
  its_actor = s.actors line.actor u.actor u.text u.past u.is_actor u.is_text u.is_past

  its_kept : IsKept u.actor.description u.job
      (filter is_call_entry u.actor.job.sight ++ sight_of_calls u.calls)
  its_kept =
      let far = its_actor in
      u.kept (filter is_call_entry u.actor.job.sight) (rw far.description far.sized, refl)

  actors-more : (i : ℕ) (a : ActorView) (text : ActorText) (past : List Step)
      → slice_get now.actors i ≡ Some a → slice_get r.actors i ≡ Some text
      → slice_get now.pasts text.device ≡ Some past → HasDone r rounds (lines ++ line ∷ []) text past a
  actors-more i a text past is_a is_text is_past =
      by_actor (actor-behind i a is_a) (past-behind r rounds stage now line u text.device past is_past)
    where
      -- the actor that did the line
      own : i ≡ line.actor → a ≡ actor_behind u → past ≡ u.after
          → HasDone r rounds (lines ++ line ∷ []) text past a
      own same is behind =
          let texts : u.text ≡ text = same_Some u.text text (rw (← u.is_text, ← same) is_text) in
          let more =
          so_far-more r rounds lines line
          (description_at r u.text.device) u.text.role u.past u.after u.actor its_actor u.job u.owning u.calls
          (sym its_number) u.ends u.exact (s.history u.text.device u.past u.is_past) its_kept in
          rw (is, behind) (rw texts at more)

      -- it is on the device of the line
      on_device : i ≡ line.actor → text.device ≡ u.text.device
      on_device same = rw (same_Some text u.text (rw (← is_text, same) u.is_text))

      -- another one, on a device with this past before
      other : (i ≡ line.actor → ⊥) → slice_get stage.actors i ≡ Some a → (before : List Step)
          → slice_get stage.pasts text.device ≡ Some before → BeginsWith (reverse before) (reverse past)
          → HasDone r rounds (lines ++ line ∷ []) text past a
      other differs is before is_before grows =
          let number : a.actor ≡ i = number_is r rounds lines stage i a s is in
          so_far-other r rounds lines line (description_at r text.device) text.role before past a
          (s.actors i a text before is is_text is_before) (λ e. differs (sym (e ∙ number))) grows

      by_actor : IsSetAt stage.actors line.actor (actor_behind u) i a
          → IsSetAt stage.pasts u.text.device u.after text.device past
          → HasDone r rounds (lines ++ line ∷ []) text past a
      by_actor (inl is) (inl behind) = own is.0 is.1 behind.1
      by_actor (inl is) (inr behind) = absurd (behind.0 (on_device is.0))
      by_actor (inr is) (inl behind) =
          let description : u.actor.description ≡ description_at r u.text.device = its_actor.description in
          let history : IsHistory u.actor.description u.past =
          rw description (s.history u.text.device u.past u.is_past) in
          let before : slice_get stage.pasts text.device ≡ Some u.past = rw behind.0 u.is_past in
          other is.0 is.1 u.past before
          (rw behind.1 (exact-grows u.actor.description u.past u.after u.calls u.exact history))
      by_actor (inr is) (inr behind) = other is.0 is.1 past behind.1 ([], sym (append-nil (reverse past)))

  once-more : (i : ℕ) (past : List Step) (place : ℕ) → slice_get now.pasts i ≡ Some past
      → sum_by (weight r i place) now.actors ≡ below place (length past)
  once-more i past place is_past = by_past (past-behind r rounds stage now line u i past is_past)
    where
      new : ActorView
      new = actor_behind u

      number : u.actor.actor ≡ line.actor
      number = its_number

      its_text : slice_get r.actors u.actor.actor ≡ Some u.text
      its_text = rw number u.is_text

      replaced : sum_by (weight r i place) now.actors + weight r i place u.actor
          ≡ sum_by (weight r i place) stage.actors + weight r i place new
      replaced =
          rw (← number, ← u.actors) at (sum_by-replaced
          (weight r i place) stage.actors line.actor u.actor new u.is_actor)

      gained : entries place u.job.sight + below place (length u.past)
          ≡ entries place u.actor.job.sight + below place (length u.after)
      gained =
          entries-gained u.actor.description u.past u.after place u.calls u.actor.job.sight u.job.sight
          u.exact its_kept.1

      by_past : IsSetAt stage.pasts u.text.device u.after i past
          → sum_by (weight r i place) now.actors ≡ below place (length past)
      by_past (inl behind) =
          let on : nat_eq u.text.device i ≡ true = eq_true u.text.device i (sym behind.0) in
          let old_weight = weight_of r i place u.actor u.text true its_text on in
          let new_weight : weight r i place new ≡ entries place u.job.sight =
          weight_of r i place new u.text true its_text on in
          rw behind.1
          (omega (
            arith,
            replaced,
            old_weight,
            new_weight,
            s.once i u.past place (rw behind.0 u.is_past),
            gained,
          ))
      by_past (inr behind) =
          let off : nat_eq u.text.device i ≡ false = eq_false u.text.device i (λ e. behind.0 (sym e)) in
          omega (
            arith,
            replaced,
            weight_of r i place u.actor u.text false its_text off,
            weight_of r i place new u.text false its_text off,
            s.once i past place behind.1,
          )

  pub stage-more : IsStage r rounds (lines ++ line ∷ []) now
  stage-more =
      let number : ActorView → ℕ = λ (b : ActorView). b.actor in
      let at : slice_get stage.actors u.actor.actor ≡ Some u.actor = rw (← its_number) at u.is_actor in
      let d : Description = description_at r u.text.device in
      let exact : AreExact d u.past u.after u.calls = rw (its_actor.description) at u.exact in
      record {
        numbers =
            rw (
              u.actors,
              map-set_same number stage.actors u.actor.actor u.actor
                  (actor_behind u) at refl,
            ) s.numbers;
        devices = rw (u.pasts, length-set) s.devices;
        actors = actors-more;
        within =
            each-past r rounds stage now line u
            (λ (i : ℕ) (past : List Step). length past ≤ (description_at r i).log_limit)
            (exact-within d u.past u.after u.calls exact (s.within u.text.device u.past u.is_past)) s.within;
        history =
            each-past r rounds stage now line u
            (λ (i : ℕ) (past : List Step). IsHistory (description_at r i) past)
            (exact-history d u.past u.after u.calls exact
            (s.history u.text.device u.past u.is_past)) s.history;
        once = once-more;
      }

-- each line's command is one that its actor's role has
abbrev pub AreCommandsOf : RecordView → List Line → Type 0
AreCommandsOf r lines =
    (i : ℕ) (line : Line) (actor : ActorText) → slice_get lines i ≡ Some line
    → slice_get r.actors line.actor ≡ Some actor → is_command_of actor.role line.command ≡ true

module _ (r : RecordView) (rounds : ℕ) where
  pub may-do : (lines more : List Line) (stage : Stage) (line : Line) → IsStage r rounds lines stage
      → AreCommandsOf r (line ∷ more) → MayDo r stage line
  may-do lines more stage line s commands room text a past is_room is_text is_actor is_past =
      let far = s.actors line.actor a text past is_actor is_text is_past in (
        number_is r rounds lines stage line.actor a s is_actor,
        rw far.role_is (commands 0 line text refl is_text),
      )

  -- what is so of the lines so far and of their stage, where each line more keeps it
  pub stages-keep : (P : List Line → Stage → Type 0)
      → ((lines more : List Line) (line : Line) (stage now : Stage) → IsStage r rounds lines stage
      → P lines stage → AreCommandsOf r (line ∷ more) → IsLinePlayed r rounds stage now line
      → P (lines ++ line ∷ []) now) → (lines more : List Line) (stage last : Stage)
      → IsStage r rounds lines stage → P lines stage → AreCommandsOf r more
      → after_lines r rounds stage more ≡ Some last
      → IsStage r rounds (lines ++ more) last × P (lines ++ more) last
  unfolding after_lines
  stages-keep P keeps lines [] stage last s p commands h =
      let same : stage ≡ last = cc in
      rw (append-nil lines, ← same) (s, p)
  stages-keep P keeps lines (line ∷ more) stage last s p commands h =
      option_and_then_some _ (after_line r rounds stage line) last h (λ now is_now rest.
      let done : IsLinePlayed r rounds stage now line =
      line-done r rounds stage now line (may-do lines more stage line s commands) is_now in
      rw append_assoc at
      (stages-keep P keeps (lines ++ line ∷ []) more now last
      (stage-more r rounds lines stage now line s done)
      (keeps lines more line stage now s p commands done) (λ i. commands (suc i)) rest))

  -- each line more leaves a stage, and so do all in a row
  pub stages : (lines more : List Line) (stage last : Stage) → IsStage r rounds lines stage
      → AreCommandsOf r more → after_lines r rounds stage more ≡ Some last
      → IsStage r rounds (lines ++ more) last
  stages lines more stage last s commands h =
      (stages-keep (λ ls u. Unit {0}) (λ ls ms line u now k p c done. tt) lines more stage last s tt
      commands h).0
