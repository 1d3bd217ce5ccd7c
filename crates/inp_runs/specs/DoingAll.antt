-- What it means that an actor did all its lines of a record (docs/RUNS.md, "Playing a record").
use Rattle.std.specs.Prelude.{◌≡◌, ◌⊎◌, ℕ, false, List, [], ◌∷◌, map, Option, Some, slice_get}
use Rattle.inp_model.specs.declared.stamped.Stamped.{Stamped}
use Rattle.inp_model.specs.Evdev.{EvdevView}
use Rattle.inp_actors.specs.declared.line.Line.{Line}
use Rattle.inp_actors.specs.declared.role.Role.TheVariants.{Source, Owner}
use Rattle.inp_actors.specs.Command.{is_owner}
use Rattle.inp_actors.specs.Record.{RecordView}
use Rattle.inp_feedback.specs.Feeds.{Feeding}
use Rattle.inp_reader.specs.Talk.{finish}
use Rattle.inp_script.specs.declared.waiting.Waiting.{Waiting}
use Rattle.inp_script.specs.ActorLine.{ActsLine, OwnsLine}
use Rattle.inp_script.specs.DoneLine.{Holds, inject_talk}
use Rattle.inp_script.specs.Job.{ActorView, Job}
use Rattle.inp_runs.specs.EventLines.{inject_line}
use Rattle.inp_runs.specs.Job.{lines_by, last_talk, lines_talk}

-- At these numbers of lines stand the lines of an actor and no others, in file order.
abbrev pub AreNumbersOf : RecordView → ℕ → List ℕ → Type 0
AreNumbersOf r actor numbers = map (slice_get r.lines) numbers ≡ map Some (lines_by actor r.lines)

-- An actor that is no owner did all its lines. Its calls are those of their talk, each line in at most some
-- number of rounds, and of what is asked of it then. This is its job afterwards.
pub record DoesAll (before after : EvdevView) (r : RecordView) (wait : Option Waiting) (old : ActorView) (new : Job) : Type 0 where
  pub rounds : ℕ
  pub holds : Holds before after (lines_talk old.role old.description r.streams wait rounds (lines_by old.actor r.lines) old.job) (Some new)

-- A source injected the events of these lines, by calls that are those of one talk.
pub record InjectsLines (before after : EvdevView) (lines : List Line) (old new : ActorView) : Type 0 where
  pub source : old.role ≡ Source
  pub events : List Stamped
  pub are_lines : lines ≡ map (inject_line old.actor) events
  pub holds : Holds before after (inject_talk events old.job) (Some new.job)
  pub actor : new ≡ record old { job = new.job }

module _ {S : Type 0} (feeds : Feeding S) where
  -- An owner did these lines, one after another: each is a feedback call.
  unfoldable pub AreOwned : S → S → List Line → ActorView → ActorView → Type 0
  AreOwned before after [] old new = (after ≡ before) × (new ≡ old)
  AreOwned before after (line ∷ lines) old new =
      (between : S) × (mid : ActorView) × OwnsLine feeds before between old line mid × AreOwned between after lines mid new

module _ {S : Type 0} (told : S → EvdevView) (feeds : Feeding S) where
  -- An actor did these lines: one line, or lines of a source that each inject an event.
  abbrev pub ActsSome : S → S → RecordView → Option Waiting → List Line → ActorView → ActorView → Type 0
  ActsSome before after r wait lines old new =
      ((line : Line) × (lines ≡ line ∷ []) × ActsLine told feeds before after r wait old line new)
      ⊎ InjectsLines (told before) (told after) lines old new

  -- An actor did what is asked of it when its lines are done: nothing, or the call of a source.
  abbrev pub EndsLines : S → S → Option Waiting → ActorView → ActorView → Type 0
  EndsLines before after wait old new =
      ((after ≡ before) × (new ≡ old) × (last_talk wait old.role old.job ≡ finish (Some old.job)))
      ⊎ ((old.role ≡ Source) × Holds (told before) (told after) (last_talk wait old.role old.job) (Some new.job) × (new ≡ record old { job = new.job }))

  -- An actor did all its lines, in file order, and what is asked of it then. It is an owner, whose lines are
  -- feedback calls one after another, or its calls are those of its lines' talk.
  abbrev pub ActsAll : S → S → RecordView → Option Waiting → ActorView → ActorView → Type 0
  ActsAll before after r wait old new =
      ((old.role ≡ Owner) × AreOwned feeds before after (lines_by old.actor r.lines) old new)
      ⊎ ((is_owner old.role ≡ false) × DoesAll (told before) (told after) r wait old new.job)
