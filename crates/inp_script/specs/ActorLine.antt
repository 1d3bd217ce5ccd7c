-- What it means that an actor did a line on a device that it may own (docs/RUNS.md, "Jobs", and docs/RULES.md, "Devices
-- made by requests").
use Rattle.std.specs.Prelude.{◌≡◌, ◌⊎◌, ℕ, false, min, List, [], ◌∷◌, Option, Some, slice_get}
use Rattle.inp_model.specs.declared.event.Event.{Event}
use Rattle.inp_model.specs.Evdev.{EvdevView}
use Rattle.inp_model.specs.Leaves.{IsLeft}
use Rattle.inp_actors.specs.declared.line.Line.{Line}
use Rattle.inp_actors.specs.declared.role.Role.{Role}
use Rattle.inp_actors.specs.declared.role.Role.TheVariants.{Owner}
use Rattle.inp_actors.specs.Command.{feedback_room, is_owner}
use Rattle.inp_actors.specs.Record.{RecordView}
use Rattle.inp_feedback.specs.declared.fed.Fed.{Fed}
use Rattle.inp_feedback.specs.declared.fed.TheConstants.{FEEDBACK_MAX}
use Rattle.inp_feedback.specs.Feeds.{Feeding}
use Rattle.inp_script.specs.declared.waiting.Waiting.{Waiting}
use Rattle.inp_script.specs.DoneLine.{Holds, BeginsLine, line_talk}
use Rattle.inp_script.specs.Job.{ActorView}
use Rattle.inp_script.specs.Owner.{FeedsLine, MayHaveFed}

-- a feedback call that was made
pub record FeedCall : Type 0 where
  -- for how many events there was room
  pub room : ℕ
  pub answer : Fed
  -- the events that it took
  pub events : List Event

module _ {S : Type 0} (feeds : Feeding S) where
  -- feedback calls, one after another
  unfoldable pub AreFeedCalls : S → S → List FeedCall → Type 0
  AreFeedCalls before after [] = after ≡ before
  AreFeedCalls before after (call ∷ calls) =
      (between : S) × feeds before between call.room call.answer call.events × AreFeedCalls between after calls

  -- An owner did a line. Each of its lines is a feedback call with room for so many events. No more than 15
  -- ever wait, so that the call has no more room.
  pub record OwnsLine (before after : S) (old : ActorView) (line : Line) (new : ActorView) : Type 0 where
    pub owner : old.role ≡ Owner
    pub room : ℕ
    pub is_room : feedback_room line.command ≡ Some room
    pub fed : FeedsLine feeds before after (min room FEEDBACK_MAX) old.owning new.owning
    pub actor : new ≡ record old { owning = new.owning }

  -- An owner made the feedback call of the line of this number, or did nothing.
  pub record MayOwnLine (before after : S) (r : RecordView) (number : ℕ) (a : ActorView) : Type 0 where
    pub owner : a.role ≡ Owner
    pub line : Line
    pub is_line : slice_get r.lines number ≡ Some line
    pub room : ℕ
    pub is_room : feedback_room line.command ≡ Some room
    pub may : MayHaveFed feeds before after (min room FEEDBACK_MAX)

module _ {S : Type 0} (told : S → EvdevView) (feeds : Feeding S) where
  -- Any other actor did a line, in some number of rounds: it makes calls of an evdev.
  pub record CallsLine (before after : S) (r : RecordView) (wait : Option Waiting) (old : ActorView) (line : Line) (new : ActorView) : Type 0 where
    pub caller : is_owner old.role ≡ false
    pub rounds : ℕ
    pub holds : Holds (told before) (told after) (line_talk old.role old.description r.streams wait rounds line.command old.job) (Some new.job)
    pub actor : new ≡ record old { job = new.job }

  -- An actor did a line, and is this afterwards.
  abbrev pub ActsLine : S → S → RecordView → Option Waiting → ActorView → Line → ActorView → Type 0
  ActsLine before after r wait old line new = OwnsLine feeds before after old line new ⊎ CallsLine before after r wait old line new

  -- the same of the line of this number
  pub record Acts (before after : S) (r : RecordView) (wait : Option Waiting) (number : ℕ) (old new : ActorView) : Type 0 where
    pub line : Line
    pub is_line : slice_get r.lines number ≡ Some line
    pub acts : ActsLine before after r wait old line new

  -- An actor made the first calls of the line of this number: all of them, or those until memory ran out.
  -- They are calls of an evdev or, of an owner, the feedback call.
  abbrev pub BeginsToAct : S → S → RecordView → Option Waiting → ℕ → ActorView → Type 0
  BeginsToAct before after r wait number a =
      MayOwnLine feeds before after r number a
      ⊎ ((is_owner a.role ≡ false) × BeginsLine (told before) (told after) a r wait number)

  -- All that an actor of this role did with its device is feedback calls, of an owner, and else calls of an evdev, one
  -- after another.
  abbrev pub IsActedOn : Role → S → S → Type 0
  IsActedOn role before after =
      ((role ≡ Owner) × (calls : List FeedCall) × AreFeedCalls feeds before after calls)
      ⊎ ((is_owner role ≡ false) × IsLeft (told before) (told after))
