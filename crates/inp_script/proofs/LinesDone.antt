-- All that is promised of a line that was done, and of the end of a source.
use Rattle.std.proofs.Common.{◌≡◌, ℕ, true, false, Some}
use Rattle.std.specs.Prelude.{is_some, Option}
use Rattle.std.specs.List.{slice_get}
use Rattle.inp_script.specs.DoneLine.{IsLineOf, DoesCommand}
use Rattle.inp_script.specs.Legal.{CountsTurns, GainsPlaces, StaysLegal}
use Rattle.inp_script.proofs.Common.{EvdevView, Line, Source, RecordView, IsRecord, Waiting, ActorView, Job}
use Rattle.inp_script.proofs.Common.{end_talk, DoesLine, HasActor, Holds, IsCommandFor}
use Rattle.inp_script.specs.Fold.{StaysFolded}
use Rattle.inp_script.proofs.Gains.{gains-places, stays-legal, line-tells, end-tells}
use Rattle.inp_script.proofs.IdleTurns.{counts-turns}
use Rattle.inp_script.proofs.LineFolds.{line-folds, end-folds}
use Rattle.inp_script.proofs.Lines.{is_command_for, does-nothing, does-line}
use Rattle.inp_script.proofs.Told.{Tells}

-- Lines

pub record IsLineDone (a b : EvdevView) (actor : ActorView) (r : RecordView) (wait : Option Waiting)
    (number : ℕ) (new : Job) : Type 0 where
  -- the actor did the line
  pub done : DoesLine a b actor r wait number new
  -- the evdev's own places grew by those that the new entries tell of
  pub places : GainsPlaces a b actor.job.sight new.sight
  -- a sight that was legal stays so
  pub legal : StaysLegal actor.description a b actor.job.sight new.sight
  -- a view that was the fold of the sight stays so
  pub view : StaysFolded actor.role actor.description b actor.job new
  -- where the job stopped as idle, so many answers Again were counted, or the count is at its end
  pub turns : CountsTurns a b actor.job new

-- the command of one of an actor's lines is one for it
pub command-of : (r : RecordView) (actor : ActorView) (number : ℕ) (line : Line) → IsRecord r
    → HasActor r actor → IsLineOf r number actor.actor → slice_get r.lines number ≡ Some line
    → IsCommandFor actor.role r.streams line.command
command-of r actor number line is has its is_line =
    let same : its.line ≡ line = cc (its.is_line, is_line) in
    is_command_for r number line has.text actor.role is is_line
    (rw (← same, its.is_actor) has.is_text) has.role

module _ (a b : EvdevView) (actor : ActorView) (r : RecordView) (wait : Option Waiting) (number : ℕ)
    (line : Line) (new : Job) (same : a.description ≡ actor.description)
    (is_line : slice_get r.lines number ≡ Some line)
    (command : IsCommandFor actor.role r.streams line.command) where
  line-done : DoesLine a b actor r wait number new → IsLineDone a b actor r wait number new
  line-done does =
      let one : line ≡ does.line = cc (is_line, does.is_line) in
      let tells : Tells does.holds.calls actor.job.sight new.sight =
      line-tells a b actor r wait number new does in
      record {
        done = does;
        places = gains-places a b does.holds.calls actor.job.sight new.sight does.holds.are_calls tells;
        legal =
            stays-legal actor.description a b does.holds.calls actor.job.sight new.sight same
            does.holds.are_calls tells;
        view = line-folds a b actor r wait number new same does (rw one at command.of_role);
        turns = counts-turns a b actor r wait number new does;
      }

  -- of an actor that did the command
  pub line-went_on : is_some actor.job.stop ≡ false
      → DoesCommand a b actor.role actor.description r.streams wait line.command actor.job new
      → IsLineDone a b actor r wait number new
  line-went_on goes does = line-done (does-line actor r wait number line is_line a b new goes does)

-- of one that stopped before
pub line-stopped : (told : EvdevView) (actor : ActorView) (r : RecordView) (wait : Option Waiting)
    (number : ℕ) → told.description ≡ actor.description → IsRecord r → HasActor r actor
    → IsLineOf r number actor.actor → is_some actor.job.stop ≡ true
    → IsLineDone told told actor r wait number actor.job
line-stopped told actor r wait number same is has line stopped =
    line-done told told actor r wait number line.line actor.job same line.is_line
    (command-of r actor number line.line is has line line.is_line)
    (does-nothing actor r wait number line.line line.is_line told stopped)

-- The end of a source

pub record IsEndDone (a b : EvdevView) (actor : ActorView) (new : Job) : Type 0 where
  -- the source made the calls of its end
  pub done : Holds a b (end_talk actor.job.stop actor.job) (Some new)
  -- the evdev gained the place that the end's entry tells of, where it was accepted
  pub places : GainsPlaces a b actor.job.sight new.sight
  -- a sight that was legal stays so
  pub legal : StaysLegal actor.description a b actor.job.sight new.sight
  -- a view that was the fold of the sight stays so
  pub view : StaysFolded actor.role actor.description b actor.job new

-- the end's call is told in the sight, and from it all that is promised follows
pub end-done : (a b : EvdevView) (actor : ActorView) (new : Job) → a.description ≡ actor.description
    → actor.role ≡ Source → Holds a b (end_talk actor.job.stop actor.job) (Some new) → IsEndDone a b actor new
end-done a b actor new same source h =
    let tells : Tells h.calls actor.job.sight new.sight = end-tells a b actor.job new h in
    record {
      done = h;
      places = gains-places a b h.calls actor.job.sight new.sight h.are_calls tells;
      legal = stays-legal actor.description a b h.calls actor.job.sight new.sight same h.are_calls tells;
      view = end-folds b actor.role actor.description actor.job new h.calls source h.talk_ends;
    }
