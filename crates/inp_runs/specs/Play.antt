-- The result of a record whose lines are done in file order, each device answering on one list of steps
-- (docs/RUNS.md, "Playing a record").
use Rattle.std.specs.Prelude.{◌≡◌, ℕ, List, [], ◌∷◌, map, filter, reverse, slice_get, slice_set, slice_index_or, Option, Some, None, option_map, option_and_then}
use Rattle.std.specs.List.{enumerate_from}
use Rattle.inp_model.specs.declared.step.Step.{Step}
use Rattle.inp_model.specs.Description.{Description, syn_alone}
use Rattle.inp_actors.specs.declared.actor_text.ActorText.{ActorText}
use Rattle.inp_actors.specs.declared.line.Line.{Line}
use Rattle.inp_actors.specs.Command.{feedback_room}
use Rattle.inp_actors.specs.Record.{RecordView}
use Rattle.inp_reader.specs.Talk.{talk_with}
use Rattle.inp_feedback.specs.declared.feedback_call.FeedbackCall.{FeedbackCall}
use Rattle.inp_feedback.specs.declared.fed.Fed.{Fed}
use Rattle.inp_feedback.specs.declared.fed.Fed.TheVariants.{Took, Full}
use Rattle.inp_feedback.specs.Feedback.{taken_by_feedback, fed}
use Rattle.inp_feedback.specs.KeptList.{kept_of}
use Rattle.inp_script.specs.declared.run.DeviceEnds.{DeviceEnds}
use Rattle.inp_script.specs.declared.run.Played.{Played}
use Rattle.inp_script.specs.declared.stop.Stop.{Stop}
use Rattle.inp_script.specs.DoneLine.{line_talk}
use Rattle.inp_script.specs.Job.{Job, ActorView, first_job}
use Rattle.inp_script.specs.Owner.{first_owning, after_feedback}
use Rattle.inp_script.specs.Ended.{ended_of, played_of}
use Rattle.inp_script.specs.Runs.{is_on_device}

-- what stands between two lines
pub record Stage : Type 0 where
  -- the steps that each device accepted, newest first
  pub pasts : List (List Step)
  -- the feedback calls that each device keeps, newest first
  pub calls : List (List FeedbackCall)
  -- each actor, with what it did so far
  pub actors : List ActorView

-- the description of the device of this number; each actor of a record is one of a device
abbrev pub description_at : RecordView → ℕ → Description
description_at r device = slice_index_or (map (λ text. text.caps) r.devices) device syn_alone

-- an actor with its number, before its first line
abbrev pub first_actor : RecordView → ℕ × ActorText → ActorView
first_actor r numbered = record {
  actor = numbered.0;
  role = numbered.1.role;
  description = description_at r numbered.1.device;
  job = first_job numbered.1.role (description_at r numbered.1.device);
  owning = first_owning;
}

-- before the first line: no device accepted a step
abbrev pub first_stage : RecordView → Stage
first_stage r = record {
  pasts = map (λ text. []) r.devices;
  calls = map (λ text. []) r.devices;
  actors = map (first_actor r) (enumerate_from 0 r.actors);
}

-- the stage after a line of this actor, by the result of its talk with the device of this number
abbrev pub after_talk : Stage → ℕ → ActorView → Option Job × List Step → Option Stage
after_talk stage device a done = option_map (λ job. record {
  pasts = slice_set stage.pasts device done.1;
  calls = stage.calls;
  actors = slice_set stage.actors a.actor (record a { job = job });
}) done.0

-- the feedback calls that a device keeps after one that was answered so
abbrev pub feedback_calls_after : Fed → List FeedbackCall → List FeedbackCall
feedback_calls_after (Took at count) calls = record { at = at; count = count } ∷ calls
feedback_calls_after (Full at) calls = calls

-- the stage after a feedback call of this owner, with room for so many events, on the device of this number,
-- which keeps these steps and calls
abbrev pub stage_after_feedback : Stage → ℕ → ActorView → ℕ → List Step → List FeedbackCall → Stage
stage_after_feedback stage device a room past calls =
    let kept = kept_of past calls in
    let answer = fed a.description kept room in
    record stage {
      calls = slice_set stage.calls device (feedback_calls_after answer calls);
      actors = slice_set stage.actors a.actor (record a { owning = after_feedback answer (taken_by_feedback a.description kept room) a.owning });
    }

-- the same where the owner has not stopped, so; else nothing is done
abbrev pub unless_owner_stopped : Option Stop → Stage → ℕ → ActorView → ℕ → List Step → List FeedbackCall → Stage
unless_owner_stopped None stage device a room past calls = stage_after_feedback stage device a room past calls
unless_owner_stopped (Some stop) stage device a room past calls = stage

-- An owner makes its feedback call; what another actor does is its talk with the device.
abbrev pub by_command : Option ℕ → Stage → ℕ → ActorView → List Step → Option Stage → Option Stage
by_command None stage device a past talked = talked
by_command (Some room) stage device a past talked =
    option_map (λ calls. unless_owner_stopped a.owning.stop stage device a room past calls) (slice_get stage.calls device)

-- The actor does the line on its device, in at most so many rounds. Nobody waits.
abbrev pub after_line_of : RecordView → ℕ → Stage → Line → ℕ → ActorView → List Step → Option Stage
after_line_of r rounds stage line device a past =
    by_command (feedback_room line.command) stage device a past
    (after_talk stage device a (talk_with a.description past (line_talk a.role a.description r.streams None rounds line.command a.job)))

-- the stage after a line, where so many rounds are enough for it
unfoldable pub after_line : RecordView → ℕ → Stage → Line → Option Stage
after_line r rounds stage line =
    option_and_then (λ text. option_and_then (λ a. option_and_then (λ past.
    after_line_of r rounds stage line text.device a past)
    (slice_get stage.pasts text.device)) (slice_get stage.actors line.actor)) (slice_get r.actors line.actor)

-- the stage after lines, in file order
unfoldable pub after_lines : RecordView → ℕ → Stage → List Line → Option Stage
after_lines r rounds stage [] = Some stage
after_lines r rounds stage (line ∷ lines) = option_and_then (λ now. after_lines r rounds now lines) (after_line r rounds stage line)

-- the results of the actors of the device of this number, in order
abbrev pub jobs_on : RecordView → List ActorView → ℕ → List ActorView
jobs_on r actors device = filter (λ a. is_on_device device (slice_get r.actors a.actor)) actors

-- the result of a device, with its number
abbrev pub run_of : RecordView → Stage → ℕ × List Step → DeviceEnds
run_of r stage numbered = record { history = reverse numbered.1; ends = map ended_of (jobs_on r stage.actors numbered.0) }

abbrev pub runs_of : RecordView → Stage → List DeviceEnds
runs_of r stage = map (run_of r stage) (enumerate_from 0 stage.pasts)

-- the result of a record, where so many rounds are enough for each of its lines
unfoldable pub play : ℕ → RecordView → Option Played
play rounds r = option_map (λ stage. played_of (runs_of r stage)) (after_lines r rounds (first_stage r) r.lines)

-- This is the result of the record. How many rounds are tried makes no difference once they are enough.
pub record IsPlay (r : RecordView) (played : Played) : Type 0 where
  pub rounds : ℕ
  pub plays : play rounds r ≡ Some played

-- a record has at most one result
abbrev pub HasOnePlay : Type 0
HasOnePlay = (r : RecordView) (played other : Played) → IsPlay r played → IsPlay r other → played ≡ other
