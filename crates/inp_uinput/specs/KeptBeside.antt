-- How what a device made by requests keeps stands for its kept list.
use Rattle.std.specs.Prelude.{◌≡◌, ℕ, ◌≤◌, List, [], ◌∷◌, ◌++◌, length, Option, Some, None}
use Rattle.circular_buffer.specs.Buffer.{Buffer, buffer, keep_last}
use Rattle.inp_model.specs.declared.event.Event.{Event}
use Rattle.inp_model.specs.declared.step.Step.{Step}
use Rattle.inp_model.specs.Description.{Description}
use Rattle.inp_feedback.specs.declared.feedback_call.FeedbackCall.{FeedbackCall}
use Rattle.inp_feedback.specs.declared.fed.TheConstants.{FEEDBACK_MAX}
use Rattle.inp_feedback.specs.Feedback.{feedback_queue}
use Rattle.inp_feedback.specs.KeptList.{kept_of, StandsWithin}

-- a ring with an event that was sent, if one was: after the others, of which the last ones stay that fit
abbrev pub with_sent : Option Event → Buffer Event → Buffer Event
with_sent None waiting = waiting
with_sent (Some e) waiting = buffer (keep_last waiting.capacity (waiting.items ++ e ∷ [])) waiting.capacity

-- all that is kept beside the steps: the feedback calls, newest first, with room for as many as there may be, and the
-- sent events that wait for the owner
pub record IsKeptBeside (d : Description) (past : List Step) (calls : List FeedbackCall) (capacity : ℕ) (waiting : Buffer Event) : Type 0 where
  pub waits : waiting ≡ buffer (feedback_queue d (kept_of past calls)) FEEDBACK_MAX
  pub within : StandsWithin (length past) calls
  pub few : length calls ≤ d.log_limit
  pub room : d.log_limit ≤ capacity
