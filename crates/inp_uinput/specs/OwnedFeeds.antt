-- What a feedback call leaves of a device with its owner (docs/RULES.md, "Devices made by requests").
use Rattle.std.specs.Prelude.{◌≡◌, ℕ, List}
use Rattle.inp_model.specs.declared.event.Event.{Event}
use Rattle.inp_feedback.specs.declared.fed.Fed.{Fed}
use Rattle.inp_feedback.specs.Feedback.{taken_by_feedback, fed, kept_after_feedback}
use Rattle.inp_uinput.specs.UdevView.{UdevView}

-- A feedback call with room for so many events was answered from what was kept before it. It took the first
-- events that waited, and it was kept where it was not refused.
pub record IsFeedbackOf (before after : UdevView) (room : ℕ) (answer : Fed) (events : List Event) : Type 0 where
  pub answered : answer ≡ fed before.description before.kept room
  pub taken : events ≡ taken_by_feedback before.description before.kept room
  pub kept : after ≡ record before { kept = kept_after_feedback before.description before.kept room }
