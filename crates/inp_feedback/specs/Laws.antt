-- What holds of all kept lists.
use Rattle.std.specs.Prelude.{◌≡◌, List}
use Rattle.circular_buffer.specs.Buffer.{keep_last}
use Rattle.inp_model.specs.Description.{Description}
use Rattle.inp_feedback.specs.declared.u_entry.UEntry.{UEntry}
use Rattle.inp_feedback.specs.declared.fed.TheConstants.{FEEDBACK_MAX}
use Rattle.inp_feedback.specs.UEntry.{steps_in, feedback_count}
use Rattle.inp_feedback.specs.Sent.{sent}
use Rattle.inp_feedback.specs.Feedback.{feedback_queue}

-- Without a feedback call the last 15 of all that was sent wait (docs/RULES.md, "Devices made by requests").
abbrev pub WaitsOfAllSent : Type 0
WaitsOfAllSent = (d : Description) (kept : List UEntry) → feedback_count kept ≡ 0 → feedback_queue d kept ≡ keep_last FEEDBACK_MAX (sent d (steps_in kept))
