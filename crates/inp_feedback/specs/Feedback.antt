-- What the owner of a device reads (docs/RULES.md, "Devices made by requests").
use Rattle.std.specs.Prelude.{ℕ, Bool, if◌then◌else◌, nat_le, List, [], ◌∷◌, ◌++◌, length, take, drop}
use Rattle.circular_buffer.specs.Buffer.{keep_last}
use Rattle.inp_model.specs.declared.event.Event.{Event}
use Rattle.inp_model.specs.Description.{Description}
use Rattle.inp_feedback.specs.declared.u_entry.UEntry.{UEntry}
use Rattle.inp_feedback.specs.declared.u_entry.UEntry.TheVariants.{Made, Feedback}
use Rattle.inp_feedback.specs.declared.fed.Fed.{Fed}
use Rattle.inp_feedback.specs.declared.fed.Fed.TheVariants.{Took, Full}
use Rattle.inp_feedback.specs.declared.fed.TheConstants.{FEEDBACK_MAX}
use Rattle.inp_feedback.specs.UEntry.{steps_in, feedback_count}
use Rattle.inp_feedback.specs.Sent.{sent_at_step}

-- The events that wait for the owner, oldest first: the last 15 at most of those that were sent to the device and not
-- taken yet.
unfoldable pub feedback_queue : Description → List UEntry → List Event
feedback_queue d [] = []
feedback_queue d (Made x ∷ kept) = keep_last FEEDBACK_MAX (feedback_queue d kept ++ sent_at_step d (steps_in kept) x)
feedback_queue d (Feedback count ∷ kept) = drop count (feedback_queue d kept)

-- as many feedback calls are kept as a history may have steps
abbrev pub is_full_of_feedback : Description → List UEntry → Bool
is_full_of_feedback d kept = nat_le d.log_limit (feedback_count kept)

-- what a feedback call takes with room for so many events: the first ones that wait, as many as fit
abbrev pub taken_by_feedback : Description → List UEntry → ℕ → List Event
taken_by_feedback d kept room = if is_full_of_feedback d kept then [] else take room (feedback_queue d kept)

-- what it answers
abbrev pub fed : Description → List UEntry → ℕ → Fed
fed d kept room =
    let at = length (steps_in kept) in
    if is_full_of_feedback d kept then Full at else Took at (length (taken_by_feedback d kept room))

-- what is kept after it
abbrev pub kept_after_feedback : Description → List UEntry → ℕ → List UEntry
kept_after_feedback d kept room =
    if is_full_of_feedback d kept then kept else Feedback (length (taken_by_feedback d kept room)) ∷ kept
