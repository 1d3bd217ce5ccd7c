-- What a device made by requests keeps: the steps that it accepted, and between them its owner's feedback calls. A kept
-- list is written newest first (docs/RULES.md, "Devices made by requests").
use Rattle.std.specs.Prelude.{ℕ, Bool, true, false, if◌then◌else◌, List, [], ◌∷◌, length, filter, Option, Some, None}
use Rattle.std.specs.List.{filter_map}
use Rattle.inp_model.specs.declared.stamped.Stamped.{Stamped}
use Rattle.inp_model.specs.declared.step.Step.{Step}
use Rattle.inp_model.specs.declared.reply.Reply.{Reply}
use Rattle.inp_model.specs.Reply.{is_accepted}
use Rattle.inp_model.specs.Injection.{inject_of}
use Rattle.inp_feedback.specs.declared.u_entry.UEntry.{UEntry}
use Rattle.inp_feedback.specs.declared.u_entry.UEntry.TheVariants.{Made, Feedback}

-- the step that an entry is, if it is one
abbrev pub step_made : UEntry → Option Step
step_made (Made step) = Some step
step_made (Feedback count) = None

-- it is a feedback call
abbrev pub is_feedback : UEntry → Bool
is_feedback (Made step) = false
is_feedback (Feedback count) = true

-- the steps among entries, in the order of the entries
abbrev pub steps_in : List UEntry → List Step
steps_in kept = filter_map step_made kept

-- how many feedback calls are kept
abbrev pub feedback_count : List UEntry → ℕ
feedback_count kept = length (filter is_feedback kept)

-- what is kept after a step that was answered so
abbrev pub kept_after_step : Reply → Step → List UEntry → List UEntry
kept_after_step reply x kept = if is_accepted reply then Made x ∷ kept else kept

-- what is kept after these events were injected: their steps come to stand in front, one after another
abbrev pub kept_after_events : List Stamped → List UEntry → List UEntry
kept_after_events [] kept = kept
kept_after_events (stamped ∷ events) kept = kept_after_events events (Made (inject_of stamped) ∷ kept)
