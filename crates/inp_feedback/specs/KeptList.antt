-- The kept list of a device by its steps and its feedback calls apart (docs/RULES.md, "Devices made by requests").
use Rattle.std.specs.Prelude.{ℕ, ◌-◌, ◌≤◌, List, [], ◌∷◌, ◌++◌, length, map, take, drop}
use Rattle.inp_model.specs.declared.step.Step.{Step}
use Rattle.inp_feedback.specs.declared.u_entry.UEntry.{UEntry}
use Rattle.inp_feedback.specs.declared.u_entry.UEntry.TheVariants.{Made, Feedback}
use Rattle.inp_feedback.specs.declared.feedback_call.FeedbackCall.{FeedbackCall}
use Rattle.inp_feedback.specs.UEntry.{steps_in}

-- The kept list of a past and of feedback calls, all newest first: each call stands after as many steps as it
-- says.
unfoldable pub kept_of : List Step → List FeedbackCall → List UEntry
kept_of past [] = map Made past
kept_of past (call ∷ calls) =
    let later = length past - call.at in
    map Made (take later past) ++ Feedback call.count ∷ kept_of (drop later past) calls

-- the newest feedback call stands after no more steps than there are
abbrev pub StandsWithin : ℕ → List FeedbackCall → Type 0
StandsWithin count [] = Unit {0}
StandsWithin count (call ∷ calls) = call.at ≤ count

-- the feedback calls of a kept list, newest first, each with how many steps stand before it
abbrev pub calls_in : List UEntry → List FeedbackCall
calls_in [] = []
calls_in (Made x ∷ kept) = calls_in kept
calls_in (Feedback count ∷ kept) = record { at = length (steps_in kept); count = count } ∷ calls_in kept

-- Feedback calls, newest first, are in order: each stands after no more steps than the one after it, and the
-- newest after no more than there are.
abbrev pub AreInOrder : ℕ → List FeedbackCall → Type 0
AreInOrder count [] = Unit {0}
AreInOrder count (call ∷ calls) = (call.at ≤ count) × AreInOrder call.at calls

-- feedback calls as numbers: of each, after how many steps it stands, and how many events it took
abbrev pub feedback_numbers : List FeedbackCall → List ℕ
feedback_numbers [] = []
feedback_numbers (call ∷ calls) = call.at ∷ call.count ∷ feedback_numbers calls

-- the numbers of the feedback calls of a kept list, newest first
abbrev pub call_numbers : List UEntry → List ℕ
call_numbers kept = feedback_numbers (calls_in kept)
