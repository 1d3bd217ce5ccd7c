-- The kept list of a past and of feedback calls.
use Rattle.std.proofs.Common.{◌≡◌, ℕ, suc, ◌-◌, List, [], ◌∷◌, ◌++◌, length, take, drop, map, reverse, refl}
use Rattle.std.proofs.Common.{sym, ap, ◌∙◌, arith}
use Rattle.std.specs.Prelude.{filter}
use Rattle.std.proofs.lemmas.List.{take-append-drop, reverse-append, reverse-reverse}
use Rattle.std.proofs.lemmas.List.Elements.{filter_map-append, filter-append}
use Rattle.inp_model.specs.declared.step.Step.{Step}
use Rattle.inp_feedback.specs.declared.u_entry.UEntry.{UEntry}
use Rattle.inp_feedback.specs.declared.u_entry.UEntry.TheVariants.{Made, Feedback}
use Rattle.inp_feedback.specs.declared.feedback_call.FeedbackCall.{FeedbackCall}
use Rattle.inp_feedback.specs.UEntry.{step_made, is_feedback, steps_in, feedback_count}
use Rattle.inp_feedback.specs.KeptList.{kept_of, StandsWithin}

-- one item more, in the other order
pub reverse-cons : {X : Type 0} (xs : List X) (x : X) → reverse (x ∷ xs) ≡ reverse xs ++ x ∷ []
reverse-cons xs x =
    ap reverse (sym (reverse-append (reverse xs) (x ∷ []) ∙ ap (λ ys. x ∷ ys) (reverse-reverse xs)))
    ∙ reverse-reverse (reverse xs ++ x ∷ [])

-- the steps

pub steps-made : (past : List Step) → steps_in (map Made past) ≡ past
steps-made [] = refl
steps-made (x ∷ past) = ap (λ xs. x ∷ xs) (steps-made past)

pub steps_in-kept_of : (past : List Step) (calls : List FeedbackCall) → steps_in (kept_of past calls) ≡ past
unfolding kept_of
steps_in-kept_of past [] = steps-made past
steps_in-kept_of past (call ∷ calls) =
    let later : ℕ = length past - call.at in
    filter_map-append step_made (map Made (take later past))
    (Feedback call.count ∷ kept_of (drop later past) calls)
    ∙ ap (λ xs. xs ++ steps_in (kept_of (drop later past) calls)) (steps-made (take later past))
    ∙ ap (λ xs. take later past ++ xs) (steps_in-kept_of (drop later past) calls)
    ∙ take-append-drop later past

-- the feedback calls

calls-made : (past : List Step) → filter is_feedback (map Made past) ≡ []
calls-made [] = refl
calls-made (x ∷ past) = calls-made past

pub feedback_count-kept_of : (past : List Step) (calls : List FeedbackCall)
    → feedback_count (kept_of past calls) ≡ length calls
unfolding kept_of
feedback_count-kept_of past [] = ap length (calls-made past)
feedback_count-kept_of past (call ∷ calls) =
    let later : ℕ = length past - call.at in
    let rest : List UEntry = kept_of (drop later past) calls in
    ap length (filter-append is_feedback (map Made (take later past)) (Feedback call.count ∷ rest)
    ∙ ap (λ es. es ++ filter is_feedback (Feedback call.count ∷ rest)) (calls-made (take later past)))
    ∙ ap suc (feedback_count-kept_of (drop later past) calls)

-- none

pub kept_of-nothing : kept_of [] [] ≡ []
unfolding kept_of
kept_of-nothing = refl

-- one more of each

pub kept_of-made : (past : List Step) (calls : List FeedbackCall) (x : Step)
    → StandsWithin (length past) calls → kept_of (x ∷ past) calls ≡ Made x ∷ kept_of past calls
unfolding kept_of
kept_of-made past [] x h = refl
kept_of-made past (call ∷ calls) x h =
    let more : length (x ∷ past) - call.at ≡ suc (length past - call.at) = omega arith in
    ap (λ later. map Made (take later (x ∷ past)) ++ Feedback call.count
    ∷ kept_of (drop later (x ∷ past)) calls) more

pub kept_of-fed : (past : List Step) (calls : List FeedbackCall) (call : FeedbackCall) → call.at ≡ length past
    → kept_of past (call ∷ calls) ≡ Feedback call.count ∷ kept_of past calls
unfolding kept_of
kept_of-fed past calls call h =
    let none : length past - call.at ≡ 0 = omega arith in
    ap (λ later. map Made (take later past) ++ Feedback call.count ∷ kept_of (drop later past) calls) none

-- a feedback call that is within stays so
pub within-more : (count : ℕ) (calls : List FeedbackCall) → StandsWithin count calls
    → StandsWithin (suc count) calls
within-more count [] h = tt
within-more count (call ∷ calls) h = omega arith
