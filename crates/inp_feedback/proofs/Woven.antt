-- A kept list is made of its steps and its feedback calls, and is told by them.
use Rattle.std.proofs.Common.{◌≡◌, List, [], ◌∷◌, ◌++◌, length, map, refl, ap, ◌∙◌, arith, ℕ}
use Rattle.inp_model.specs.declared.step.Step.{Step}
use Rattle.inp_feedback.specs.declared.u_entry.UEntry.{UEntry}
use Rattle.inp_feedback.specs.declared.u_entry.UEntry.TheVariants.{Made, Feedback}
use Rattle.inp_feedback.specs.declared.feedback_call.FeedbackCall.{FeedbackCall}
use Rattle.inp_feedback.specs.UEntry.{steps_in}
use Rattle.inp_feedback.specs.KeptList.{kept_of, StandsWithin, calls_in, feedback_numbers, call_numbers}
use Rattle.inp_feedback.proofs.Lists.{kept_of-nothing, kept_of-made, kept_of-fed, within-more}

-- The kept list of its own steps and calls

pub calls-within : (kept : List UEntry) → StandsWithin (length (steps_in kept)) (calls_in kept)
calls-within [] = tt
calls-within (Made x ∷ kept) = within-more (length (steps_in kept)) (calls_in kept) (calls-within kept)
calls-within (Feedback count ∷ kept) = omega arith

pub kept-woven : (kept : List UEntry) → kept_of (steps_in kept) (calls_in kept) ≡ kept
kept-woven [] = kept_of-nothing
kept-woven (Made x ∷ kept) =
    kept_of-made (steps_in kept) (calls_in kept) x (calls-within kept)
    ∙ ap (λ (es : List UEntry). Made x ∷ es) (kept-woven kept)
kept-woven (Feedback count ∷ kept) =
    let call : FeedbackCall = record { at = length (steps_in kept); count = count } in
    kept_of-fed (steps_in kept) (calls_in kept) call refl
    ∙ ap (λ (es : List UEntry). Feedback count ∷ es) (kept-woven kept)

-- The calls in order

-- The calls of a kept list that was made of them

-- More steps

within-longer : (more past : List Step) (calls : List FeedbackCall) → StandsWithin (length past) calls
    → StandsWithin (length (more ++ past)) calls
within-longer [] past calls h = h
within-longer (x ∷ more) past calls h =
    within-more (length (more ++ past)) calls (within-longer more past calls h)

pub kept-longer : (more past : List Step) (calls : List FeedbackCall) → StandsWithin (length past) calls
    → kept_of (more ++ past) calls ≡ map Made more ++ kept_of past calls
kept-longer [] past calls h = refl
kept-longer (x ∷ more) past calls h =
    kept_of-made (more ++ past) calls x (within-longer more past calls h)
    ∙ ap (λ (es : List UEntry). Made x ∷ es) (kept-longer more past calls h)

-- The numbers of feedback calls tell them

calls-apart : (calls others : List FeedbackCall) → feedback_numbers calls ≡ feedback_numbers others
    → calls ≡ others
calls-apart [] [] h = refl
calls-apart [] (other ∷ others) h = absurd (cc h)
calls-apart (call ∷ calls) [] h = absurd (cc h)
calls-apart (call ∷ calls) (other ∷ others) h =
    let at : call.at ≡ other.at = cc h in
    let count : call.count ≡ other.count = cc h in
    let rest : feedback_numbers calls ≡ feedback_numbers others = cc h in
    ap (λ (n : ℕ). record { at = n; count = call.count } ∷ calls) at
    ∙ ap (λ (n : ℕ). record { at = other.at; count = n } ∷ calls) count
    ∙ ap (λ (cs : List FeedbackCall). other ∷ cs) (calls-apart calls others rest)

pub numbers-apart : (kept others : List UEntry) → call_numbers kept ≡ call_numbers others
    → calls_in kept ≡ calls_in others
numbers-apart kept others h = calls-apart (calls_in kept) (calls_in others) h
