-- A refused step is not entered, and nothing refuses one that is.
use Rattle.std.proofs.Common.{◌≡◌, Bool, true, false, if◌then◌else◌, List, [], ◌∷◌, refl, sym, ap, ◌∙◌, inl}
use Rattle.std.proofs.Common.{inr, Option, Some, None}
use Rattle.std.proofs.lemmas.Bool.{true≢false}
use Rattle.inp_model.specs.declared.step.Step.{Step}
use Rattle.inp_model.specs.declared.reply.Reply.{Reply}
use Rattle.inp_model.specs.Description.{Description}
use Rattle.inp_model.specs.Left.{eaten}
use Rattle.inp_model.specs.Reply.{Answer, Case, IsAnswer, first_reply, refusals, refused, accepted, answer_by}
use Rattle.inp_model.specs.Reply.{is_accepted}

-- no case has the reply of an accepted step
abbrev AllRefuse : List Case → Type 0
AllRefuse [] = Unit {0}
AllRefuse (case ∷ cases) = (is_accepted case.reply ≡ false) × AllRefuse cases

first_if : (holds : Bool) (given reply : Reply) (rest : Option Reply) → is_accepted given ≡ false
    → (rest ≡ Some reply → is_accepted reply ≡ false) → (if holds then Some given else rest) ≡ Some reply
    → is_accepted reply ≡ false
first_if true given reply rest h later e = let same : given ≡ reply = cc in ap is_accepted (sym same) ∙ h
first_if false given reply rest h later e = later e

first_reply-refuses : (cases : List Case) (reply : Reply) → AllRefuse cases → first_reply cases ≡ Some reply
    → is_accepted reply ≡ false
first_reply-refuses [] reply h e = absurd cc
first_reply-refuses (case ∷ cases) reply h e =
    first_if case.holds case.reply reply (first_reply cases) h.0 (first_reply-refuses cases reply h.1) e

pub refused-not_accepted : (d : Description) (past : List Step) (x : Step) (reply : Reply)
    → refused d past x ≡ Some reply → is_accepted reply ≡ false
refused-not_accepted d past x reply h =
    first_reply-refuses (refusals (eaten d) d past x) reply
    (refl, (refl, (refl, (refl, (refl, (refl, (refl, (refl, (refl, (refl, tt)))))))))) h

pub unrefused_by : (d : Description) (past : List Step) (x : Step) (o : Option Reply) → refused d past x ≡ o
    → is_accepted (answer_by o (accepted d past x)).reply ≡ true → o ≡ None
unrefused_by d past x None h is = refl
unrefused_by d past x (Some reply) h is = absurd (true≢false (sym is ∙ refused-not_accepted d past x reply h))

-- nothing refuses a step whose reply is that of an accepted one
pub accepted-unrefused : (d : Description) (past : List Step) (x : Step) (given : Answer)
    → IsAnswer d past x given → is_accepted given.reply ≡ true → refused d past x ≡ None
accepted-unrefused d past x given (inl same) is =
    unrefused_by d past x (refused d past x) refl (rw (← same) is)
accepted-unrefused d past x given (inr lacks) is = lacks.1
