-- What each refusal has, and the answer to each accepted step, every answer of a device has. So it writes as
-- many events as its reply says.
use Rattle.std.proofs.Common.{◌≡◌, ℕ, true, false, List, [], ◌∷◌, length, None, refl, sym, ap, subst, ◌∙◌}
use Rattle.std.proofs.Common.{inl, inr}
use Rattle.std.proofs.lemmas.List.{length-map}
use Rattle.std.proofs.lemmas.Bool.{cond_both}
use Rattle.inp_model.specs.Reply.{Case, refused, first_reply, refusals, alone, taken_of}
use Rattle.inp_script.proofs.Common.{Step, Reply, Description, lacks_memory, Answer, answer, answer_by}
use Rattle.inp_script.proofs.Common.{accepted, is_accepted, IsAnswer, count_taken}
use Rattle.inp_model.specs.declared.step.Step.TheVariants.{Open, Read}
use Rattle.inp_model.specs.declared.reply.Reply.TheVariants.{Again, Refused}
use Rattle.inp_model.specs.declared.reply.Refusal.{Refusal}
use Rattle.inp_model.specs.declared.reply.Refusal.TheVariants.{BadClient, NoDevice, BadKind, BadCode, BadInfo}
use Rattle.inp_model.specs.declared.reply.Refusal.TheVariants.{Busy, NotGrabber, TooMany, LogFull}
use Rattle.inp_model.specs.Past.{ends}
use Rattle.inp_model.specs.Left.{eaten}
use Rattle.inp_model.specs.Queue.{taken_by}

-- an answer to a step that is refused, though not for want of memory
pub record IsRefusal (given : Answer) : Type 0 where
  -- it is no accepted reply
  pub accepted : is_accepted given.reply ≡ false
  -- it is not for want of memory
  pub memory : lacks_memory given.reply ≡ false
  -- its reply tells how many events it brings
  pub counted : length given.events ≡ count_taken given.reply
  -- it brings no events
  pub none : given.events ≡ []

-- the replies of all cases are such
abbrev AreRefusals : List Case → Type 0
AreRefusals [] = Unit {0}
AreRefusals (case ∷ cases) = IsRefusal (alone case.reply) × AreRefusals cases

refused_as : (at : ℕ) (why : Refusal) → lacks_memory (Refused at why) ≡ false
    → IsRefusal (alone (Refused at why))
refused_as at why h = record { accepted = refl; memory = h; counted = refl; none = refl }

again_as : (at n : ℕ) → IsRefusal (alone (Again at n))
again_as at n = record { accepted = refl; memory = refl; counted = refl; none = refl }

infixr 10 ◌▸◌
abbrev ◌▸◌ : {P Q : Type 0} → P → Q → P × Q
p ▸ q = (p, q)

are_refusals : (d : Description) (past : List Step) (x : Step) → AreRefusals (refusals (eaten d) d past x)
are_refusals d past x =
    let at = length past in
    refused_as at BadClient refl
    ▸ refused_as at NoDevice refl
    ▸ refused_as at BadKind refl
    ▸ refused_as at BadCode refl
    ▸ refused_as at BadInfo refl
    ▸ again_as at (ends past)
    ▸ refused_as at Busy refl
    ▸ refused_as at NotGrabber refl
    ▸ refused_as at TooMany refl
    ▸ refused_as at LogFull refl
    ▸ tt

-- what each refusal has, and another answer, the answer by the cases has
by_cases : (P : Answer → Type 0) (cases : List Case) (given : Answer) → AreRefusals cases
    → ((refusal : Answer) → IsRefusal refusal → P refusal) → (first_reply cases ≡ None → P given)
    → P (answer_by (first_reply cases) given)
by_cases P [] given are each p = p refl
by_cases P (case ∷ cases) given are each p =
    (cond_both case.holds _ _ (λ o. (o ≡ None → P given) → P (answer_by o given))
    (λ _ _. each (alone case.reply) are.0) (λ _. by_cases P cases given are.1 each)) p

-- what each refusal has, and the answer to an accepted step, the answer has
pub answer_has : (P : Answer → Type 0) (d : Description) (past : List Step) (x : Step)
    → ((refusal : Answer) → IsRefusal refusal → P refusal) → (refused d past x ≡ None → P (accepted d past x))
    → P (answer d past x)
answer_has P d past x each p =
    by_cases P (refusals (eaten d) d past x) (accepted d past x) (are_refusals d past x) each p

-- the same of what any evdev answers, where it holds of the want of memory at an Open too
pub is_answer_has : (P : Answer → Type 0) (d : Description) (past : List Step) (x : Step) (given : Answer)
    → IsAnswer d past x given → ((refusal : Answer) → IsRefusal refusal → P refusal)
    → (refused d past x ≡ None → P (accepted d past x))
    → (x ≡ Open → lacks_memory given.reply ≡ true → is_accepted given.reply ≡ false → given.events ≡ []
    → P given) → P given
is_answer_has P d past x given (inl h) each p lack = subst P (sym h) (answer_has P d past x each p)
is_answer_has P d past x given (inr h) each p lack = lack h.0 (rw h.2) (rw h.2) (rw h.2)

-- An answer tells how many events were written

count_when_accepted : (d : Description) (past : List Step) (x : Step)
    → length (accepted d past x).events ≡ count_taken (accepted d past x).reply
count_when_accepted d past (Read client count) =
    length-map (taken_by d past client (Read client count)) taken_of
count_when_accepted d past _ = refl

lacking_counts : (reply : Reply) → lacks_memory reply ≡ true → count_taken reply ≡ 0
lacking_counts (Refused at why) h = refl
lacking_counts _ h = absurd cc

-- an accepted read says how many events it brings, and any other answer brings none
pub events-counted : (d : Description) (past : List Step) (x : Step) (given : Answer)
    → IsAnswer d past x given → length given.events ≡ count_taken given.reply
events-counted d past x given h =
    is_answer_has (λ a. length a.events ≡ count_taken a.reply) d past x given h (λ refusal is. is.counted)
    (λ none. count_when_accepted d past x)
    (λ opened lack not_in none. ap length none ∙ sym (lacking_counts given.reply lack))
