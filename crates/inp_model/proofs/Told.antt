-- What the caller of a device is told of a step.
use Rattle.std.proofs.Common.{◌≡◌, ℕ, suc, Bool, true, false, if◌then◌else◌, List, [], ◌∷◌, ◌++◌, length}
use Rattle.std.proofs.Common.{reverse, refl, sym, ap, subst, ◌∙◌, ℤ, arith, inl, inr, Option, Some, None}
use Rattle.std.specs.Prelude.{slice_get}
use Rattle.std.specs.List.{range_with_len}
use Rattle.std.proofs.Math.Seq.{take-append_seam}
use Rattle.std.proofs.lemmas.List.{length-reverse, reverse-reverse, reverse-append, append-nil}
use Rattle.inp_model.specs.declared.taken.Taken.{Taken}
use Rattle.inp_model.specs.declared.step.Step.{Step}
use Rattle.inp_model.specs.declared.step.Step.TheVariants.{Open}
use Rattle.inp_model.specs.declared.reply.Reply.{Reply}
use Rattle.inp_model.specs.Description.{Description}
use Rattle.inp_model.specs.Past.{past_at}
use Rattle.inp_model.specs.DeviceView.{DeviceView, evdev_view}
use Rattle.inp_model.specs.Left.{eaten}
use Rattle.inp_model.specs.Reply.{Answer, IsAnswer, Case, first_reply, refusals, refused, accepted, answer_by}
use Rattle.inp_model.specs.Reply.{is_accepted, IsDeviceStep}
use Rattle.inp_model.specs.Run.{Call, place_of}
use Rattle.inp_model.specs.Evdev.{agains_after, IsCall, IsEvdevCall}
use Rattle.inp_model.proofs.Opens.{range-more}
use Rattle.inp_model.proofs.Refused.{accepted-unrefused}
use Rattle.inp_model.specs.History.{IsHistory}

-- The place of every answer is the length of the past

abbrev AtPlace : ℕ → List Case → Type 0
AtPlace n [] = Unit {0}
AtPlace n (c ∷ cs) = (place_of c.reply ≡ n) × AtPlace n cs

some_same : (a b : Reply) → Some a ≡ Some b → a ≡ b
some_same a b e = cc

place_by : (n : ℕ) (holds : Bool) (reply is : Reply) (rest : Option Reply) → place_of reply ≡ n
    → (rest ≡ Some is → place_of is ≡ n) → (if holds then Some reply else rest) ≡ Some is → place_of is ≡ n
place_by n true reply is rest here others h = ap place_of (sym (some_same reply is h)) ∙ here
place_by n false reply is rest here others h = others h

first_place : (n : ℕ) (cs : List Case) (reply : Reply) → AtPlace n cs → first_reply cs ≡ Some reply
    → place_of reply ≡ n
first_place n [] reply at h = absurd (cc h)
first_place n (c ∷ cs) reply at h =
    place_by n c.holds c.reply reply (first_reply cs) at.0 (first_place n cs reply at.1) h

accepted-place : (d : Description) (past : List Step) (x : Step)
    → place_of (accepted d past x).reply ≡ length past
accepted-place d past Open = refl
accepted-place d past x = refl

answer_place : (d : Description) (past : List Step) (x : Step) (o : Option Reply) → o ≡ refused d past x
    → place_of (answer_by o (accepted d past x)).reply ≡ length past
answer_place d past x None h = accepted-place d past x
answer_place d past x (Some reply) h =
    first_place (length past) (refusals (eaten d) d past x) reply
    (refl, (refl, (refl, (refl, (refl, (refl, (refl, (refl, (refl, (refl, tt)))))))))) (sym h)

pub given_place : (d : Description) (past : List Step) (x : Step) (given : Answer) → IsAnswer d past x given
    → place_of given.reply ≡ length past
given_place d past x given (inl e) = rw e (answer_place d past x (refused d past x) refl)
given_place d past x given (inr lacks) = rw lacks.2

-- The history that is seen

slice_get-seam : (xs : List Step) (x : Step) → slice_get (xs ++ x ∷ []) (length xs) ≡ Some x
slice_get-seam [] x = refl
slice_get-seam (y ∷ xs) x = slice_get-seam xs x

seam_at : (xs : List Step) (x : Step) (n : ℕ) → n ≡ length xs → slice_get (xs ++ x ∷ []) n ≡ Some x
seam_at xs x n e = ap (slice_get (xs ++ x ∷ [])) e ∙ slice_get-seam xs x

-- the past before the step, of the history with it or without it
past_at_end : (past : List Step) (more : List Step) (n : ℕ) → n ≡ length past
    → past_at (reverse past ++ more) n ≡ past
past_at_end past more n e = rw (e, ← length-reverse, take-append_seam) (reverse-reverse past)

-- one step more, oldest first
pub turned : (past : List Step) (x : Step) → reverse (x ∷ past) ≡ reverse past ++ x ∷ []
turned past x =
    ap reverse
    (sym (reverse-append (reverse past) (x ∷ []) ∙ ap (λ (ss : List Step). x ∷ ss) (reverse-reverse past)))
    ∙ reverse-reverse (reverse past ++ x ∷ [])

pub called_by : (d : Description) (past : List Step) (agains : ℕ) (x : Step) (given : Answer) (b : Bool)
    → is_accepted given.reply ≡ b → place_of given.reply ≡ length past → IsAnswer d past x given
    → IsHistory d past
    → (let before : DeviceView = record { description = d; past = past; agains = agains } in
    let after : DeviceView =
    record {
      description = d;
      past = (if b then x ∷ past else past);
      agains = agains_after given.reply agains;
    } in
    let call : Call = record { step = x; answer = given } in
    IsCall (evdev_view before) (evdev_view after) call)
called_by d past agains x given true enters placed exact h =
    let whole : length (reverse (x ∷ past)) ≡ suc (length past) = length-reverse (x ∷ past) in
    record {
      description = refl;
      tie = refl;
      seen = (x ∷ [], turned past x);
      fresh = omega (arith, length-reverse past, placed);
      long = whole ∙ ap suc (sym placed) ∙ sym (rw enters);
      placed = record {
        within = omega (arith, placed, whole);
        exact = rw (turned, past_at_end) exact;
        entered =
            λ h.
            rw turned (seam_at (reverse past) x (place_of given.reply) (placed ∙ sym (length-reverse past)));
      };
      own = range-more 0 (length past)
          ∙ ap (λ (n : ℕ). range_with_len 0 (length past) ++ n ∷ []) (omega (arith, placed))
          ∙ sym
          (ap (λ b. if b then range_with_len 0 (length past) ++ place_of given.reply ∷ []
          else range_with_len 0 (length past)) enters);
      agains = refl;
      turns = tt;
      rises = λ _. tt;
      history =
          subst (IsHistory d) (sym (reverse-reverse (x ∷ past)))
          (h, accepted-unrefused d past x given exact enters);
    }
called_by d past agains x given false enters placed exact h =
    record {
      description = refl;
      tie = refl;
      seen = ([], sym (append-nil (reverse past)));
      fresh = omega (arith, length-reverse past, placed);
      long = length-reverse past ∙ sym placed ∙ sym (rw enters);
      placed = record {
        within = omega (arith, length-reverse past, placed);
        exact = rw (← past_at_end past [] (place_of given.reply) placed, append-nil) at exact;
        entered = λ h. absurd (cc (h, enters));
      };
      own = sym (rw enters);
      agains = refl;
      turns = tt;
      rises = λ _. tt;
      history = subst (IsHistory d) (sym (reverse-reverse past)) h;
    }

pub evdev_called : (before after : DeviceView) (x : Step) (reply : Reply) (out new_out : List Taken)
    (cells new_cells : List ℤ)
    → IsDeviceStep before.description before.past x reply out new_out cells new_cells after.past
    → after.description ≡ before.description → after.agains ≡ agains_after reply before.agains
    → IsHistory before.description before.past
    → IsEvdevCall (evdev_view before) (evdev_view after) x reply out new_out cells new_cells
evdev_called before after x reply out new_out cells new_cells step same counted history =
    let given : Answer = step.given in
    let placed : place_of given.reply ≡ length before.past =
    given_place before.description before.past x given step.exact in
    let entered : after.past ≡ (if is_accepted given.reply then x ∷ before.past else before.past) =
    rw (step.entered, step.replied) in
    let now : DeviceView =
    record {
      description = before.description;
      past = (if is_accepted given.reply then x ∷ before.past else before.past);
      agains = agains_after given.reply before.agains;
    } in
    let is : now ≡ after = rw (← same, ← entered, ← step.replied, ← counted) in
    record {
      call = record { step = x; answer = given };
      step = refl;
      replied = step.replied;
      out_written = step.out_written;
      cells_written = step.cells_written;
      is_call = rw (← is)
          (called_by before.description before.past before.agains x given
          (is_accepted given.reply) refl placed step.exact history);
      turns = tt;
    }
