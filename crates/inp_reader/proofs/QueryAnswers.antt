-- What a one-thread device answers to a query, as far as a view is set by it.
use Rattle.std.proofs.Common.{◌≡◌, List, [], refl, sym, subst, ◌∙◌, false, Option, Some, None, ℤ, ℕ, ◌*◌}
use Rattle.std.proofs.Common.{length, take, drop, inl, inr, arith}
use Rattle.std.proofs.lemmas.List.{take-append-le}
use Rattle.inp_model.specs.declared.step.Step.{Step}
use Rattle.inp_model.specs.declared.step.Step.TheVariants.{SyncSlots}
use Rattle.inp_model.specs.declared.reply.Reply.{Reply}
use Rattle.inp_model.specs.declared.reply.Reply.TheVariants.{Cells, Refused}
use Rattle.inp_model.specs.declared.reply.Refusal.TheVariants.{NoMemory}
use Rattle.inp_model.specs.Description.{Description}
use Rattle.inp_model.specs.Evdev.{EvdevView, IsCall}
use Rattle.inp_model.specs.Past.{past_at}
use Rattle.inp_model.specs.Raw.{raw}
use Rattle.inp_model.specs.Run.{place_of}
use Rattle.inp_model.specs.Reply.{Answer, alone, answer_by, accepted, refused, is_accepted, written, IsAnswer}
use Rattle.inp_model.specs.Reply.{rows}
use Rattle.inp_model.proofs.Refused.{refused-not_accepted}
use Rattle.inp_recon.specs.declared.view.View.{View}
use Rattle.inp_recon.specs.View.{view_after_answer, cells_after_reply}
use Rattle.inp_recon.proofs.ViewSteps.{length-rows}

-- Any answer

-- an answer is that to an accepted step, or a reply alone that refuses it
pub answered-as : (d : Description) (past : List Step) (x : Step) (given : Answer) (P : Answer → Type 0)
    → IsAnswer d past x given
    → P (accepted d past x) → ((reply : Reply) → is_accepted reply ≡ false → P (alone reply)) → P given
answered-as d past x given P (inl e) accepts refuses = subst P (sym e) (by (refused d past x) refl)
  where
    by : (o : Option Reply) → refused d past x ≡ o → P (answer_by o (accepted d past x))
    by None h = accepts
    by (Some reply) h = refuses reply (refused-not_accepted d past x reply h)
answered-as d past x given P (inr l) accepts refuses =
    subst P (sym l.2) (refuses (Refused (length past) NoMemory) refl)

-- All values of all slots

-- What an answer sets

-- a buffer begins with what was written to it
take-written : (front buffer : List ℤ) (n : ℕ) → length front ≡ n
    → take n (written front buffer) ≡ take n front
take-written front buffer n h = take-append-le n front (drop (length front) buffer) (omega (arith, h))

not_accepted_cells : (reply : Reply) (front buffer cells : List ℤ) → is_accepted reply ≡ false
    → cells_after_reply reply front cells ≡ cells_after_reply reply buffer cells
not_accepted_cells (Cells at count slot) front buffer cells h = absurd cc
not_accepted_cells _ front buffer cells h = refl

told_cells : (d : Description) (past : List Step) (client : ℕ) (given : Answer) (cells own : List ℤ)
    → IsAnswer d past (SyncSlots client) given → length own ≡ 14 * d.slots
    → cells_after_reply given.reply (written given.cells cells) own
    ≡ cells_after_reply given.reply given.cells own
told_cells d past client given cells own are fits =
    answered-as d past (SyncSlots client) given
    (λ a. cells_after_reply a.reply (written a.cells cells) own ≡ cells_after_reply a.reply a.cells own) are
    (take-written (rows d (raw d past)) cells (length own) (length-rows d (raw d past) ∙ sym fits))
    (λ reply off. not_accepted_cells reply (written [] cells) [] own off)

-- a view is set by the answer alone, and not by what else is in the buffer
answered : (d : Description) (past : List Step) (x : Step) (given : Answer) (view : View) (cells : List ℤ)
    → IsAnswer d past x given → length view.cells ≡ 14 * d.slots
    → view_after_answer view x given.reply (written given.cells cells)
    ≡ view_after_answer view x given.reply given.cells
unfolding view_after_answer
answered d past (SyncSlots client) given view cells h fits =
    rw (told_cells d past client given cells view.cells h fits)
answered d past _ given view cells h fits = refl

-- a view takes of the buffer only what the answer wrote there, so the answer alone sets it
pub view-answered : (d : Description) (before after : EvdevView) (x : Step) (given : Answer) (reply : Reply)
    (cells new_cells : List ℤ) (view asked : View) → before.description ≡ d → length view.cells ≡ 14 * d.slots
    → IsCall before after (record { step = x; answer = given }) → reply ≡ given.reply
    → new_cells ≡ written given.cells cells → asked ≡ view_after_answer view x reply new_cells
    → asked ≡ view_after_answer view x given.reply given.cells
view-answered d before after x given reply cells new_cells view asked same fits call replied wrote set =
    let slots : length view.cells ≡ 14 * after.description.slots = rw (fits, ← same, ← call.description) in
    rw (set, replied, wrote)
    (answered after.description
    (past_at after.seen (place_of given.reply)) x given view cells call.placed.exact slots)
