-- The views that a reader keeps: no event and no answer sets an axis whose values belong to slots.
use Rattle.std.proofs.Common.{◌≡◌, ◌≢◌, ℕ, ◌*◌, ◌≤◌, ℤ, pos, true, false, cond, not, ◌&&◌, leb, ltb, eqb}
use Rattle.std.proofs.Common.{List, [], length, set, refl, sym, ap, ◌∙◌, arith}
use Rattle.std.proofs.lemmas.List.{get_or-set_other, get_or-replicate}
use Rattle.std.proofs.lemmas.Bool.{cond_both, and_parts, and_from, le-leb, not-true, true≢false}
use Rattle.inp_model.specs.declared.event.TheConstants.{EV_ABS}
use Rattle.inp_model.specs.declared.event.Event.{Event}
use Rattle.inp_model.specs.declared.step.Step.{Step}
use Rattle.inp_model.specs.declared.step.Step.TheVariants.{GetAxis, SyncSlots}
use Rattle.inp_model.specs.declared.reply.Reply.{Reply}
use Rattle.inp_model.specs.declared.reply.Reply.TheVariants.{Axis, Cells}
use Rattle.inp_model.specs.Description.{Description, is_multi_touch_code}
use Rattle.inp_model.specs.Event.{is_multi_touch}
use Rattle.inp_model.specs.Evdev.{EvdevView, IsCall}
use Rattle.inp_model.specs.Past.{past_at}
use Rattle.inp_model.specs.Raw.{raw}
use Rattle.inp_model.specs.Run.{Call, place_of}
use Rattle.inp_model.specs.Reply.{Answer, IsAnswer, is_accepted}
use Rattle.inp_recon.specs.declared.view.View.{View}
use Rattle.inp_recon.specs.View.{first_view, view_after_event, view_after_answer, with_value_at}
use Rattle.inp_recon.specs.View.{axes_after_event, axes_after_reply, AreCells, HasCells}
use Rattle.inp_recon.proofs.Answered.{axes_after_answer, view_after_answer-parts}
use Rattle.inp_recon.proofs.Sizes.{IsSizedFor-first_view, IsSizedFor-after_event, IsSizedFor-after_answer}
use Rattle.inp_reader.proofs.QueryAnswers.{answered-as}
use Rattle.inp_reader.specs.Synthesis.{value_at}
use Rattle.inp_reader.specs.KeptViews.{IsKeptView}
use Rattle.inp_recon.proofs.ViewSteps.{length-rows}

-- ---- one axis

pub multi_touch : (code : ℕ) → 47 ≤ code → code ≤ 61 → is_multi_touch_code code ≡ true
multi_touch code from to = and_from (leb 47 code) (leb code 61) (le-leb 47 code from) (le-leb code 61 to)

-- an axis of another code stays
pub other-stays : (axes : List ℤ) (code other : ℕ) (x : ℤ) → code ≢ other
    → value_at (with_value_at 64 axes other x) code ≡ value_at axes code
other-stays axes code other x h =
    let there = get_or-set_other axes other code x (pos 0) h in
    elim (ltb other 64) as (λ b. value_at (cond b (set axes other x) axes) code ≡ value_at axes code)
    [ true ↦ there | false ↦ refl ]

apart : (code other : ℕ) → is_multi_touch_code code ≡ true → is_multi_touch_code other ≡ false → code ≢ other
apart code other h m e = true≢false (sym h ∙ ap is_multi_touch_code e ∙ m)

-- an event that sets an axis sets one that is no slot's
sets-plain : (e : Event) → (eqb e.kind EV_ABS && not (is_multi_touch e)) ≡ true
    → (eqb e.kind EV_ABS ≡ true) × (is_multi_touch_code e.code ≡ false)
sets-plain e t =
    let both = and_parts (eqb e.kind EV_ABS) (not (is_multi_touch e)) t in (
      both.0,
      rw both.0 at (not-true (is_multi_touch e) both.1),
    )

-- after an answer
-- nor does an answer or an event on another one change it
pub other-after_reply : (axes : List ℤ) (code asked : ℕ) (reply : Reply)
    → (is_multi_touch_code asked ≡ false → code ≢ asked)
    → value_at (axes_after_reply asked reply axes) code ≡ value_at axes code
other-after_reply axes code asked (Axis at info) h =
    cond_both (is_multi_touch_code asked) _ _ (λ (xs : List ℤ). value_at xs code ≡ value_at axes code)
    (λ _. refl) (λ m. other-stays axes code asked info.value (h m))
other-after_reply axes code asked _ h = refl

-- an event sets no axis but the one that it names, and none whose values belong to slots
pub other-after_event : (axes : List ℤ) (code : ℕ) (e : Event)
    → (eqb e.kind EV_ABS ≡ true → is_multi_touch_code e.code ≡ false → code ≢ e.code)
    → value_at (axes_after_event axes e) code ≡ value_at axes code
other-after_event axes code e h =
    cond_both (eqb e.kind EV_ABS && not (is_multi_touch e)) (with_value_at 64 axes e.code e.value) axes
    (λ (xs : List ℤ). value_at xs code ≡ value_at axes code)
    (λ t. let own = sets-plain e t in other-stays axes code e.code e.value (h own.0 own.1)) (λ _. refl)

axis-answer : (axes : List ℤ) (code : ℕ) (x : Step) (reply : Reply) → is_multi_touch_code code ≡ true
    → value_at (axes_after_answer x reply axes) code ≡ value_at axes code
axis-answer axes code (GetAxis client asked) reply h =
    other-after_reply axes code asked reply (apart code asked h)
axis-answer axes code _ reply h = refl

-- ---- a view

-- a new view is sized for the slots and has all axes at 0
pub IsKeptView-first_view : (d : Description) → IsKeptView d (first_view d)
unfolding first_view
IsKeptView-first_view d =
    record {
      sized = IsSizedFor-first_view d;
      axes =
          λ code from to. get_or-replicate 64 code (pos 0) (pos 0) (omega (arith, to));
    }

-- an event changes no size, and sets no axis whose values belong to slots
pub IsKeptView-after_event : (d : Description) (v : View) (e : Event) → IsKeptView d v
    → IsKeptView d (view_after_event v e)
unfolding view_after_event
IsKeptView-after_event d v e h = record {
  sized = IsSizedFor-after_event d.slots v e h.sized;
  axes = λ code from to.
      other-after_event v.axes code e (λ _ own. apart code e.code (multi_touch code from to) own)
      ∙ h.axes code from to;
}

IsKeptView-after_answer : (d : Description) (v : View) (x : Step) (reply : Reply) (buffer : List ℤ)
    → HasCells x reply v.cells buffer → IsKeptView d v → IsKeptView d (view_after_answer v x reply buffer)
IsKeptView-after_answer d v x reply buffer room h = record {
  sized = IsSizedFor-after_answer d.slots v x reply buffer room h.sized;
  axes = λ code from to. rw (view_after_answer-parts v x reply buffer)
      (axis-answer v.axes code x reply (multi_touch code from to) ∙ h.axes code from to);
}

-- ---- an answer that an evdev gave tells the values of all slots, where it tells any

refused_cells : (reply : Reply) (cells buffer : List ℤ) → is_accepted reply ≡ false
    → AreCells reply cells buffer
refused_cells (Cells at count slot) cells buffer h = absurd cc
refused_cells _ cells buffer h = tt

-- the answer that tells the values of slots tells all of them, and a refusal tells none
pub has_cells : (d : Description) (past : List Step) (x : Step) (given : Answer) (cells : List ℤ)
    → IsAnswer d past x given → length cells ≡ 14 * d.slots → HasCells x given.reply cells given.cells
has_cells d past (SyncSlots client) given cells are fits =
    answered-as d past (SyncSlots client) given (λ a. AreCells a.reply cells a.cells) are
    (omega (arith, fits, length-rows d (raw d past)))
    (λ reply off. refused_cells reply cells [] off)
has_cells d past _ given cells h fits = tt

-- an answer changes no size, and sets no axis whose values belong to slots
pub IsKeptView-after_call : (d : Description) (before after : EvdevView) (v : View) (call : Call)
    → before.description ≡ d → IsCall before after call → IsKeptView d v
    → IsKeptView d (view_after_answer v call.step call.answer.reply call.answer.cells)
IsKeptView-after_call d before after v call same is h =
    let fits : length v.cells ≡ 14 * after.description.slots = rw (h.sized.cells, ← same, ← is.description) in
    IsKeptView-after_answer d v call.step call.answer.reply call.answer.cells
    (has_cells after.description
    (past_at after.seen (place_of call.answer.reply)) call.step call.answer v.cells is.placed.exact fits) h
