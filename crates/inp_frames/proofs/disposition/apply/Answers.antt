use Rattle.std.proofs.Common.{◌≡◌, sym, ◌∙◌, ap, rules, FitsSigned, w32, to_z, of_z}
use Rattle.std.proofs.lemmas.Int.{to_z-of_z}
use Rattle.inp_caps.specs.Disposition.{flags_after}
use Rattle.inp_state.proofs.Steps.{StateStandsFor-multi_touch}
use Rattle.inp_slots.specs.Slots.{touch}
use Rattle.inp_slots.proofs.Others.{SlotsStandFor-other}
use Rattle.inp_frames.proofs.PassedEvents.{touches}
use Rattle.inp_frames.proofs.disposition.apply.Goals as goal

-- the event that the slots were given
touched : (c : goal.After-apply)
    → touch c.args.event.code (to_z w32 (of_z w32 c.args.event.value)) ≡ c.args.event
touched c =
    let fits : FitsSigned w32 c.args.event.value = search rules in
    touches c.args.event (to_z w32 (of_z w32 c.args.event.value)) (sym c.is_multi_touch.ensures.multi_touch
    ∙ c.if-is_multi_touch.true) (to_z-of_z w32 c.args.event.value fits)

pub returns-then-is_multi_touch-clause-state : goal.returns-then-is_multi_touch-clause-state
returns-then-is_multi_touch-clause-state c =
    λ r h. StateStandsFor-multi_touch c.args.caps.now r c.args.state.now c.args.event
    (sym c.is_multi_touch.ensures.multi_touch ∙ c.if-is_multi_touch.true) h

pub returns-then-is_multi_touch-clause-slots : goal.returns-then-is_multi_touch-clause-slots
returns-then-is_multi_touch-clause-slots c =
    λ r h. rw touched at (c.apply.ensures.stands r h)

pub returns-then-is_multi_touch-clause-disposition : goal.returns-then-is_multi_touch-clause-disposition
returns-then-is_multi_touch-clause-disposition c =
    λ r h k. c.apply.ensures.disposition r k ∙ ap (flags_after c.args.caps.now r) (touched c)

pub returns-then-is_multi_touch-clause-value : goal.returns-then-is_multi_touch-clause-value
returns-then-is_multi_touch-clause-value c =
    λ r h k. rw (← touched, ← c.apply.ensures.value)

pub returns-else-is_multi_touch-clause-slots : goal.returns-else-is_multi_touch-clause-slots
returns-else-is_multi_touch-clause-slots c =
    λ r h. SlotsStandFor-other c.args.caps.now r c.args.slots.now c.args.event
    (sym c.is_multi_touch.ensures.multi_touch ∙ c.if-is_multi_touch.false) h

pub returns-else-is_multi_touch-clause-value : goal.returns-else-is_multi_touch-clause-value
returns-else-is_multi_touch-clause-value c = λ r h k. c.apply-else-is_multi_touch.ensures.value r h
