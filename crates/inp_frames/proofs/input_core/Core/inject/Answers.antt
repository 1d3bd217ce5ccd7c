use Rattle.std.proofs.Common.{◌≡◌, false, true, [], ◌∷◌, sym, subst, ◌∙◌, rules, FitsSigned, w32, to_z, of_z}
use Rattle.std.proofs.lemmas.Bool.{true≢false}
use Rattle.std.proofs.lemmas.Int.{to_z-of_z}
use Rattle.std.proofs.Math.Bool.{and-false}
use Rattle.inp_model.specs.RawItem.{Occurred}
use Rattle.inp_model.specs.Passed.{goes_to_device}
use Rattle.inp_model.specs.Raw.{raw}
use Rattle.inp_frames.specs.Core.{StandsAfter, CoreStandsFor}
use Rattle.inp_frames.specs.contracts.input_core.Core.{the_view}
use Rattle.inp_frames.proofs.HandledEvents.{Handles-none, Handles-from, adds, handles-more, handles-cut}
use Rattle.inp_frames.proofs.PassedEvents.{passed-by, goes-by}
use Rattle.inp_frames.proofs.EnteredSteps.{enters-inject, enters-write}
use Rattle.inp_frames.proofs.input_core.Core.inject.Goals as goal

-- While the device is inhibited nothing is handled

pub returns-then-ignored-clause-handled : goal.returns-then-ignored-clause-handled
returns-then-ignored-clause-handled g c = λ awake.
    let here : c.args.self.now.inhibited ≡ true = sym (rw (← c.self.view_is)) ∙ c.if-ignored.true in
    absurd (true≢false (sym here ∙ awake))

pub returns-then-ignored-clause-enters_inject : goal.returns-then-ignored-clause-enters_inject
returns-then-ignored-clause-enters_inject g c = λ past h.
    let here : c.args.self.now.inhibited ≡ true = sym (rw (← c.self.view_is)) ∙ c.if-ignored.true in
    enters-inject c.args.caps.now past c.args.event c.args.now
    [] g.F.Frames.takes c.args.self.now c.args.self.now c.args.to.now c.args.to.now h (rw here)
    (Handles-none c.args.caps.now
    (raw c.args.caps.now past) c.args.now g.F.Frames.takes c.args.self.now c.args.to.now h.raw_events)

pub returns-then-ignored-clause-enters_write : goal.returns-then-ignored-clause-enters_write
returns-then-ignored-clause-enters_write g c = λ past client h.
    let here : c.args.self.now.inhibited ≡ true = sym (rw (← c.self.view_is)) ∙ c.if-ignored.true in
    enters-write c.args.caps.now past client c.args.event c.args.now
    [] g.F.Frames.takes c.args.self.now c.args.self.now c.args.to.now c.args.to.now h (rw here)
    (Handles-none c.args.caps.now
    (raw c.args.caps.now past) c.args.now g.F.Frames.takes c.args.self.now c.args.to.now h.raw_events)

pub returns-then-ignored-clause-sends : goal.returns-then-ignored-clause-sends
returns-then-ignored-clause-sends g c = λ past h.
    let goes = goes_to_device c.args.caps.now (raw c.args.caps.now past) c.args.event in
    let here : c.args.self.now.inhibited ≡ true = sym (rw (← c.self.view_is)) ∙ c.if-ignored.true in
    rw (here, and-false) (sym (rw (← h.inhibited, here) (and-false goes)))

-- The event ends no frame

pub returns-then-not-cut-clause-handled : goal.returns-then-not-cut-clause-handled
returns-then-not-cut-clause-handled g c = λ awake r h.
    let at : StandsAfter c.args.caps.now r (the_view c.self.inside) =
    subst (StandsAfter c.args.caps.now r) (sym c.self.view_is) h in
    let value_fits : FitsSigned w32 c.apply-value.result.1 = search rules in
    let slot_fits : FitsSigned w32 c.announced-slot.result = search rules in
    let passes =
    passed-by c.args.caps.now r c.args.event _ (to_z w32 (of_z w32 c.apply-value.result.1))
    (to_z w32 (of_z w32 c.announced-slot.result))
    (c.apply-value.ensures.disposition r at.state at.slots)
    (to_z-of_z w32 c.apply-value.result.1 value_fits ∙ c.apply-value.ensures.value r at.state at.slots)
    (to_z-of_z w32 c.announced-slot.result slot_fits
    ∙ c.announced-slot.ensures.announced c.args.caps.now (Occurred c.args.event ∷ r)
    (c.apply-value.ensures.slots r at.slots)) in
    Handles-from c.self.view_is
    (handles-more c.args.caps.now r c.args.event c.args.now g.F.Frames.takes
    (the_view c.self.inside) c.args.to.now c.apply-value.new.state c.apply-value.new.slots c.add.new.self
    c.cut.new.self c.contains-self-inside.result c.is_report.result c.cut.result
    (adds c.args.caps.now r c.args.event
    (the_view c.self.inside) c.apply-value.new.state c.apply-value.new.slots _
    c.add.new.self at c.apply-value.ensures.state c.apply-value.ensures.slots passes
    c.apply-value.ensures.at_frame c.add.ensures.added c.add.ensures.hint)
    c.is_report.ensures.report c.cut.ensures.whole c.if-not-cut.true
    (c.cut.ensures.waiting c.if-not-cut.true) c.cut.ensures.hint)

pub returns-then-not-cut-clause-enters_inject : goal.returns-then-not-cut-clause-enters_inject
returns-then-not-cut-clause-enters_inject g c = λ past h.
    let awake : c.args.self.now.inhibited ≡ false = sym (rw (← c.self.view_is)) ∙ c.if-ignored.false in
    enters-inject c.args.caps.now past c.args.event c.args.now
    (c.args.event ∷ []) g.F.Frames.takes c.args.self.now _ c.args.to.now _ h (rw awake)
    (returns-then-not-cut-clause-handled g c awake (raw c.args.caps.now past) h.raw_events)

pub returns-then-not-cut-clause-enters_write : goal.returns-then-not-cut-clause-enters_write
returns-then-not-cut-clause-enters_write g c = λ past client h.
    let awake : c.args.self.now.inhibited ≡ false = sym (rw (← c.self.view_is)) ∙ c.if-ignored.false in
    enters-write c.args.caps.now past client c.args.event c.args.now
    (c.args.event ∷ []) g.F.Frames.takes c.args.self.now _ c.args.to.now _ h (rw awake)
    (returns-then-not-cut-clause-handled g c awake (raw c.args.caps.now past) h.raw_events)

pub returns-then-not-cut-clause-sends : goal.returns-then-not-cut-clause-sends
returns-then-not-cut-clause-sends g c = λ past h.
    let at : CoreStandsFor c.args.caps.now past (the_view c.self.inside) =
    subst (CoreStandsFor c.args.caps.now past) (sym c.self.view_is) h in
    let r = raw c.args.caps.now past in
    let goes =
    c.contains-self-inside.ensures tt
    ∙ goes-by c.args.caps.now r c.args.event _
    (c.apply-value.ensures.disposition r at.raw_events.state at.raw_events.slots) in
    rw (goes, at.inhibited)

-- The event ends a frame

pub returns-clause-handled : goal.returns-clause-handled
returns-clause-handled g c = λ awake r h.
    let at : StandsAfter c.args.caps.now r (the_view c.self.inside) =
    subst (StandsAfter c.args.caps.now r) (sym c.self.view_is) h in
    let value_fits : FitsSigned w32 c.apply-value.result.1 = search rules in
    let slot_fits : FitsSigned w32 c.announced-slot.result = search rules in
    let passes =
    passed-by c.args.caps.now r c.args.event _ (to_z w32 (of_z w32 c.apply-value.result.1))
    (to_z w32 (of_z w32 c.announced-slot.result))
    (c.apply-value.ensures.disposition r at.state at.slots)
    (to_z-of_z w32 c.apply-value.result.1 value_fits ∙ c.apply-value.ensures.value r at.state at.slots)
    (to_z-of_z w32 c.announced-slot.result slot_fits
    ∙ c.announced-slot.ensures.announced c.args.caps.now (Occurred c.args.event ∷ r)
    (c.apply-value.ensures.slots r at.slots)) in
    Handles-from c.self.view_is
    (handles-cut c.args.caps.now r c.args.event c.args.now g.F.Frames.takes
    (the_view c.self.inside) c.args.to.now c.pass.new.self c.apply-value.new.state c.apply-value.new.slots
    c.frame_passed.new.self c.add.new.self c.clear.new.self c.cut.new.self.events
    c.timer_at_frame-self-inside.result c.contains-self-inside.result c.is_report.result c.cut.result
    (adds c.args.caps.now r c.args.event
    (the_view c.self.inside) c.apply-value.new.state c.apply-value.new.slots _
    c.add.new.self at c.apply-value.ensures.state c.apply-value.ensures.slots passes
    c.apply-value.ensures.at_frame c.add.ensures.added c.add.ensures.hint)
    c.is_report.ensures.report c.cut.ensures.whole c.if-not-cut.false (c.cut.ensures.frame c.if-not-cut.false)
    (rw (c.timer_at_frame-self-inside.ensures, c.events.ensures.events))
    (rw c.events-2.ensures.events at c.pass.ensures.taken)
    c.clear.ensures.empty (c.clear.ensures.hint ∙ c.cut.ensures.hint) c.frame_passed.ensures.at_frame)

pub returns-clause-enters_inject : goal.returns-clause-enters_inject
returns-clause-enters_inject g c = λ past h.
    let awake : c.args.self.now.inhibited ≡ false = sym (rw (← c.self.view_is)) ∙ c.if-ignored.false in
    enters-inject c.args.caps.now past c.args.event c.args.now
    (c.args.event ∷ []) g.F.Frames.takes c.args.self.now _ c.args.to.now _ h (rw awake)
    (returns-clause-handled g c awake (raw c.args.caps.now past) h.raw_events)

pub returns-clause-enters_write : goal.returns-clause-enters_write
returns-clause-enters_write g c = λ past client h.
    let awake : c.args.self.now.inhibited ≡ false = sym (rw (← c.self.view_is)) ∙ c.if-ignored.false in
    enters-write c.args.caps.now past client c.args.event c.args.now
    (c.args.event ∷ []) g.F.Frames.takes c.args.self.now _ c.args.to.now _ h (rw awake)
    (returns-clause-handled g c awake (raw c.args.caps.now past) h.raw_events)

pub returns-clause-sends : goal.returns-clause-sends
returns-clause-sends g c = λ past h.
    let at : CoreStandsFor c.args.caps.now past (the_view c.self.inside) =
    subst (CoreStandsFor c.args.caps.now past) (sym c.self.view_is) h in
    let r = raw c.args.caps.now past in
    let goes =
    c.contains-self-inside.ensures tt
    ∙ goes-by c.args.caps.now r c.args.event _
    (c.apply-value.ensures.disposition r at.raw_events.state at.raw_events.slots) in
    rw (goes, at.inhibited)
