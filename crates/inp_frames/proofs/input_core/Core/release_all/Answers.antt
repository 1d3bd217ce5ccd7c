use Rattle.std.proofs.Common.{◌≡◌, ◌<◌, ◌≤◌, ℕ, false, List, ◌++◌, [], ◌∷◌, sym, subst, ◌∙◌, arith, map}
use Rattle.std.specs.Prelude.{flat_map}
use Rattle.inp_model.specs.declared.event.Event.{Event}
use Rattle.inp_model.specs.RawItem.{Occurred}
use Rattle.inp_model.specs.Cut.{raw_after}
use Rattle.inp_model.specs.Raw.{has_contact}
use Rattle.inp_bits.specs.Bits.{is_on_at, true_indices}
use Rattle.inp_frames.specs.Core.{StandsAfter}
use Rattle.inp_frames.specs.contracts.input_core.Core.{the_view}
use Rattle.inp_frames.specs.HandledEvents.{lift_events, release_events}
use Rattle.inp_frames.proofs.HandledEvents.{Handles-append}
use Rattle.inp_frames.proofs.Releases.{releases-by}
use Rattle.inp_frames.proofs.input_core.Core.release_all.Goals as goal

pub returns-clause-handled : goal.returns-clause-handled
returns-clause-handled g c = λ awake r h.
    let at : StandsAfter c.args.caps.now r (the_view c.self.inside) =
    subst (StandsAfter c.args.caps.now r) (sym c.self.view_is) h in
    let few : c.args.caps.now.slots ≤ 256 = omega (arith, c.slots.ensures.slots, c.slots.ensures.range) in
    let there : (slot : ℕ) → slot < c.args.caps.now.slots
    → is_on_at c.contacts_of-contacts.result slot ≡ has_contact c.args.caps.now r slot =
    λ slot l. rw (
      c.contacts_of-contacts.ensures.there slot (omega (arith, l, c.slots.ensures.slots)),
      at.slots.values,
    ) in
    let past : (slot : ℕ) → c.args.caps.now.slots ≤ slot
    → is_on_at c.contacts_of-contacts.result slot ≡ false =
    λ slot l. c.contacts_of-contacts.ensures.past slot (omega (arith, l, c.slots.ensures.slots)) in
    let lifted : List Event = flat_map lift_events (true_indices c.contacts_of-contacts.result) in
    let released : List Event = flat_map release_events (true_indices c.keys.result.now) in
    let first = c.lift_contacts.ensures.handled awake r h in
    let second =
    c.release_keys.ensures.handled (first.inhibited ∙ awake) (raw_after r (map Occurred lifted))
    first.stands_after in
    let both =
    Handles-append c.args.caps.now r lifted released c.args.now g.F.Frames.takes c.args.self.now
    c.lift_contacts.new.self c.release_keys.new.self c.args.to.now c.lift_contacts.new.to
    c.release_keys.new.to first second in
    let third =
    c.inject.ensures.handled (both.inhibited ∙ awake) (raw_after r (map Occurred (lifted ++ released)))
    both.stands_after in
    let all =
    Handles-append c.args.caps.now r (lifted ++ released)
    (c.core_report.result ∷ []) c.args.now g.F.Frames.takes c.args.self.now c.release_keys.new.self
    c.inject.new.self c.args.to.now c.release_keys.new.to c.inject.new.to both third in
    rw (
      c.core_report.ensures,
      releases-by c.args.caps.now r c.contacts_of-contacts.result c.keys.result.now
          c.contacts_of-contacts.ensures.len few there past c.release_keys.ensures.len
          (c.keys.ensures.keys c.args.caps.now r at.state),
    ) at
    all
