use Rattle.std.proofs.Common.{[], ◌∷◌, ◌∙◌, map}
use Rattle.inp_model.specs.RawItem.{Occurred}
use Rattle.std.specs.Prelude.{flat_map}
use Rattle.inp_model.specs.Cut.{raw_after}
use Rattle.inp_bits.specs.Bits.{true_indices}
use Rattle.inp_frames.specs.HandledEvents.{lift_events}
use Rattle.inp_frames.proofs.HandledEvents.{Handles-none, Handles-append}
use Rattle.inp_frames.proofs.Releases.{below-rest, whole-more, flat_map-more}
use Rattle.inp_frames.proofs.input_core.Core.lift_contacts.Goals as goal

pub loop-slot-init : goal.loop-slot-init
loop-slot-init g c = record {
  whole = c.into_iter-slot-iterator.ensures.into_iter_gives ∙ c.ones-slot-items.ensures.value;
  within = rw c.into_iter-slot-iterator.ensures.into_iter_gives c.ones-slot-items.ensures.within;
  made = c.requires.made;
  handled = λ awake r h.
      Handles-none c.args.caps.now r c.args.now g.F.Frames.takes c.args.self.now c.args.to.now h;
}

pub loop-slot-preserved : goal.loop-slot-preserved
loop-slot-preserved g c = record {
  whole =
      whole-more c.in-Some.slot c.loop-slot.yielded c.loop-slot.slot-iterator c.next.new.self
      (true_indices c.args.contacts.now) c.in-Some.ensures.steps c.loop-slot.invariant.whole;
  within =
      below-rest 256 c.in-Some.slot c.loop-slot.slot-iterator c.next.new.self c.in-Some.ensures.steps
      c.loop-slot.invariant.within;
  made = c.inject_two.ensures.made;
  handled = λ awake r h.
      let before = c.loop-slot.invariant.handled awake r h in
      let more =
      Handles-append c.args.caps.now r (flat_map lift_events c.loop-slot.yielded)
      (c.slot_event.result ∷ c.lift_event.result ∷ []) c.args.now g.F.Frames.takes c.args.self.now
      c.loop-slot.self c.inject_two.new.self c.args.to.now c.loop-slot.to c.inject_two.new.to before
      (c.inject_two.ensures.handled (before.inhibited ∙ awake)
      (raw_after r (map Occurred (flat_map lift_events c.loop-slot.yielded))) before.stands_after) in
      rw (
        c.slot_event.ensures,
        c.lift_event.ensures,
        flat_map-more lift_events c.loop-slot.yielded c.in-Some.slot,
      ) at
      more;
}
