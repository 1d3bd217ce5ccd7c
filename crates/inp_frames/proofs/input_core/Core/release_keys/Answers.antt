use Rattle.std.proofs.Common.{[], ◌∷◌, ◌∙◌, map}
use Rattle.std.specs.Prelude.{flat_map}
use Rattle.inp_model.specs.RawItem.{Occurred}
use Rattle.inp_model.specs.Cut.{raw_after}
use Rattle.inp_bits.specs.Bits.{true_indices}
use Rattle.inp_frames.specs.HandledEvents.{release_events}
use Rattle.inp_frames.proofs.HandledEvents.{Handles-none, Handles-append}
use Rattle.inp_frames.proofs.Releases.{below-rest, whole-more, flat_map-more}
use Rattle.inp_frames.proofs.input_core.Core.release_keys.Goals as goal

pub loop-key-init : goal.loop-key-init
loop-key-init g c = record {
  whole = c.into_iter-key-iterator.ensures.into_iter_gives ∙ c.ones-key-items.ensures.value;
  within = rw c.into_iter-key-iterator.ensures.into_iter_gives c.ones-key-items.ensures.within;
  made = c.requires.made;
  handled = λ awake r h.
      Handles-none c.args.caps.now r c.args.now g.F.Frames.takes c.args.self.now c.args.to.now h;
}

pub loop-key-preserved : goal.loop-key-preserved
loop-key-preserved g c = record {
  whole =
      whole-more c.in-Some.key c.loop-key.yielded c.loop-key.key-iterator c.next.new.self
      (true_indices c.args.keys.now) c.in-Some.ensures.steps c.loop-key.invariant.whole;
  within =
      below-rest 768 c.in-Some.key c.loop-key.key-iterator c.next.new.self c.in-Some.ensures.steps
      c.loop-key.invariant.within;
  made = c.inject.ensures.made;
  handled = λ awake r h.
      let before = c.loop-key.invariant.handled awake r h in
      let more =
      Handles-append c.args.caps.now r (flat_map release_events c.loop-key.yielded)
      (c.key_release.result ∷ []) c.args.now g.F.Frames.takes c.args.self.now c.loop-key.self
      c.inject.new.self c.args.to.now c.loop-key.to c.inject.new.to before
      (c.inject.ensures.handled (before.inhibited ∙ awake)
      (raw_after r (map Occurred (flat_map release_events c.loop-key.yielded)))
      before.stands_after) in
      rw (c.key_release.ensures, flat_map-more release_events c.loop-key.yielded c.in-Some.key) at
      more;
}
