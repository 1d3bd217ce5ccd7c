use Rattle.std.proofs.Common.{◌≡◌, ◌<◌, false, List, ◌++◌}
use Rattle.std.specs.Prelude.{flat_map}
use Rattle.std.specs.List.{All}
use Rattle.inp_bits.specs.Bits.{true_indices}
use Rattle.inp_model.specs.RawItem.{RawItem}
use Rattle.inp_frames.specs.Core.{IsFor, StandsAfter}
use Rattle.inp_frames.specs.HandledEvents.{Handles, release_events}
use Rattle.inp_frames.proofs.input_core.Core.release_keys.Given as goal

abbrev pub invariant-loop-key : goal.invariant-loop-key
invariant-loop-key g l = record {
  whole : l.yielded ++ l.key-iterator ≡ true_indices l.keys;
  within : All (λ k. k < 768) l.key-iterator;
  made : IsFor l.caps l.self;
  handled : l.fn.self.inhibited ≡ false → (r : List RawItem) → StandsAfter l.caps r l.fn.self
      → Handles l.caps r (flat_map release_events l.yielded) l.now g.F.Frames.takes l.fn.self
      l.self l.fn.to l.to;
}
