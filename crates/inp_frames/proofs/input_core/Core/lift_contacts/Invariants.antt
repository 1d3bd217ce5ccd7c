use Rattle.std.proofs.Common.{◌≡◌, ◌<◌, false, List, ◌++◌}
use Rattle.std.specs.Prelude.{flat_map}
use Rattle.std.specs.List.{All}
use Rattle.inp_bits.specs.Bits.{true_indices}
use Rattle.inp_model.specs.RawItem.{RawItem}
use Rattle.inp_frames.specs.Core.{IsFor, StandsAfter}
use Rattle.inp_frames.specs.HandledEvents.{Handles, lift_events}
use Rattle.inp_frames.proofs.input_core.Core.lift_contacts.Given as goal

abbrev pub invariant-loop-slot : goal.invariant-loop-slot
invariant-loop-slot g l = record {
  whole : l.yielded ++ l.slot-iterator ≡ true_indices l.contacts;
  within : All (λ k. k < 256) l.slot-iterator;
  made : IsFor l.caps l.self;
  handled : l.fn.self.inhibited ≡ false → (r : List RawItem) → StandsAfter l.caps r l.fn.self
      → Handles l.caps r (flat_map lift_events l.yielded) l.now g.F.Frames.takes l.fn.self
      l.self l.fn.to l.to;
}
