use Rattle.std.proofs.Common.{◌≡◌, ◌<◌, ◌≤◌, ℕ, false, length, get_or}
use Rattle.inp_frames.specs.HandledEvents.{has_contact_at}
use Rattle.inp_frames.proofs.contacts.contacts_of.Given as goal

abbrev pub invariant-loop-slot : goal.invariant-loop-slot
invariant-loop-slot l = record {
  long : length l.contacts ≡ 256;
  before : (k : ℕ) → k < l.slot → get_or l.contacts k false ≡ has_contact_at l.slots k;
  behind : (k : ℕ) → l.slot ≤ k → get_or l.contacts k false ≡ false;
}
