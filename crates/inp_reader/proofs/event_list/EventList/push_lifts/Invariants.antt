use Rattle.std.proofs.Common.{◌≡◌, ◌≤◌, ◌+◌, ◌*◌, [], ◌∷◌, length}
use Rattle.inp_reader.specs.Synthesis.{is_replaced, lift}
use Rattle.inp_reader.proofs.SynthesisedEvents.{IsWalked}
use Rattle.inp_reader.proofs.event_list.EventList.push_lifts.Given as goal

abbrev pub invariant-loop-slot : goal.invariant-loop-slot
invariant-loop-slot l = record {
  walked : IsWalked (λ slot. lift ∷ [])
      (is_replaced l.old l.new) l.slot l.old.slot l.initial.self.events l.self.events l.current;
  room : l.self.room ≡ l.initial.self.room;
  few : length l.self.events ≤ length l.initial.self.events + 2 * l.slot;
}
