use Rattle.std.proofs.Common.{◌≡◌, ◌≤◌, ◌<◌, ◌+◌, ◌*◌, ◌++◌, length, map}
use Rattle.std.specs.List.{All}
use Rattle.inp_bits.specs.Bits.{differing_indices}
use Rattle.inp_reader.specs.Synthesis.{bit_event}
use Rattle.inp_reader.proofs.event_list.EventList.push_bits.Given as goal

-- the codes so far, and those that are left
abbrev pub invariant-loop-code : goal.invariant-loop-code
invariant-loop-code g l = record {
  whole : l.yielded ++ l.code-iterator ≡ differing_indices l.old l.new;
  within : All (λ k. k < 64 * g.row.W) l.code-iterator;
  room : length l.yielded + length l.code-iterator ≤ 64 * g.row.W;
  pushed : l.self.events ≡ l.initial.self.events ++ map (bit_event l.kind l.new) l.yielded;
  kept : l.self.room ≡ l.initial.self.room;
  few : length l.self.events ≤ length l.initial.self.events + length l.yielded;
}
