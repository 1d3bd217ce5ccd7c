use Rattle.std.proofs.Common.{◌≡◌, ◌≤◌, ◌-◌, ◌++◌, length, take}
use Rattle.inp_joy.specs.Codes.{codes_among}
use Rattle.inp_joy.proofs.code_list.CodeList.add_supported.Given as goal

abbrev pub invariant-loop-code : goal.invariant-loop-code
invariant-loop-code l = record {
  added : l.self ≡ take 64 (l.initial.self ++ codes_among l.caps l.kind l.first (l.code - l.first));
  few : length l.self ≤ 64;
}
