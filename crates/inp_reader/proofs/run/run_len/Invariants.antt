use Rattle.std.proofs.Common.{◌≡◌, ◌≤◌, ◌++◌, ◌-◌, take, drop, length}
use Rattle.inp_reader.specs.Reader.{first_run}
use Rattle.inp_reader.proofs.run.run_len.Given as goal

abbrev pub invariant-loop-taken : goal.invariant-loop-taken
invariant-loop-taken l = record {
  count : l.count ≡ l.taken-index;
  few : l.count ≤ l.most;
  within : l.count ≤ length l.queue;
  run : first_run l.most l.queue ≡ take l.count l.queue
      ++ first_run (l.most - l.count) (drop l.count l.queue);
}
