use Rattle.std.proofs.Common.{◌≡◌, ◌++◌, List, length, option_map}
use Rattle.inp_model.specs.declared.stamped.Stamped.{Stamped}
use Rattle.inp_stream.specs.Form.{time_len}
use Rattle.inp_model.specs.Injection.{AreInTime}
use Rattle.inp_record.specs.Stream.{stamps_of}
use Rattle.inp_record.proofs.loader.stamps_of.Given as goal

abbrev pub invariant-loop-rest : goal.invariant-loop-rest
invariant-loop-rest l = record {
  read : stamps_of (time_len l.form) l.bytes ≡ option_map (λ (more : List Stamped). l.stamps ++ more)
      (stamps_of (time_len l.form) l.rest);
  in_time : AreInTime l.stamps;
}

abbrev pub decreases-loop-rest : goal.decreases-loop-rest
decreases-loop-rest l = length l.rest
