use Rattle.std.proofs.Common.{◌-◌, ◌∙◌, length, sym, ap, arith}
use Rattle.std.proofs.lemmas.Bool.Decides.{nat_tests}
use Rattle.std.proofs.lemmas.List.{nil_from_length}
use Rattle.inp_reader.specs.Reader.{has_loss}
use Rattle.inp_reader.proofs.Runs.{run-loss}
use Rattle.inp_reader.proofs.run.ends_with_loss.Goals as goal

-- a run of no events tells of no loss
pub returns-then-is_empty : goal.returns-then-is_empty
returns-then-is_empty c = record {
  lost =
      λ most r is.
      sym
      (ap has_loss
      (nil_from_length c.args.run.now (let h =
      c.if-is_empty.true in grind (arith, nat_tests, h, c.is_empty.ensures))));
}

-- the last event of a run tells of a loss where any of them does
pub returns : goal.returns
returns c = record {
  lost = λ most r is.
      c.is_dropped.ensures
      ∙ run-loss most r c.args.run.now (length c.args.run.now - 1) _ is (let h =
      c.if-is_empty.false in grind (arith, nat_tests, h, c.is_empty.ensures));
}
