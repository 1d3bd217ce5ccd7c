use Rattle.std.proofs.Common.{◌∙◌}
use Rattle.inp_c.proofs.from_text.keep_record.Goals as goal

-- the handle keeps the record that was boxed
pub returns-in-Ok-clause-made : goal.returns-in-Ok-clause-made
returns-in-Ok-clause-made c = λ _.
    let kept = c.in-Ok.ensures in
    record {
      kept = kept.kept;
      is = c.of.ensures ∙ kept.is;
      recorded_is = kept.recorded_is;
      none_loaded = kept.none_loaded;
      no_text = kept.no_text;
    }
