use Rattle.std.proofs.Common.{refl, inr}
use Rattle.inp_args.specs.declared.request.Request.TheVariants.{Migrate}
use Rattle.inp_tool.proofs.Records.{ran_out_after}
use Rattle.inp_tool.proofs.Faults.{names_file}
use Rattle.inp_tool.proofs.Migrated.{means_upgraded}
use Rattle.inp_tool.proofs.top.migrate_file.Goals as goal

pub returns-in-Ok-migrated_text-clause-cause : goal.returns-in-Ok-migrated_text-clause-cause
returns-in-Ok-migrated_text-clause-cause g c = λ words asked.
    let text = c.in-Ok-migrated_text.ensures.text in
    record {
      request = Migrate c.args.file.now;
      asked = asked;
      recorded = c.in-Ok.recorded;
      had = c.in-Ok.ensures.read;
      untouched = λ none. let never : ⊥ = cc none in absurd never;
      answer = (text, means_upgraded _ _ _ _ c.in-Ok.ensures.read text);
    }

pub returns-in-Err-migrated_text-clause-cause : goal.returns-in-Err-migrated_text-clause-cause
returns-in-Err-migrated_text-clause-cause g c = λ words asked. inr (ran_out_after _ _ _ c.in-Ok.ensures.read)

pub returns-in-Err-clause-cause : goal.returns-in-Err-clause-cause
returns-in-Err-clause-cause g c =
    λ words asked. c.without_record.ensures.cause words _ _
    (names_file words (Migrate c.args.file.now) c.args.file.now asked refl) c.in-Err.ensures.read
