use Rattle.std.proofs.Common.{◌≡◌, true, nat_le, sym, ◌∙◌, arith, rules}
use Rattle.std.proofs.lemmas.Bool.Decides.{nat_tests}
use Rattle.inp_model.specs.declared.stamped.TheConstants.{MOMENT_MAX}
use Rattle.inp_record.specs.declared.item.Item.TheVariants.{Realtime}
use Rattle.inp_record.proofs.Entries.{and_first, offset_refused, offset_taken, realtime_entered}
use Rattle.inp_record.proofs.context.Context.set_realtime.Goals as goal

-- the boottime offset is within its limit, so the realtime offset was refused
pub returns-in-Err-clause-entered : goal.returns-in-Err-clause-entered
returns-in-Err-clause-entered c = λ past e.
    let within : nat_le c.unwrap_or-boottime.result MOMENT_MAX ≡ true = grind (arith, nat_tests) in
    offset_refused _ (nat_le c.args.offset MOMENT_MAX) (Realtime c.args.offset) c.in-Err.why
    (and_first _ (nat_le c.unwrap_or-boottime.result MOMENT_MAX) within)
    (sym c.offsets.ensures.answer ∙ c.in-Err.is)

-- the realtime offset is within its limit, and the line enters it
pub returns-clause-entered : goal.returns-clause-entered
returns-clause-entered c = λ past e.
    let within : nat_le c.unwrap_or-boottime.result MOMENT_MAX ≡ true = grind (arith, nat_tests) in (
      offset_taken _ (nat_le c.args.offset MOMENT_MAX) c.in_default.field-0
          (and_first _ (nat_le c.unwrap_or-boottime.result MOMENT_MAX) within) (sym c.offsets.ensures.answer
          ∙ c.in_default.is),
      realtime_entered c.args.self.now past c.offsets.new.self c.args.offset e
          (search rules),
    )
