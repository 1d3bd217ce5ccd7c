use Rattle.std.proofs.Common.{◌≡◌, ◌&&◌, true, nat_le, refl, sym, ◌∙◌, arith, rules}
use Rattle.std.proofs.lemmas.Bool.Decides.{nat_tests}
use Rattle.inp_model.specs.declared.stamped.TheConstants.{MOMENT_MAX}
use Rattle.inp_record.specs.declared.item.Item.TheVariants.{Boottime}
use Rattle.inp_record.proofs.Entries.{offset_refused, offset_taken, boottime_entered}
use Rattle.inp_record.proofs.context.Context.set_boottime.Goals as goal

-- the realtime offset is within its limit, so the boottime offset was refused
pub returns-in-Err-clause-entered : goal.returns-in-Err-clause-entered
returns-in-Err-clause-entered c = λ past e.
    let within : nat_le c.unwrap_or-realtime.result MOMENT_MAX ≡ true = grind (arith, nat_tests) in
    offset_refused (nat_le c.unwrap_or-realtime.result MOMENT_MAX && nat_le c.args.offset MOMENT_MAX)
    (nat_le c.args.offset MOMENT_MAX) (Boottime c.args.offset) c.in-Err.why (rw within refl)
    (sym c.offsets.ensures.answer ∙ c.in-Err.is)

-- the boottime offset is within its limit, and the line enters it
pub returns-clause-entered : goal.returns-clause-entered
returns-clause-entered c = λ past e.
    let within : nat_le c.unwrap_or-realtime.result MOMENT_MAX ≡ true = grind (arith, nat_tests) in (
      offset_taken (nat_le c.unwrap_or-realtime.result MOMENT_MAX && nat_le c.args.offset MOMENT_MAX)
          (nat_le c.args.offset MOMENT_MAX) c.in_default.field-0 (rw within refl)
          (sym c.offsets.ensures.answer
          ∙ c.in_default.is),
      boottime_entered c.args.self.now past c.offsets.new.self c.args.offset e
          (search rules),
    )
