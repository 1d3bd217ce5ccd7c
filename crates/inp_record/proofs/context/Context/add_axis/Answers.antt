use Rattle.std.proofs.Common.{nat_lt, sym, ◌∙◌}
use Rattle.inp_model.specs.declared.event.TheConstants.{ABS_MAX}
use Rattle.inp_model.specs.Description.{is_bad_axis}
use Rattle.inp_record.specs.declared.item.Item.TheVariants.{Axis}
use Rattle.inp_record.proofs.Entries.{axis_refused}
use Rattle.inp_record.proofs.context.Context.add_axis.Goals as goal

-- the builder refused the axis, and the meaning of the line refuses it for the same cause
pub returns-in-Err-clause-entered : goal.returns-in-Err-clause-entered
returns-in-Err-clause-entered c = λ past e.
    axis_refused (nat_lt ABS_MAX c.args.code) (is_bad_axis c.args.code c.args.info)
    (Axis c.args.code c.args.info) c.in-Err.why (sym c.axis.ensures.answer ∙ c.in-Err.is)
