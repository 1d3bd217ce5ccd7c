use Rattle.std.proofs.Common.{◌≡◌, Bool, true, false, if◌then◌else◌, nat_lt, Ok, Err, sym, ◌∙◌}
use Rattle.std.specs.Prelude.{slice_index_or, Result}
use Rattle.std.proofs.lemmas.Result.{err_from_is_err_and}
use Rattle.inp_model.specs.declared.event.TheConstants.{ABS_MAX}
use Rattle.inp_model.specs.Description.{Description, is_bad_axis, no_info}
use Rattle.inp_caps.specs.declared.caps_refused.CapsRefused.{CapsRefused}
use Rattle.inp_caps.specs.declared.caps_refused.CapsRefused.TheVariants.{BadCode, BadAxis}
use Rattle.inp_c.specs.DescriptionOfC.{Described}
use Rattle.inp_c.proofs.c_description.with_axis.Goals as goal

answer : Bool → Bool → Result (Unit {0}) CapsRefused
answer over bad = if over then Err BadCode else if bad then Err BadAxis else Ok tt

made : Bool → Bool → Description → Described
made over bad d = if over then Err BadCode else if bad then Err BadAxis else Ok d

refused : (over bad : Bool) (why : CapsRefused) (d : Description) → answer over bad ≡ Err why
    → made over bad d ≡ Err why
unfolding answer made
refused true bad why d e = cc
refused false true why d e = cc
refused false false why d e = absurd (cc)

pub returns-in_err-axis : goal.returns-in_err-axis
unfolding answer made
returns-in_err-axis c =
    let p = err_from_is_err_and c.from_residual.result c.from_residual.ensures.1 in
    let i = slice_index_or c.args.infos.now c.args.code no_info in
    rw (p.1, p.2)
    (sym (refused (nat_lt ABS_MAX c.args.code) (is_bad_axis c.args.code i) _ _ (sym c.axis.ensures.answer
    ∙ c.in_err-axis.was)))
