use Rattle.std.proofs.Common.{ap, ◌∙◌, sym, w32, SFits, rules, Some}
use Rattle.std.proofs.Math.Facts.{to_z-of_z}
use Rattle.inp_recon.specs.declared.view.View.{View}
use Rattle.inp_c.specs.ReaderTold.{view_value}
use Rattle.inp_c.proofs.reader_told.value_in.Goals as goal

-- the value is the one that the reader's view has, and fits in 32 bits with a sign
pub returns-clause-value : goal.returns-clause-value
returns-clause-value c = λ _.
    let fits : SFits w32 c.in-Some.known = search rules in
    record {
      device = c.in-Device.device;
      is = ap Some c.in-Device.is;
      value_is =
          ap (λ (v : View). view_value v c.args.kind c.args.code) (sym c.view.ensures.view)
          ∙ sym c.in-Some.ensures
          ∙ ap Some (sym (to_z-of_z fits));
    }
