use Rattle.std.proofs.Common.{ap, ◌∙◌, w32, SFits, rules, Some}
use Rattle.std.proofs.Math.Facts.{to_z-of_z}
use Rattle.inp_recon.specs.declared.view.View.{View}
use Rattle.inp_recon.specs.Cells.{cell_of}
use Rattle.inp_c.proofs.reader_told.slot_value_in.Goals as goal

-- the value is the one of that cell in the reader's view, and fits in 32 bits with a sign
pub returns-clause-value : goal.returns-clause-value
returns-clause-value c = λ _.
    let fits : SFits w32 c.value.result = search rules in
    record {
      device = c.in-Device.device;
      is = ap Some c.in-Device.is;
      value_is =
          to_z-of_z fits ∙ c.value.ensures.value
          ∙ ap (λ (v : View). cell_of v.cells c.args.slot c.args.code) c.view.ensures.view;
    }
