use Rattle.std.proofs.Common.{List, ap, sym, ◌∙◌, Some}
use Rattle.std.specs.Prelude.{slice_get}
use Rattle.inp_actors.specs.declared.line.Line.{Line}
use Rattle.inp_c.proofs.record_lines.line_in.Goals as goal

-- the line is the kept record's at that number
pub returns-clause-told : goal.returns-clause-told
returns-clause-told c = λ _. record {
  kept = c.in-Record.record;
  line = c.get.result.now;
  is = ap Some c.in-Record.is;
  there =
      ap (λ (l : List Line). slice_get l c.args.line) (sym c.lines-lines.ensures.lines) ∙ c.get.ensures.item;
  told = c.c_line.ensures;
}
