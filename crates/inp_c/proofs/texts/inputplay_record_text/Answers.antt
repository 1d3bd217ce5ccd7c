use Rattle.std.proofs.Common.{Option}
use Rattle.inp_c.specs.declared.kept.Kept.{Kept}
use Rattle.inp_c.specs.Contents.{contents}
use Rattle.inp_c.specs.Texts.{IsToldText}
use Rattle.inp_c.proofs.Along.{at_contents}
use Rattle.inp_c.proofs.texts.inputplay_record_text.Goals as goal

-- the text is told of the record that the handle keeps
pub returns-clause-told : goal.returns-clause-told
returns-clause-told c = λ ok.
    at_contents Kept (λ (k : Option Kept).
    IsToldText k c.args.from c.args.out.now c.text_in-status.new.out c.text_in-status.new.left)
    (contents c.args.handle.now) c.take-kept.result.value c.deref.result.now c.take-kept.ensures.kept
    c.deref.ensures (c.text_in-status.ensures.told ok)
