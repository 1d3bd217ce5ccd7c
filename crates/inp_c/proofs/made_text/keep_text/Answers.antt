use Rattle.std.proofs.Common.{◌≡◌, Option, Some, arith}
use Rattle.inp_c.specs.declared.kept.Kept.{Kept}
use Rattle.inp_c.specs.Contents.{contents}
use Rattle.inp_c.specs.MadeText.{IsToldMade}
use Rattle.inp_c.proofs.Along.{along}
use Rattle.inp_c.proofs.made_text.keep_text.Goals as goal

-- the contents were taken out and are put back, so of the handle holds what holds of them
pub returns-clause-made : goal.returns-clause-made
returns-clause-made c = λ ok.
    let was : contents c.args.handle.now ≡ Some c.deref_mut.result.now =
    grind (arith, c.take-kept.ensures.kept, c.deref_mut.ensures.value) in
    let is : contents c.of.result ≡ Some c.keep_in-status.new.kept =
    grind (arith, c.of.ensures, c.deref_mut.ensures.writes_back) in
    along (Option Kept) (λ (a b : Option Kept). IsToldMade c.args.made a b c.keep_in-status.new.len)
    (contents c.args.handle.now) (contents c.of.result) (Some c.deref_mut.result.now)
    (Some c.keep_in-status.new.kept) was is (c.keep_in-status.ensures.made ok)
