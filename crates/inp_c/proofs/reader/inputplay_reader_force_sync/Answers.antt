use Rattle.std.proofs.Common.{◌≡◌, Option, Some, arith}
use Rattle.inp_c.specs.declared.kept.Kept.{Kept}
use Rattle.inp_c.specs.Contents.{contents}
use Rattle.inp_c.specs.ReaderCalls.{IsForced}
use Rattle.inp_c.proofs.Along.{along}
use Rattle.inp_c.proofs.reader.inputplay_reader_force_sync.Goals as goal

-- the contents were taken out and are put back, with a synchronisation needed
pub returns-clause-made : goal.returns-clause-made
returns-clause-made c = λ ok.
    let was : contents c.args.handle.now ≡ Some c.deref_mut.result.now =
    grind (arith, c.take-kept.ensures.kept, c.deref_mut.ensures.value) in
    let is : contents c.of.result ≡ Some c.force_in-status.new.kept =
    grind (arith, c.of.ensures, c.deref_mut.ensures.writes_back) in
    along (Option Kept) (λ (a b : Option Kept). IsForced a b) (contents c.args.handle.now)
    (contents c.of.result) (Some c.deref_mut.result.now) (Some c.force_in-status.new.kept) was is
    (c.force_in-status.ensures.made ok)
