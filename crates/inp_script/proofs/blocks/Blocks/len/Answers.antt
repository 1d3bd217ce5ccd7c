use Rattle.std.proofs.Common.{arith}
use Rattle.std.proofs.lemmas.List.{length-append}
use Rattle.inp_script.proofs.BlockLists.{count-full}
use Rattle.inp_script.proofs.blocks.Blocks.len.Goals as goal

-- each full block has as many items as a block has
pub returns : goal.returns
returns g c =
    let blocks = c.self.inside in
    let full = count-full (λ block. block.items) blocks.full.items c.self.invariant.0 in
    grind (arith, length-append, full, c.len.ensures, c.len-2.ensures, c.self.view_is)
