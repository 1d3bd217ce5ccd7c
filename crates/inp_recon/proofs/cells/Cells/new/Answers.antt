use Rattle.std.proofs.Common.{◌≡◌, ◌*◌, length, sym, ap, ◌∙◌, arith}
use Rattle.inp_recon.proofs.NoContact.{first_cells-none, first_cells-more, length-first_cells}
use Rattle.inp_recon.proofs.cells.Cells.new.Goals as goal

pub loop-init : goal.loop-init
loop-init c = c.new-cells.ensures.items ∙ sym first_cells-none

pub loop-preserved : goal.loop-preserved
loop-preserved c =
    rw (c.in_ok-extend_from_slice.ensures.items, c.loop.invariant) (sym (first_cells-more c.loop.counter))

pub invariant_of-result : goal.invariant_of-result
invariant_of-result c =
    let all : length c.loop.cells.items ≡ 14 * c.loop.counter =
    ap length c.loop.invariant ∙ length-first_cells c.loop.counter in
    record { whole = omega arith; few = omega (arith, c.requires) }
