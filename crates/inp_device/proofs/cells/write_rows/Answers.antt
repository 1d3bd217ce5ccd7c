use Rattle.std.proofs.Common.{ℕ, w32, FitsSigned, ap, ◌∙◌, arith}
use Rattle.std.proofs.lemmas.Int.{to_z-of_z}
use Rattle.inp_device.proofs.FilledBuffers.{filled, kept_row, fill_more, rows-kept}
use Rattle.inp_device.proofs.cells.write_rows.Goals as goal

-- the next place takes the value of its slot and its code
pub loop-index-preserved : goal.loop-index-preserved
loop-index-preserved c =
    let fits : FitsSigned w32 c.value.result = record { sfits = c.value.type_inv } in
    let value = kept_row c.args.slots.now in
    let index = c.loop-index.index in
    rw (to_z-of_z, c.value.ensures.value, c.loop-index.invariant)
    (fill_more value index c.args.cells.now (omega (arith, c.loop-index-test.true, c.requires.room)))

-- 14 places were set for each slot, so they have all rows
pub returns : goal.returns
returns c =
    let value = kept_row c.args.slots.now in
    record {
      written = λ d r h. c.loop-index.invariant
          ∙ ap (λ (n : ℕ). filled value n c.args.cells.now) (omega (arith, c.loop-index-test.false))
          ∙ rows-kept d r c.args.slots.now c.args.count c.args.cells.now h c.requires.count;
    }
