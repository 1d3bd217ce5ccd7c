use Rattle.std.proofs.Common.{ℕ, w32, FitsSigned, ap, ◌∙◌, arith}
use Rattle.std.proofs.lemmas.Int.{to_z-of_z}
use Rattle.inp_device.proofs.FilledBuffers.{filled, kept_column, fill_more, column-kept}
use Rattle.inp_device.proofs.cells.write_column.Goals as goal

-- the next place takes the next slot's value on the axis
pub loop-slot-preserved : goal.loop-slot-preserved
loop-slot-preserved c =
    let fits : FitsSigned w32 c.value.result = record { sfits = c.value.type_inv } in
    let value = kept_column c.args.slots.now c.args.code in
    let slot = c.loop-slot.slot in
    rw (to_z-of_z, c.value.ensures.value, c.loop-slot.invariant)
    (fill_more value slot c.args.cells.now (omega (arith, c.loop-slot-test.true, c.requires.room)))

-- as many places were set as there are slots, so they have the whole column
pub returns : goal.returns
returns c =
    let value = kept_column c.args.slots.now c.args.code in
    record {
      written = λ d r h. c.loop-slot.invariant
          ∙ ap (λ (n : ℕ). filled value n c.args.cells.now) (omega (arith, c.loop-slot-test.false))
          ∙ column-kept d r c.args.slots.now c.args.count c.args.code c.args.cells.now h c.requires.count
          c.requires.code;
    }
