use Rattle.std.proofs.Common.{◌≡◌, ◌<◌, arith, ap, ◌∙◌, sym, length, get_or, None}
use Rattle.std.proofs.lemmas.List.{length-map, get_or-map}
use Rattle.inp_ring.specs.declared.cell.Cell.{Cell}
use Rattle.inp_ring.specs.Store.{cell_taken}
use Rattle.inp_ring.specs.Ring.{cell_at, some_cell, queue_in}
use Rattle.inp_ring.proofs.Releases.{let_go_none, let_go_more, let_go_cell, spare_less, fit_cell, read_none}
use Rattle.inp_ring.proofs.Releases.{read_more, read_all}
use Rattle.inp_ring.proofs.removal.read_each.Goals as goal

pub loop-at-init : goal.loop-at-init
loop-at-init c = (
  let_go_none c.args.store.now c.args.numbers.now c.requires.held,
  read_none (cell_taken c.args.offset)
      (queue_in c.args.store.now c.args.numbers.now) c.args.out.now c.args.from,
)

-- the cell of a number is as it was at first
cell_is : (c : goal.After-let_go)
    → c.let_go.result ≡ cell_at c.args.store.now (get_or c.args.numbers.now c.loop-at.at 0)
cell_is c = sym (ap some_cell c.let_go.ensures.cell) ∙ let_go_cell c.loop-at.invariant.0 c.loop-at-test.true

pub taken-requires-clause-now : goal.taken-requires-clause-now
taken-requires-clause-now c =
    let now = ap (λ (x : Cell). x.now) (cell_is c) in
    omega (
      arith,
      now,
      fit_cell c.args.store.now c.args.numbers.now c.loop-at.at c.requires.moments c.loop-at-test.true,
    )

pub loop-at-preserved : goal.loop-at-preserved
loop-at-preserved c =
    let s = c.args.store.now in
    let q = c.args.numbers.now in
    let at = c.loop-at.at in
    let here : at < length q = c.loop-at-test.true in
    let long : at < length (queue_in s q) = omega (arith, length-map q (cell_at s)) in
    let same : c.let_go.result ≡ cell_at s (get_or q at 0) =
    sym (ap some_cell c.let_go.ensures.cell) ∙ let_go_cell c.loop-at.invariant.0 here in
    let cell : c.let_go.result ≡ get_or (queue_in s q) at (some_cell None) =
    same ∙ sym (get_or-map (cell_at s) q at 0 (some_cell None) here) in (
      let_go_more c.loop-at.invariant.0 here c.let_go.new.self c.let_go.ensures.released
          (spare_less _ _ _ c.let_go.ensures.spare) (omega (arith, c.let_go.ensures.room)),
      rw (c.taken.ensures.taken, cell)
          (read_more (cell_taken c.args.offset)
          (queue_in s q) c.args.out.now c.args.from c.loop-at.out at (some_cell None)
          c.loop-at.invariant.1 long
          (omega arith)),
    )

pub returns-clause-read : goal.returns-clause-read
returns-clause-read c =
    let s = c.args.store.now in
    let q = c.args.numbers.now in
    read_all (cell_taken c.args.offset)
    (queue_in s q) c.args.out.now c.args.from c.loop-at.out c.loop-at.at c.loop-at.invariant.1
    (omega (arith, length-map q (cell_at s)))
