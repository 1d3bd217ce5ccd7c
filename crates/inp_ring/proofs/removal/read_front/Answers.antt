use Rattle.std.proofs.Common.{◌≡◌, ◌-◌, List, drop, take, map, length, arith, sym, subst}
use Rattle.std.proofs.lemmas.List.{length-map, length-take-le, map-append, take-map}
use Rattle.inp_ring.specs.declared.cell.Cell.{Cell}
use Rattle.inp_ring.specs.Store.{cell_taken}
use Rattle.inp_ring.specs.Ring.{cell_at, queue_in, AreFit}
use Rattle.inp_ring.proofs.Releases.{first_held, second_held, second_stays, first_fit, second_fit, both_out}
use Rattle.inp_ring.proofs.Releases.{take_parts, left_is_rest, read_parts}
use Rattle.inp_ring.proofs.removal.read_front.Goals as goal

pub read_each-requires-clause-held : goal.read_each-requires-clause-held
read_each-requires-clause-held c =
    first_held c.as_slices.result.0.now c.as_slices.result.1.now c.args.numbers.now.items c.as_slices.ensures
    c.args.count c.min-in_front.result c.min-in_front.ensures c.requires.some c.args.store.now c.requires.held

pub read_each-requires-clause-moments : goal.read_each-requires-clause-moments
read_each-requires-clause-moments c =
    first_fit c.as_slices.result.0.now c.as_slices.result.1.now c.args.numbers.now.items c.as_slices.ensures
    c.args.count c.min-in_front.result c.min-in_front.ensures c.requires.some c.args.store.now
    c.requires.moments

pub read_each-requires-2-clause-held : goal.read_each-requires-2-clause-held
read_each-requires-2-clause-held c =
    second_held c.as_slices.result.0.now c.as_slices.result.1.now c.args.numbers.now.items c.as_slices.ensures
    c.args.count c.min-in_front.result c.min-in_front.ensures c.requires.some c.args.store.now c.requires.held
    c.read_each.ensures.moved

pub read_each-requires-2-clause-moments : goal.read_each-requires-2-clause-moments
read_each-requires-2-clause-moments c =
    let front = c.as_slices.result.0.now in
    let back = c.as_slices.result.1.now in
    let q = c.args.numbers.now.items in
    let P : List Cell → Type 0 = λ l. AreFit l in
    subst P
    (sym
    (second_stays front back q c.as_slices.ensures c.args.count c.min-in_front.result c.min-in_front.ensures
    c.requires.some c.args.store.now c.requires.held c.read_each.ensures.moved))
    (second_fit front back q c.as_slices.ensures c.args.count c.min-in_front.result c.min-in_front.ensures
    c.requires.some c.args.store.now c.requires.moments)

pub returns-clause-read : goal.returns-clause-read
returns-clause-read c =
    let front = c.as_slices.result.0.now in
    let back = c.as_slices.result.1.now in
    let q = c.args.numbers.now.items in
    let s = c.args.store.now in
    let count = c.args.count in
    let f = cell_taken c.args.offset in
    let in_front = c.min-in_front.result in
    let xs = map f (queue_in s (take in_front front)) in
    let ys = map f (queue_in s (take (count - in_front) back)) in
    let long : length xs ≡ in_front =
    omega (
      arith,
      length-map (queue_in s (take in_front front)) f,
      length-map (take in_front front) (cell_at s),
      length-take-le in_front front (omega (arith, c.min-in_front.ensures)),
      c.min-in_front.ensures,
    ) in
    let stays =
    second_stays front back q c.as_slices.ensures count in_front c.min-in_front.ensures c.requires.some
    c.args.store.now c.requires.held c.read_each.ensures.moved in
    rw (
      c.read_each-2.ensures.read,
      c.read_each.ensures.read,
      stays,
      read_parts xs ys c.args.out.now in_front long,
      ← map-append f (queue_in s (take in_front front)) (queue_in s (take (count - in_front) back)),
      ← map-append (cell_at s) (take in_front front) (take (count - in_front) back),
      ← take_parts front back q c.as_slices.ensures count in_front c.min-in_front.ensures c.requires.some,
      ← take-map (cell_at s) count q,
    )

pub returns-clause-moved : goal.returns-clause-moved
returns-clause-moved c =
    let q = c.args.numbers.now.items in
    let rest : c.truncate_front.new.self.items ≡ drop c.args.count q =
    rw (c.truncate_front.ensures, c.len.ensures.len) (left_is_rest q c.args.count c.requires.some) in
    both_out c.as_slices.result.0.now c.as_slices.result.1.now q c.as_slices.ensures c.args.count
    c.min-in_front.result c.min-in_front.ensures c.requires.some c.args.store.now c.requires.held
    c.read_each.ensures.moved c.truncate_front.new.self.items c.read_each-2.ensures.moved rest
