use Rattle.std.proofs.Common.{◌≡◌, drop}
use Rattle.inp_ring.proofs.Releases.{first_held, second_held, both_out, left_is_rest}
use Rattle.inp_ring.proofs.removal.release_front.Goals as goal

pub let_go_each-requires : goal.let_go_each-requires
let_go_each-requires c =
    record {
      held =
          first_held c.as_slices.result.0.now c.as_slices.result.1.now c.args.numbers.now.items
          c.as_slices.ensures c.args.count c.min-in_front.result c.min-in_front.ensures c.requires.some
          c.args.store.now c.requires.held;
    }

pub let_go_each-requires-2 : goal.let_go_each-requires-2
let_go_each-requires-2 c =
    record {
      held =
          second_held c.as_slices.result.0.now c.as_slices.result.1.now c.args.numbers.now.items
          c.as_slices.ensures c.args.count c.min-in_front.result c.min-in_front.ensures c.requires.some
          c.args.store.now c.requires.held c.let_go_each.ensures.moved;
    }

pub returns-clause-moved : goal.returns-clause-moved
returns-clause-moved c =
    let q = c.args.numbers.now.items in
    let rest : c.truncate_front.new.self.items ≡ drop c.args.count q =
    rw (c.truncate_front.ensures, c.len.ensures.len) (left_is_rest q c.args.count c.requires.some) in
    both_out c.as_slices.result.0.now c.as_slices.result.1.now q c.as_slices.ensures c.args.count
    c.min-in_front.result c.min-in_front.ensures c.requires.some c.args.store.now c.requires.held
    c.let_go_each.ensures.moved c.truncate_front.new.self.items c.let_go_each-2.ensures.moved rest
