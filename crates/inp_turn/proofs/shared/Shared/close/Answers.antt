use Rattle.std.proofs.Common.{rules}
use Rattle.inp_turn.specs.Shared.{start_of}
use Rattle.inp_turn.proofs.ClosedTurn.{comes, closes}
use Rattle.inp_turn.proofs.shared.Shared.close.Goals as goal

pub unwrap-requires : goal.unwrap-requires
unwrap-requires g c = let x = c.into_slot-slot.result in let pass = c.args.pass in
    let last = rw c.into_seat.ensures.seat at c.into_slot-slot.ensures.last in
    let is =
    (comes g.S.Kept.base g.S.Kept.entries
    (start_of c.args.self) pass.seat.id pass.seat.me.0 c.requires.free pass.in_no_join c.requires.whole
    pass.owns_seen x last).is in search rules

pub returns : goal.returns
returns g c = let x = c.into_slot-slot.result in let pass = c.args.pass in
    let last = rw c.into_seat.ensures.seat at c.into_slot-slot.ensures.last in
    let came =
    comes g.S.Kept.base g.S.Kept.entries
    (start_of c.args.self) pass.seat.id pass.seat.me.0 c.requires.free pass.in_no_join c.requires.whole
    pass.owns_seen x last in
    let closed =
    closes g.S.Kept.base g.S.Kept.entries
    (start_of c.args.self) pass.seat.me.0.pass x c.unwrap.result c.unwrap.ensures came in record {
      base = closed.base_is;
      entries = closed.entries_are;
      begins = closed.begins;
      own = closed.own;
    }
