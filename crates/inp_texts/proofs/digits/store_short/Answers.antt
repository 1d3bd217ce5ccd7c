-- Two digits more.
use Rattle.std.proofs.Common.{arith}
use Rattle.inp_texts.proofs.Decimals.{decimal-length-pair, two-more}
use Rattle.inp_texts.proofs.digits.store_short.Goals as goal

pub store_first-next-requires-clause-room : goal.store_first-next-requires-clause-room
store_first-next-requires-clause-room c =
    let more = decimal-length-pair c.args.number c.if-number-lt100.false c.ranges.number.fits in omega arith

pub store_two-requires-clause-room : goal.store_two-requires-clause-room
store_two-requires-clause-room c =
    let more = decimal-length-pair c.args.number c.if-number-lt100.false c.ranges.number.fits in
    omega (arith, c.store_first-next.ensures.end, c.store_first-next.auto.bytes)

pub returns-clause-end : goal.returns-clause-end
returns-clause-end c =
    let more = decimal-length-pair c.args.number c.if-number-lt100.false c.ranges.number.fits in omega arith

pub returns-clause-stored : goal.returns-clause-stored
returns-clause-stored c =
    two-more c.args.number _ _ _ c.if-number-lt100.false c.ranges.number.fits
    c.store_first-next.ensures.stored c.store_two.ensures.stored
