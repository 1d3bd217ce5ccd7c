-- Four digits more.
use Rattle.std.proofs.Common.{arith}
use Rattle.inp_texts.proofs.Decimals.{decimal-length-four, four-more}
use Rattle.inp_texts.proofs.digits.+store_long.Goals as goal

pub store_long-next-requires : goal.store_long-next-requires
store_long-next-requires t c =
    let more = decimal-length-four c.args.number c.if-number-lt10000.false c.ranges.number.fits in
    (omega arith, omega arith)

pub store_four-requires-clause-room : goal.store_four-requires-clause-room
store_four-requires-clause-room t c =
    let more = decimal-length-four c.args.number c.if-number-lt10000.false c.ranges.number.fits in
    omega (arith, c.store_long-next.ensures.end, c.store_long-next.auto.bytes)

pub returns-clause-end : goal.returns-clause-end
returns-clause-end t c =
    let more = decimal-length-four c.args.number c.if-number-lt10000.false c.ranges.number.fits in omega arith

pub returns-clause-stored : goal.returns-clause-stored
returns-clause-stored t c =
    four-more c.args.number _ _ _ c.if-number-lt10000.false c.ranges.number.fits
    c.store_long-next.ensures.stored c.store_four.ensures.stored
