-- One digit, or two of the table.
use Rattle.std.proofs.Common.{◌+◌, arith}
use Rattle.std.proofs.lemmas.Fmt.{decimal_digit}
use Rattle.std.proofs.lemmas.Grind.{take-set_at}
use Rattle.itoa.proofs.Decimal.{decimal_two}
use Rattle.inp_texts.proofs.Decimals.{decimal-length-one, decimal-length-two}
use Rattle.inp_texts.proofs.digits.store_first.Goals as goal

pub bounds-bytes-at : goal.bounds-bytes-at
bounds-bytes-at c = let one = decimal-length-one c.args.number c.if-number-lt10.true in omega arith

pub returns-then-number-lt10-clause-end : goal.returns-then-number-lt10-clause-end
returns-then-number-lt10-clause-end c =
    let one = decimal-length-one c.args.number c.if-number-lt10.true in omega arith

pub returns-then-number-lt10-clause-stored : goal.returns-then-number-lt10-clause-stored
returns-then-number-lt10-clause-stored c =
    let one = decimal-length-one c.args.number c.if-number-lt10.true in
    rw (
      take-set_at c.args.bytes.now c.args.at (c.args.at + 1) (48 + c.args.number) (omega arith)
          (omega arith),
      ← decimal_digit c.args.number c.if-number-lt10.true,
    )

pub store_two-requires-clause-room : goal.store_two-requires-clause-room
store_two-requires-clause-room c =
    let two = decimal-length-two c.args.number c.if-number-lt10.false c.requires.short in omega arith

pub returns-clause-end : goal.returns-clause-end
returns-clause-end c =
    let two = decimal-length-two c.args.number c.if-number-lt10.false c.requires.short in omega arith

pub returns-clause-stored : goal.returns-clause-stored
returns-clause-stored c =
    rw (c.store_two.ensures.stored, ← decimal_two c.args.number c.if-number-lt10.false c.requires.short)
