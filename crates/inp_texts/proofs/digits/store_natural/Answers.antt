-- One digit.
use Rattle.std.proofs.Common.{◌+◌, arith}
use Rattle.std.proofs.lemmas.Fmt.{decimal_digit}
use Rattle.std.proofs.lemmas.Grind.{take-set_at}
use Rattle.inp_texts.proofs.Decimals.{decimal-length-one}
use Rattle.inp_texts.proofs.digits.store_natural.Goals as goal

pub bounds-bytes-at : goal.bounds-bytes-at
bounds-bytes-at c = let one = decimal-length-one c.args.number c.if-number-lt10.true in omega arith

pub returns-then-number-lt10-clause-end : goal.returns-then-number-lt10-clause-end
returns-then-number-lt10-clause-end c =
    let one = decimal-length-one c.args.number c.if-number-lt10.true in omega arith

pub returns-then-number-lt10-clause-stored : goal.returns-then-number-lt10-clause-stored
returns-then-number-lt10-clause-stored c =
    let one = decimal-length-one c.args.number c.if-number-lt10.true in
    rw (
      take-set_at c.args.bytes.now c.args.at (c.args.at + 1) (48 + c.args.number) (omega arith)
          (omega arith),
      ← decimal_digit c.args.number c.if-number-lt10.true,
    )
