use Rattle.std.proofs.Common.{arith}
use Rattle.inp_texts.proofs.Numerals.{decimal_within, decimal_beyond}
use Rattle.inp_texts.proofs.number_words.number.Goals as goal

pub returns-in-Some-clause-value : goal.returns-in-Some-clause-value
returns-in-Some-clause-value c =
    decimal_within c.args.most c.in-Some.value c.args.word.now c.in-Some.ensures.digits
    c.in-Some.ensures.value (omega arith)

pub returns-in-Some-2-clause-value : goal.returns-in-Some-2-clause-value
returns-in-Some-2-clause-value c =
    decimal_beyond c.args.most c.in-Some.value c.args.word.now c.in-Some.ensures.digits
    c.in-Some.ensures.value (omega arith)
