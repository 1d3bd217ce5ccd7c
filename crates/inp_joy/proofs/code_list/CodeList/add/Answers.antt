use Rattle.std.proofs.Common.{sym, ◌∙◌, arith, length-append, ◌∷◌, ◌++◌, [], ap, length}
use Rattle.inp_joy.proofs.Numbers.{cut-few, cut-full}
use Rattle.inp_joy.proofs.code_list.CodeList.add.Goals as goal

pub returns-then-len-lt-CODES_MAX : goal.returns-then-len-lt-CODES_MAX
returns-then-len-lt-CODES_MAX c =
    let long = length-append c.args.self.now (c.args.code ∷ []) in
    record {
      added =
          c.push.ensures
          ∙ sym (cut-few (c.args.self.now ++ c.args.code ∷ [])
          (omega (arith, long, c.len.ensures.len, c.if-len-lt-CODES_MAX.true)));
      few = omega (arith, long, ap length c.push.ensures, c.len.ensures.len, c.if-len-lt-CODES_MAX.true);
    }

pub returns-else-len-lt-CODES_MAX : goal.returns-else-len-lt-CODES_MAX
returns-else-len-lt-CODES_MAX c = record {
  added =
      sym (cut-full c.args.self.now (c.args.code ∷ [])
      (omega (arith, c.len.ensures.len, c.len.ensures.few, c.if-len-lt-CODES_MAX.false)));
  few = omega (arith, c.len.ensures.len, c.len.ensures.few);
}
