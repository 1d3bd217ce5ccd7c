use Rattle.std.proofs.Common.{◌≡◌, ℕ, ◌-◌, List, length, take, drop, ap, ◌∙◌, Some}
use Rattle.inp_model.specs.Reply.{written}
use Rattle.inp_c.proofs.Rest.{rest_is}
use Rattle.inp_c.proofs.texts.text_in.Goals as goal

-- the text's bytes from the place on are copied, as many as fit, and the others are left
pub returns-clause-told : goal.returns-clause-told
returns-clause-told c = λ _.
    let text = c.deref.result.now in
    let rest : take (length text - c.args.from) (drop c.args.from text)
    ≡ drop c.args.from c.in-Record.record.text.items =
    rest_is text c.args.from ∙ ap (λ (l : List ℕ). drop c.args.from l) c.deref.ensures.value in
    record {
      kept = c.in-Record.record;
      is = ap Some c.in-Record.is;
      left_is = ap length rest;
      bytes =
          c.copy_bytes.ensures
          ∙ ap (λ (l : List ℕ). written (take (length c.args.out.now) l) c.args.out.now) rest;
    }
