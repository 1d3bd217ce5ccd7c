use Rattle.std.proofs.Common.{◌≡◌, ℕ, List, length, take, ap, sym, ◌∙◌, Some}
use Rattle.inp_model.specs.Reply.{written}
use Rattle.inp_c.proofs.streams.file_in.Goals as goal

-- the name is that of the file that the line's stream is read from
pub returns-clause-told : goal.returns-clause-told
returns-clause-told c = λ _.
    let name : c.as_bytes-name.result.now ≡ c.in-Some.file.now =
    c.as_bytes-name.ensures.value ∙ c.text.ensures.text in
    record {
      kept = c.in-Record.record;
      name = c.in-Some.file.now;
      is = ap Some c.in-Record.is;
      named = sym c.in-Some.ensures;
      len_is = ap length name;
      bytes =
          c.copy_bytes.ensures
          ∙ ap (λ (l : List ℕ). written (take (length c.args.out.now) l) c.args.out.now) name;
    }
