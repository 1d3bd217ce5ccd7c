use Rattle.std.proofs.Common.{◌≡◌, true, rules, arith}
use Rattle.inp_texts.specs.Line.{is_text, words_of}
use Rattle.inp_codes.specs.ByNumber.{texts}
use Rattle.inp_record.proofs.Texts.{words_are_text}
use Rattle.inp_record.proofs.line_parser.read_line.Goals as goal

pub read_words-requires-clause-text : goal.read_words-requires-clause-text
read_words-requires-clause-text c =
    let text : is_text c.args.line.now ≡ true = grind arith in
    let is : texts c.as_slice.result.now ≡ words_of c.args.line.now = search rules in
    rw is (words_are_text c.args.line.now text)
