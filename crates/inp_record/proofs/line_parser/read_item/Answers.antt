use Rattle.std.proofs.Common.{◌<◌, length, rules}
use Rattle.inp_codes.specs.ByNumber.{texts}
use Rattle.inp_record.proofs.Texts.{some_texts}
use Rattle.inp_record.proofs.Entries.{entered_behind}
use Rattle.inp_record.proofs.Inversions.{words_are}
use Rattle.inp_record.proofs.SayableItems.{has_micros-read}
use Rattle.inp_record.proofs.line_parser.read_item.Goals as goal

pub enter-requires-clause-micros : goal.enter-requires-clause-micros
enter-requires-clause-micros c =
    let ws = texts c.args.words.now in
    let p = words_are c.args.context.now ws c.in_ok-item.item c.in_ok-item.ensures in
    has_micros-read c.args.context.now.actors c.args.context.now.streams p.keyword ws c.in_ok-item.item p.item

pub returns-clause-behind : goal.returns-clause-behind
returns-clause-behind c = λ past e.
    let some : 0 < length c.args.words.now = search rules in
    entered_behind past c.args.context.now
    (texts c.args.words.now) c.in_ok-item.item c.enter.result c.enter.new.self e
    (some_texts c.args.words.now some) c.in_ok-item.ensures (search rules) (search rules) (search rules)
    (search rules) (c.enter.ensures.entered past e)
