-- Twenty digits are the most.
use Rattle.std.proofs.Common.{◌≤◌, length, arith}
use Rattle.std.proofs.lemmas.Fmt.{length-decimal-le}
use Rattle.inp_texts.proofs.Pages.{written-length}
use Rattle.inp_texts.proofs.lines.Lines.push_number.Goals as goal

pub store_number-self-inside-requires : goal.store_number-self-inside-requires
store_number-self-inside-requires c =
    let fits : c.self.inside.len ≤ length c.self.inside.bytes = omega arith in
    let start = written-length c.self.inside.bytes c.args.self.now c.self.inside.len fits c.self.view_is in
    let most = length-decimal-le 20 c.args.number (omega arith) (omega arith) c.ranges.number.fits in
    record { room = omega arith }
