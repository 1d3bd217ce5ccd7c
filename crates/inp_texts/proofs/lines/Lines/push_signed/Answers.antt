-- Ten digits and a sign are the most.
use Rattle.std.proofs.Common.{◌≤◌, length, arith, to_z-of_z}
use Rattle.inp_texts.proofs.Decimals.{signed-length-le}
use Rattle.inp_texts.proofs.Pages.{written-length}
use Rattle.inp_texts.proofs.lines.Lines.push_signed.Goals as goal

pub store_signed-self-inside-requires : goal.store_signed-self-inside-requires
store_signed-self-inside-requires c =
    let fits : c.self.inside.len ≤ length c.self.inside.bytes = omega arith in
    let start = written-length c.self.inside.bytes c.args.self.now c.self.inside.len fits c.self.view_is in
    let most = signed-length-le c.args.number c.ranges.number in
    let back = to_z-of_z c.ranges.number in
    rw back (record { room = omega arith })
