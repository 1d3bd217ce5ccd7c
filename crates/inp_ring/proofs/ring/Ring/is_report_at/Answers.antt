use Rattle.std.proofs.Common.{sym, ap, ◌∙◌, option_copied}
use Rattle.inp_ring.proofs.Moves.{number_there}
use Rattle.inp_ring.proofs.Rings.{number_at}
use Rattle.inp_ring.proofs.ring.Ring.is_report_at.Goals as goal

pub get-requires-2 : goal.get-requires-2
get-requires-2 c = record {
  there =
      number_there c.args.store.now c.self.inside.numbers.items c.args.index c.unwrap-number.result.now
      (rw (← c.self.view_is) at c.requires.held) (sym c.get.ensures
      ∙ ap option_copied c.unwrap-number.ensures);
}

pub returns : goal.returns
returns c =
    let number =
    number_at c.self.inside.numbers.items c.args.index c.unwrap-number.result.now (sym c.get.ensures
    ∙ ap option_copied c.unwrap-number.ensures) in
    rw (← c.self.view_is) (record {
      report = rw (number, c.get-2.ensures.cell, ← c.is_report.ensures.report);
    })
