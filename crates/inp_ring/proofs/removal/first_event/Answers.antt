use Rattle.std.proofs.Common.{sym, ap, ◌∙◌, option_copied}
use Rattle.inp_ring.proofs.Moves.{number_there}
use Rattle.inp_ring.proofs.removal.first_event.Goals as goal

pub get-requires : goal.get-requires
get-requires c = record {
  there =
      number_there c.args.store.now c.args.numbers.now.items 0 c.unwrap-number.result.now c.requires.held
      (sym c.front.ensures ∙ ap option_copied c.unwrap-number.ensures);
}
