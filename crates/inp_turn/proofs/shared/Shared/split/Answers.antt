use Rattle.std.proofs.Common.{rules}
use Rattle.inp_turn.proofs.KeptRule.{splits}
use Rattle.inp_turn.proofs.shared.Shared.split.Goals as goal

pub split_seat-seat-requires : goal.split_seat-seat-requires
split_seat-seat-requires g c = (
  c.requires.own,
  search rules,
  splits g.S.Kept.base g.S.Kept.entries _ _ _ c.requires.free c.requires.share,
)
