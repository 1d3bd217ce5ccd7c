use Rattle.std.proofs.Common.{Some, rules}
use Rattle.inp_turn.proofs.KeptRule.{tries}
use Rattle.inp_turn.proofs.shared.Shared.try_take.Goals as goal

pub compare_exchange-requires : goal.compare_exchange-requires
compare_exchange-requires g c = (
  c.requires.own,
  search rules,
  tries g.S.Kept.base g.S.Kept.entries _ _ _ _ c.requires.free c.args.pass.now.has_share,
)

pub exchange-requires : goal.exchange-requires
exchange-requires g c = let out = c.compare_exchange.ensures.2.0 c.if-compare_exchange-ne0.false in
    (search rules, (Some out.0, rw (out.1.slots, ← out.1.slots)))
