use Rattle.std.proofs.Common.{ℕ, List, sym, subst, rules}
use Rattle.inp_turn.specs.PassView.{AreApart}
use Rattle.inp_turn.proofs.KeptRule.{meets, unites}
use Rattle.inp_turn.proofs.shared.Shared.join.Goals as goal

pub join_seat-requires : goal.join_seat-requires
join_seat-requires g c = let a = sym c.into_seat-seat.ensures.seat in let b =
    sym c.into_seat.ensures.seat in (
      search rules,
      search rules,
      search rules,
      search rules,
      meets g.S.Kept.base g.S.Kept.entries _ _ c.into_seat-seat.result.me.0 _ c.into_seat.result.me.0
          (search rules) (search rules) (search rules),
    )

pub load-requires : goal.load-requires
load-requires g c = (
  search rules,
  search rules,
  unites g.S.Kept.base g.S.Kept.entries _ _ _ c.join_seat.new.seat.me (search rules) (search rules)
      (search rules),
)

pub returns-clause-apart : goal.returns-clause-apart
returns-clause-apart g c = let a = c.into_seat-seat.ensures.seat in let b =
    c.into_seat.ensures.seat in let met = rw c.join_seat.ensures.2 at c.load.ensures.2.apart in
    subst (λ (z : List ℕ × List ℕ). AreApart z.0 z.1) (λ i. ((a i).me.0.pass.own, (b i).me.0.pass.own)) met
