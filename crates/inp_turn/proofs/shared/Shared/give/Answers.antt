use Rattle.std.proofs.Common.{sym, ap, rules}
use Rattle.inp_turn.proofs.KeptRule.{releases}
use Rattle.inp_turn.proofs.Seats.{in_hand, kept-give}
use Rattle.inp_turn.proofs.shared.Shared.give.Goals as goal

pub store-requires : goal.store-requires
store-requires g c = let pass = c.args.pass.now in let state = c.args.held.state in let is =
    c.exchange-empty.ensures.3 in let same = sym (ap (λ m. m.0) is) in
    let held = in_hand pass.seat.me c.exchange-empty.new.seat.me state pass.holds_slot c.requires.turn is in (
      search rules,
      search rules,
      releases g.S.Kept.base g.S.Kept.entries _ _ _ c.exchange-empty.new.seat.me state held
          (rw same at c.requires.turn) (rw same at pass.has_share)
          (rw same at c.requires.base) (rw same at c.requires.grown),
    )

pub invariant_of-pass : goal.invariant_of-pass
invariant_of-pass g c = let pass = c.args.pass.now in let state = c.args.held.state in let given =
    g.S.Kept.entries state in let is = c.exchange-empty.ensures.3 in
    let held =
    in_hand pass.seat.me c.exchange-empty.new.seat.me state pass.holds_slot c.requires.turn is in let did =
    c.store.ensures.2 state held in
    let kept =
    kept-give pass.seat.me.0 given c.store.new.seat.me
    (rw (did.0, is)) did.1 pass.in_no_join pass.has_share pass.owns_seen c.requires.grown in record {
      in_no_join = kept.in_no_join;
      has_share = kept.has_share;
      owns_seen = kept.owns_seen;
      holds_slot = kept.holds_slot;
    }
