use Rattle.std.proofs.Common.{refl, sym, ap, ◌∙◌, ◌∷◌, [], length, take, get_or, arith}
use Rattle.std.proofs.lemmas.List.{length-append}
use Rattle.inp_client.proofs.Locations.{is_at}
use Rattle.inp_client.specs.Locations.{clients_in}
use Rattle.inp_client.proofs.ReadableClients.{readable_of, next_held, next_number, readable_same}
use Rattle.inp_client.proofs.ReadableClients.{readable_more, written_none, fit_more}
use Rattle.inp_client.proofs.readable.write_readable.Goals as goal

-- before the first client no number was written
pub loop-location-init : goal.loop-location-init
loop-location-init c = record { count = refl; few = omega arith; written = written_none c.args.numbers.now }

-- each cell of the next client's ring has that ring as a holder
pub visible-requires : goal.visible-requires
visible-requires c =
    record {
      held =
          next_held c.requires.located c.requires.stored
          (is_at _ _ _ _ c.loop-location-test.true c.index-client.ensures);
    }

pub loop-location-preserved-then-visible-eq0 : goal.loop-location-preserved-then-visible-eq0
loop-location-preserved-then-visible-eq0 c =
    let same =
    readable_same c.requires.located c.requires.stored
    (is_at _ _ _ _ c.loop-location-test.true c.index-client.ensures) c.visible.result
    c.visible.ensures.visible c.if-visible-eq0.true in
    record {
      count = c.loop-location.invariant.count ∙ ap length (sym same);
      few = omega (arith, c.loop-location.invariant.few);
      written = rw (c.loop-location.invariant.written, ← same);
    }

-- the next client can read something, so its number comes behind the others, where it fits
pub loop-location-preserved : goal.loop-location-preserved
loop-location-preserved c =
    let i = c.loop-location.location-index in
    let number = c.index-client.result.now.number in
    let before = readable_of c.args.store.now (take i (clients_in c.args.locations.now c.args.slab.now)) in
    let more =
    readable_more c.requires.located c.requires.stored
    (is_at _ _ _ _ c.loop-location-test.true c.index-client.ensures) c.visible.result
    c.visible.ensures.visible c.if-visible-eq0.false in
    let number_there = (get_or c.args.locations.now i (record { number = 0; key = 0 })).number in
    let own =
    next_number c.requires.located c.requires.stored
    (is_at _ _ _ _ c.loop-location-test.true c.index-client.ensures) in
    record {
      count =
          omega (arith, c.loop-location.invariant.count, ap length more, length-append before (number ∷ []));
      few = omega (arith, c.loop-location.invariant.few);
      written =
          rw (
            c.put_at.ensures.put,
            c.loop-location.invariant.written,
            ← own,
            fit_more before c.args.numbers.now number c.loop-location.count
                c.loop-location.invariant.count,
            ← more,
          );
    }
