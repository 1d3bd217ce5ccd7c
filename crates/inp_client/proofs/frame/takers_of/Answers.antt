use Rattle.std.proofs.Common.{◌≡◌, true, false, sym, ◌∙◌, arith}
use Rattle.inp_client.proofs.Locations.{is_at}
use Rattle.inp_client.proofs.Runs.{takers_same, takers_more, takes_more}
use Rattle.inp_client.proofs.frame.takers_of.Goals as goal

pub loop-location-preserved-then-not-is_offered_to : goal.loop-location-preserved-then-not-is_offered_to
loop-location-preserved-then-not-is_offered_to c =
    let not_to = sym c.is_offered_to.ensures ∙ c.if-not-is_offered_to.true in (
      takers_same c.requires.located
          (is_at _ _ _ _ c.loop-location-test.true c.index-client.ensures) c.args.holder
          c.loop-location.takers
          c.loop-location.invariant.0 not_to,
      (
        omega (arith, c.loop-location.invariant.1.0),
        takes_more c.requires.located
            (is_at _ _ _ _ c.loop-location-test.true c.index-client.ensures) c.args.holder c.args.count
            c.loop-location.invariant.1.1 (λ is_to. let no : true ≡ false = sym is_to ∙ not_to in cc),
      ),
    )

-- the next client is offered the frame and takes all of it, so it is one more
pub loop-location-preserved : goal.loop-location-preserved
loop-location-preserved c =
    let is_to = sym c.is_offered_to.ensures ∙ c.if-not-is_offered_to.false in (
      takers_more c.requires.located
          (is_at _ _ _ _ c.loop-location-test.true c.index-client.ensures) c.args.holder
          c.loop-location.takers
          c.loop-location.invariant.0 is_to,
      (
        omega (arith, c.loop-location.invariant.1.0),
        takes_more c.requires.located
            (is_at _ _ _ _ c.loop-location-test.true c.index-client.ensures) c.args.holder c.args.count
            c.loop-location.invariant.1.1
            (λ h. (
              c.takes_all.ensures.full c.if-not-takes_all.false,
              c.takes_all.ensures.room c.if-not-takes_all.false,
            )),
      ),
    )
