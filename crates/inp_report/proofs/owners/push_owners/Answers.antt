use Rattle.inp_texts.proofs.Written.{item_at}
use Rattle.inp_report.proofs.Actors.{owner_within}
use Rattle.inp_report.proofs.owners.push_owners.Goals as goal

pub push_owner-requires : goal.push_owner-requires
push_owner-requires c =
    let there =
    item_at c.as_slice-owner-items.result.now c.args.owners.now c.loop-owner.owner-index c.owner-item.result
    c.as_slice-owner-items.ensures.items c.loop-owner-test.true c.owner-item.is in
    record {
      actor =
          owner_within c.args.rec.now c.args.owners.now c.loop-owner.owner-index c.owner-item.result
          c.requires.owners there;
    }
