use Rattle.inp_texts.proofs.Written.{item_at}
use Rattle.inp_report.proofs.Actors.{joy_within}
use Rattle.inp_report.proofs.joysticks.push_joysticks.Goals as goal

pub push_joy-requires : goal.push_joy-requires
push_joy-requires c =
    let there =
    item_at c.as_slice-joy-items.result.now c.args.joys.now c.loop-joy.joy-index c.joy-item.result
    c.as_slice-joy-items.ensures.items c.loop-joy-test.true c.joy-item.is in
    record {
      actor =
          joy_within c.args.rec.now c.args.joys.now c.loop-joy.joy-index c.joy-item.result
          c.requires.joys there;
    }
