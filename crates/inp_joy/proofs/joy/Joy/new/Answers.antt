use Rattle.std.proofs.Common.{◌+◌, length, ap, ◌∙◌, arith}
use Rattle.inp_joy.proofs.TurnEnds.{new-joy}
use Rattle.inp_joy.proofs.joy.Joy.new.Goals as goal

-- a client is new with a blank picture, a new view and no startup record left
pub invariant_of-result : goal.invariant_of-result
invariant_of-result c =
    let d = c.args.caps.now in
    new-joy d (record {
      buttons = c.buttons-2.inside.codes.items;
      axes = c.in_ok-axes.axes;
      reader = c.in_ok-new.field-0;
      handed = c.len.result + c.len-2.result;
      picture = c.blank.result;
      made = c.in_ok-new-2.field-0;
    }) c.in_ok-new.ensures.description
    (c.buttons-2.view_is ∙ c.in_ok-buttons.ensures) c.in_ok-axes.ensures
    (omega (arith, c.len.ensures.len, c.len-2.ensures.len, ap length c.buttons-2.view_is))
    (rw c.in_ok-new.ensures.reading) c.blank.ensures c.in_ok-new-2.ensures.none
