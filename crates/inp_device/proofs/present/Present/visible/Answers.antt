use Rattle.std.proofs.Common.{sym, ◌∙◌}
use Rattle.inp_model.specs.Queue.{event_of, visible, queue}
use Rattle.inp_device.proofs.QueryAnswers.{told_none, told_visible}
use Rattle.inp_device.proofs.present.Present.visible.Goals as goal

-- the client is not open, so nothing is told of it
pub returns-then-not-is_open : goal.returns-then-not-is_open
returns-then-not-is_open c = record {
  visible = λ d past stands. told_none stands c.args.client (visible event_of (queue d past c.args.client))
      (sym c.is_open.ensures.«open» ∙ c.if-not-is_open.true);
}

-- the client is open, and as much can be seen of its cells as of its queue
pub returns : goal.returns
returns c = record {
  visible = λ d past stands. told_visible stands c.args.client (sym c.is_open.ensures.«open»
      ∙ c.if-not-is_open.false) c.visible.result c.visible.ensures.visible;
}
