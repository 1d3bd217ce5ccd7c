use Rattle.std.proofs.Common.{sym, ◌∙◌, arith}
use Rattle.inp_reader.proofs.Queues.{part-empty, no_part, is_same}
use Rattle.inp_reader.proofs.queue.Queue.is_empty.Goals as goal

-- a part of the buffer is empty where it ends at the index at which it starts, and only there
pub returns : goal.returns
returns c = (
  λ h. sym c.self.view_is ∙ no_part c.self.inside.buffer c.self.inside.next c.self.inside.end h,
  λ h. is_same c.self.inside.next c.self.inside.end
      (part-empty c.self.inside.buffer c.self.inside.next c.self.inside.end c.self.invariant.0
      (omega (arith, c.self.invariant.1, c.self.invariant.2)) (c.self.view_is ∙ h)),
)
