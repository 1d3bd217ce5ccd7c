use Rattle.std.proofs.Common.{length, ap, ◌∙◌}
use Rattle.inp_device.proofs.QueryAnswers.{readable_kept}
use Rattle.inp_device.proofs.present.Present.readable.Goals as goal

-- the same clients can read by what is kept as by the past
pub returns : goal.returns
returns c = record {
  count = λ d past stands. c.readable.ensures.count ∙ ap length (readable_kept stands);
  few = c.readable.ensures.few;
  written = λ d past stands. rw (c.readable.ensures.written, readable_kept stands);
}
