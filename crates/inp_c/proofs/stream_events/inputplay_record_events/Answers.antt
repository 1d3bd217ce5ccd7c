use Rattle.std.proofs.Common.{Option}
use Rattle.inp_c.specs.declared.kept.Kept.{Kept}
use Rattle.inp_c.specs.Contents.{contents}
use Rattle.inp_c.specs.StreamEvents.{IsToldEvents}
use Rattle.inp_c.proofs.Along.{at_contents}
use Rattle.inp_c.proofs.stream_events.inputplay_record_events.Goals as goal

-- the stream's events are told of the record that the handle keeps
pub returns-clause-told : goal.returns-clause-told
returns-clause-told c = λ ok.
    at_contents Kept (λ (k : Option Kept).
    IsToldEvents k c.args.line c.args.from c.args.events.now c.events_in-status.new.events
    c.events_in-status.new.left)
    (contents c.args.handle.now) c.take-kept.result.value c.deref.result.now c.take-kept.ensures.kept
    c.deref.ensures (c.events_in-status.ensures.told ok)
