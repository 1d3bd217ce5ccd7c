use Rattle.std.proofs.Common.{ap, sym, ◌∙◌}
use Rattle.inp_stream.specs.declared.record_form.RecordForm.{RecordForm}
use Rattle.inp_stream.specs.Stream.{decoded}
use Rattle.inp_stream.specs.Form.{time_len}
use Rattle.inp_stream.proofs.record_form.RecordForm.decode.Goals as goal

pub returns-in-Wide : goal.returns-in-Wide
returns-in-Wide c =
    c.decode.ensures.meaning
    ∙ ap (λ (form : RecordForm). decoded (time_len form) c.args.bytes.now) (sym c.in-Wide.is)
