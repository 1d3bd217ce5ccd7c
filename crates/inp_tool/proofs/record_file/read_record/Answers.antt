use Rattle.inp_tool.proofs.Records.{record_read}
use Rattle.inp_tool.proofs.record_file.read_record.Goals as goal

-- the text was read, and then its streams, from the same files
pub returns-clause-read : goal.returns-clause-read
returns-clause-read g c =
    let first = c.in_ok-text.ensures in
    let parts = c.read_parts.ensures in
    record_read _ _ _ _ _ _ _ _ _ first.read parts.read c.deref.ensures.value first.files_stay
    parts.stays_told
