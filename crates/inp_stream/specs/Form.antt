-- The forms of records.
use Rattle.std.specs.Prelude.{ℕ}
use Rattle.inp_stream.specs.declared.event_record.TheConstants.{TIME_LEN}
use Rattle.inp_stream.specs.declared.event_record16.TheConstants.{TIME16_LEN}
use Rattle.inp_stream.specs.declared.record_form.RecordForm.{RecordForm}
use Rattle.inp_stream.specs.declared.record_form.RecordForm.TheVariants.{Wide, Narrow}

-- the number of bytes of a record's seconds, and of its microseconds
abbrev pub time_len : RecordForm → ℕ
time_len Wide = TIME_LEN
time_len Narrow = TIME16_LEN
