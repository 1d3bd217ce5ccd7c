-- How a record is kept.
use Rattle.inp_actors.specs.declared.record.Record.TheInside.{Inside}
use Rattle.inp_actors.specs.Record.{RecordView, IsRecord}

abbrev pub record_view : Inside → RecordView
record_view r = record { version = r.version; devices = r.devices; actors = r.actors; lines = r.lines; streams = r.streams.items }

abbrev pub IsKeptRecord : Inside → Type 0
IsKeptRecord r = IsRecord (record_view r)
