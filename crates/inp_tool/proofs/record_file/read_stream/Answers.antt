use Rattle.std.proofs.lemmas.Result.{err_from_is_err_and}
use Rattle.inp_tool.specs.Streams.{StreamFile}
use Rattle.inp_tool.proofs.Records.{takes_file, line_loaded, line_unread}
use Rattle.inp_tool.proofs.record_file.read_stream.Goals as goal

pub returns-in_ok-bytes-in-Stream-clause-read : goal.returns-in_ok-bytes-in-Stream-clause-read
returns-in_ok-bytes-in-Stream-clause-read g c =
    let item = rw c.lines.ensures.lines at c.get.ensures.item in
    let takes =
    takes_file c.args.recorded.now c.args.line c.get.result.now c.in-Stream.file item c.in-Stream.is in
    let stream : StreamFile = record { name = c.in-Stream.file; form = takes.0 } in
    line_loaded _ c.args.text.now c.args.recorded.now c.load_stream.new.recorded c.args.line stream
    c.text.result.now c.in_ok-bytes-in-Stream.bytes.items c.load_stream.result takes.1 c.text.ensures.text
    c.in_ok-bytes-in-Stream.ensures.read
    (rw c.deref.ensures.value at c.load_stream.ensures.loaded)

pub returns-in_err-bytes-in-Stream-clause-read : goal.returns-in_err-bytes-in-Stream-clause-read
returns-in_err-bytes-in-Stream-clause-read g c =
    let p = err_from_is_err_and c.from_residual.result c.from_residual.ensures.1 in
    let item = rw c.lines.ensures.lines at c.get.ensures.item in
    let takes =
    takes_file c.args.recorded.now c.args.line c.get.result.now c.in-Stream.file item c.in-Stream.is in
    let stream : StreamFile = record { name = c.in-Stream.file; form = takes.0 } in
    rw (p.1, p.2)
    (line_unread _ c.args.text.now c.args.recorded.now c.args.line stream c.text.result.now
    c.in_err-bytes-in-Stream.field-0.0 takes.1 c.text.ensures.text c.in_err-bytes-in-Stream.ensures.read)
