use Rattle.std.proofs.Common.{arith}
use Rattle.inp_record.proofs.LineByLine.{few_lines}
use Rattle.inp_tool.proofs.StreamAt.{stream_within}
use Rattle.inp_tool.proofs.record_file.load_stream.Goals as goal

pub line_number-requires-clause-few : goal.line_number-requires-clause-few
line_number-requires-clause-few c = omega (arith, few_lines c.args.text.now)

pub line_number-requires-clause-there : goal.line_number-requires-clause-there
line_number-requires-clause-there c =
    omega (arith, stream_within c.args.recorded.now c.args.line c.requires.stream, c.requires.lines)
