use Rattle.std.proofs.Common.{arith}
use Rattle.inp_record.proofs.LineByLine.{few_lines}
use Rattle.inp_tool.proofs.record_file.parse_text.Goals as goal

-- a line ends with a byte of the text, so a text within its limit has few lines
pub parse-requires : goal.parse-requires
parse-requires c = record { few = omega (arith, few_lines c.args.text.now) }
