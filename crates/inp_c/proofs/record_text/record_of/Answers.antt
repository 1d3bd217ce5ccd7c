use Rattle.std.proofs.Common.{ℕ, ◌+◌, ◌^◌, ◌<◌, ◌≤◌, arith}
use Rattle.inp_edge.specs.declared.input.TheConstants.{INPUT_LIMIT}
use Rattle.inp_record.proofs.LineByLine.{few_lines}
use Rattle.inp_c.proofs.record_text.record_of.Goals as goal

-- a number of 32 bits counts the lines of a text that is not too long
counted : (lines bytes : ℕ) → lines ≤ bytes + 1 → bytes ≤ INPUT_LIMIT → lines < 2 ^ 32
counted lines bytes few within = omega (arith, few, within)

-- a text that is not too long has fewer lines than a number of 32 bits counts
pub parse-requires : goal.parse-requires
parse-requires c = record { few = counted _ _ (few_lines c.args.text.now) c.requires.within }
