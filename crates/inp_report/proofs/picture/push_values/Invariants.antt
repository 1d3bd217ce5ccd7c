use Rattle.std.proofs.Common.{◌≡◌, ◌++◌, take}
use Rattle.std.specs.Fmt.{signed_decimal}
use Rattle.inp_report.specs.Words.{spaced}
use Rattle.inp_report.proofs.picture.push_values.Given as goal

-- the values so far
abbrev pub invariant-loop-value : goal.invariant-loop-value
invariant-loop-value l = l.text ≡ l.initial.text ++ spaced signed_decimal (take l.value-index l.values)
