use Rattle.std.proofs.Common.{◌≡◌, ◌++◌, take}
use Rattle.std.specs.List.{flat_map}
use Rattle.inp_report.specs.OwnerReport.{fed_line}
use Rattle.inp_report.proofs.owners.push_owner_part.Given as goal

-- what it was told so far
abbrev pub invariant-loop-sight : goal.invariant-loop-sight
invariant-loop-sight l = l.text ≡ l.initial.text ++ flat_map fed_line (take l.sight-index l.sight-items)
