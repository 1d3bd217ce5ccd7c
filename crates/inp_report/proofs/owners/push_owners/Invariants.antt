use Rattle.std.proofs.Common.{◌≡◌, ◌++◌, take}
use Rattle.std.specs.List.{flat_map}
use Rattle.inp_report.specs.OwnerReport.{owner_text}
use Rattle.inp_report.proofs.owners.push_owners.Given as goal

-- the owners so far
abbrev pub invariant-loop-owner : goal.invariant-loop-owner
invariant-loop-owner l =
    l.text ≡ l.initial.text ++ flat_map (owner_text l.rec) (take l.owner-index l.owner-items)
