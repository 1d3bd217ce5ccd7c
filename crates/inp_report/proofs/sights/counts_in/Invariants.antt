use Rattle.std.proofs.Common.{◌≡◌, take}
use Rattle.std.specs.List.{count_by}
use Rattle.inp_report.specs.Sights.{is_took, is_made, is_again_sight}
use Rattle.inp_report.proofs.sights.counts_in.Given as goal

-- the entries of each kind so far
abbrev pub invariant-loop-index : goal.invariant-loop-index
invariant-loop-index l = record {
  took : l.counts.took ≡ count_by is_took (take l.index l.run);
  made : l.counts.made ≡ count_by is_made (take l.index l.run);
  again : l.counts.again ≡ count_by is_again_sight (take l.index l.run);
}
