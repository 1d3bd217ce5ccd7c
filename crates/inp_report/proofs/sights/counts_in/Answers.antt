use Rattle.std.proofs.Common.{◌≡◌, ap}
use Rattle.inp_script.specs.declared.sight_ref.SightRef.{SightRef}
use Rattle.inp_script.specs.declared.sight_ref.SightRef.TheVariants.{Took, Injected, Read, Made, Again}
use Rattle.inp_script.specs.declared.sight_ref.SightRef.TheVariants.{Record, Call}
use Rattle.inp_script.specs.SightRef.{sight_of}
use Rattle.inp_report.proofs.SightCounts.{counts_with, kinds-more}
use Rattle.inp_report.proofs.sights.counts_in.Goals.{in-Took, in-Made, in-Again, in-Injected, in-Read}
use Rattle.inp_report.proofs.sights.counts_in.Goals.{in-Record, in-Call}
use Rattle.inp_report.proofs.sights.counts_in.Goals as goal

-- whatever kind the next entry is of, the counts are those with it
pub loop-index-preserved : goal.loop-index-preserved
loop-index-preserved c =
    let entries = c.args.run.now in
    let i = c.loop-index.index in
    let read = c.get.result in
    let old = c.loop-index.counts in
    let new = c.match-get.counts in
    let before = c.loop-index.invariant in
    let more = λ (lent : SightRef) (is : read ≡ lent) (with_it : new ≡ counts_with old (sight_of lent)).
    kinds-more entries i (sight_of read) (sight_of lent) old new c.get.ensures.item (ap sight_of is) with_it
    before in
    elim c.match-get.branch [
      | in-Took w ↦ more (Took w.in-Took.event) w.in-Took.is w.counts-is
      | in-Made w ↦ more (Made w.in-Made.event) w.in-Made.is w.counts-is
      | in-Again w ↦ more (Again w.in-Again.at w.in-Again.ends) w.in-Again.is w.counts-is
      | in-Injected w ↦
          more (Injected w.in-Injected.event w.in-Injected.now w.in-Injected.at) w.in-Injected.is w.counts-is
      | in-Read w ↦
          more (Read w.in-Read.client w.in-Read.most w.in-Read.at w.in-Read.count) w.in-Read.is w.counts-is
      | in-Record w ↦ more (Record w.in-Record.bytes) w.in-Record.is w.counts-is
      | in-Call w ↦ more (Call w.in-Call.call) w.in-Call.is w.counts-is
    ]
