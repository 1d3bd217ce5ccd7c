use Rattle.inp_script.proofs.SightLists.{kept-at}
use Rattle.inp_script.proofs.sight_run.lend_at.Goals as goal

-- what is lent is what the list has at that index
pub returns : goal.returns
returns c = record {
  item = kept-at c.args.calls.now c.args.kept.now c.args.index _ _ c.requires.within c.lend.ensures.sight;
}
