use Rattle.inp_script.proofs.SightLists.{within-after}
use Rattle.inp_script.proofs.sights.Sights.push.Goals as goal

-- the entry is kept without an index, so it is within any list
pub invariant_of-self : goal.invariant_of-self
invariant_of-self c =
    let old = c.self.inside in
    let entry = c.in-Ok.kept in
    within-after c.push.result old.calls old.kept c.push.new.self entry
    c.self.invariant (c.in-Ok.ensures.within old.calls) c.push.ensures.ok c.push.ensures.err
