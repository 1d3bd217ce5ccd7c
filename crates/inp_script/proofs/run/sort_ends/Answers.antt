use Rattle.std.proofs.Common.{◌≡◌, refl, ◌∷◌, [], List, ◌++◌, sym, append_assoc}
use Rattle.inp_script.specs.declared.end.ended.Ended.{Ended}
use Rattle.inp_script.specs.Ended.{jobs_among, joys_among, owners_among}
use Rattle.inp_script.specs.declared.end.ended.Ended.TheVariants.{Job as JobEnded, Joy as JoyEnded}
use Rattle.inp_script.specs.declared.end.ended.Ended.TheVariants.{Owner as OwnerEnded}
use Rattle.inp_script.proofs.run.sort_ends.Goals as goal

-- Where one more comes behind the others

jobs_among-append : (ends more : List Ended) → jobs_among (ends ++ more) ≡ jobs_among ends ++ jobs_among more
jobs_among-append [] more = refl
jobs_among-append (JobEnded job ∷ ends) more = rw (jobs_among-append ends more)
jobs_among-append (JoyEnded joy ∷ ends) more = jobs_among-append ends more
jobs_among-append (OwnerEnded owner ∷ ends) more = jobs_among-append ends more

joys_among-append : (ends more : List Ended) → joys_among (ends ++ more) ≡ joys_among ends ++ joys_among more
joys_among-append [] more = refl
joys_among-append (JobEnded job ∷ ends) more = joys_among-append ends more
joys_among-append (JoyEnded joy ∷ ends) more = rw (joys_among-append ends more)
joys_among-append (OwnerEnded owner ∷ ends) more = joys_among-append ends more

owners_among-append : (ends more : List Ended)
    → owners_among (ends ++ more) ≡ owners_among ends ++ owners_among more
owners_among-append [] more = refl
owners_among-append (JobEnded job ∷ ends) more = owners_among-append ends more
owners_among-append (JoyEnded joy ∷ ends) more = owners_among-append ends more
owners_among-append (OwnerEnded owner ∷ ends) more = rw (owners_among-append ends more)

pub loop-ended-preserved : goal.loop-ended-preserved
loop-ended-preserved c = (
  rw (c.in_ok-push_end.ensures.jobs, c.loop-ended.invariant.0)
      (sym (jobs_among-append c.loop-ended.yielded (c.in-Some.ended ∷ []))),
  rw (c.in_ok-push_end.ensures.joys, c.loop-ended.invariant.1, append_assoc, ← joys_among-append),
  rw (c.in_ok-push_end.ensures.owners, c.loop-ended.invariant.2, append_assoc, ← owners_among-append),
)
