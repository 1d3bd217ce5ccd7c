-- What comes of an owner on a short row, computed.
use Rattle.std.proofs.Common.{pos, refl, [], ◌∷◌, inl, inr}
use Rattle.inp_runs.proofs.Common.{Inject, OwnerState}
use Rattle.inp_feedback.specs.declared.u_entry.UEntry.TheVariants.{Made, Feedback}
use Rattle.inp_feedback.specs.declared.fed.Fed.TheVariants.{Took}
use Rattle.inp_feedback.specs.Examples.{bell}
use Rattle.inp_feedback.proofs.Computation.{computing}
use Rattle.inp_runs.specs.Owner.{HasFed}
use Rattle.inp_runs.specs.OwnerExamples.{TakesTheBellOnce, StopsAtItsLimit}
use Rattle.inp_runs.proofs.laws.owners_on_a_short_row.Goals as goal
use Rattle.inp_script.specs.Owner.{first_owning, after_feedback}

-- told of the bell
abbrev told_once : OwnerState
told_once = after_feedback (Took 1 1) (bell (pos 1) ∷ []) first_owning

takes : TakesTheBellOnce
unfolding HasFed computing
takes = record {
  kept = Feedback 0 ∷ Feedback 1 ∷ Made (Inject (bell (pos 1)) 0) ∷ [];
  steps = refl;
  done = 8 ∷ 8 ∷ [];
  before = after_feedback (Took 1 0) [] told_once;
  fed = (told_once, (first_owning, refl, refl, refl), refl, refl);
  ends = inl (refl, refl);
}

stops : StopsAtItsLimit
unfolding HasFed computing
stops = record {
  kept = Feedback 1 ∷ Made (Inject (bell (pos 1)) 0) ∷ [];
  steps = refl;
  done = 8 ∷ [];
  before = told_once;
  fed = (first_owning, refl, refl, refl);
  ends =
      inr (record {
        room = 8;
        left = 8 ∷ [];
        is_next = refl;
        later = [];
        found = Feedback 1 ∷ Made (Inject (bell (pos 1)) 0) ∷ [];
        split = refl;
        full = refl;
        told = refl;
      });
}

-- each example is computed from what the device kept
pub returns : goal.returns
returns c = record { once = takes; limit = stops }
