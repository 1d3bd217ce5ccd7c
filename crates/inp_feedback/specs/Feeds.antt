-- What a feedback call leaves of what answers it.
use Rattle.std.specs.Prelude.{ℕ, List}
use Rattle.inp_model.specs.declared.event.Event.{Event}
use Rattle.inp_feedback.specs.declared.fed.Fed.{Fed}
use Rattle.inp_feedback.specs.declared.fed.Fed.TheVariants.{Took, Full}

-- how many events an answer says were taken
abbrev pub taken_count : Fed → ℕ
taken_count (Took at count) = count
taken_count (Full at) = 0

-- What answers feedback calls is told by what one of them leaves. That is what it was before, what it is
-- then, for how many events there was room, the answer, and the events that were taken.
abbrev pub Feeding : Type 0 → Type 1
Feeding S = S → S → ℕ → Fed → List Event → Type 0
