-- Each kind stands for no events.
use Rattle.std.proofs.Common.{refl}
use Rattle.inp_filter.specs.FilterState.{FilterStandsFor}
use Rattle.inp_filter.proofs.filter_state.FilterState.new.Goals as goal

pub returns-in-Eat : goal.returns-in-Eat
unfolding FilterStandsFor
returns-in-Eat c = record { fresh = rw c.in-Eat.is (refl, refl) }

pub returns-in-Norepeat : goal.returns-in-Norepeat
unfolding FilterStandsFor
returns-in-Norepeat c = record { fresh = rw c.in-Norepeat.is tt }

pub returns-in-Chord : goal.returns-in-Chord
unfolding FilterStandsFor
returns-in-Chord c = record { fresh = rw c.in-Chord.is c.new.ensures.fresh }

pub returns-in-Bounce : goal.returns-in-Bounce
unfolding FilterStandsFor
returns-in-Bounce c = record { fresh = rw c.in-Bounce.is c.new-in-Bounce.ensures.fresh }
