-- Each example computes, and the counts are lemmas.
use Rattle.std.proofs.Common.{refl}
use Rattle.inp_make.specs.Generated.{pad, finger_events, touches, frame_events}
use Rattle.inp_make.proofs.Counts.{events_at_first, events_later, count-finger, count-fast, count-mid}
use Rattle.inp_make.proofs.Counts.{count-slow}
use Rattle.inp_make.proofs.examples.examples.Goals as goal

pub returns-clause-axes : goal.returns-clause-axes
unfolding pad
returns-clause-axes c = (refl, refl, refl, refl, refl, refl, refl)

pub returns-clause-positions : goal.returns-clause-positions
unfolding finger_events
returns-clause-positions c = (refl, refl)

pub returns-clause-events : goal.returns-clause-events
unfolding finger_events
returns-clause-events c = (refl, refl)

pub returns-clause-frames : goal.returns-clause-frames
unfolding frame_events touches finger_events
returns-clause-frames c = (refl, refl, refl, refl, refl, refl)

pub returns-clause-follows : goal.returns-clause-follows
returns-clause-follows c = (refl, refl)

pub returns-clause-moments : goal.returns-clause-moments
returns-clause-moments c = (refl, refl)

pub returns-clause-event_counts : goal.returns-clause-event_counts
returns-clause-event_counts c = (events_at_first, events_later)

pub returns-clause-line_counts : goal.returns-clause-line_counts
returns-clause-line_counts c = λ number count some. (
  count-finger number count some,
  count-fast number count,
  count-mid number count,
  count-slow number count,
)
