-- What is left of the events so far stands at the front of the buffer.
use Rattle.inp_filter.proofs.LetThrough.{Writes}
use Rattle.inp_filter.proofs.filters.Filters.pass.Given as goal

abbrev pub invariant-loop-event : goal.invariant-loop-event
invariant-loop-event l = Writes l.now l.events l.initial.self l.initial.out l.event-index l.count l.self l.out
