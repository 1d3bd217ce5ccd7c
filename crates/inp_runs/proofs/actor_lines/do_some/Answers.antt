use Rattle.std.proofs.Common.{◌≡◌, ◌≤◌, ◌<◌, ℕ, List, length, map, take, drop, sym, ap, ◌∙◌, arith, inr, Some}
use Rattle.std.specs.Prelude.{get_or, slice_get}
use Rattle.std.proofs.lemmas.List.{length-take-le}
use Rattle.std.proofs.lemmas.Option.{slice_get-get_or}
use Rattle.inp_model.specs.Injection.{AreInTime}
use Rattle.inp_script.specs.DoneLine.{HasActor}
use Rattle.inp_runs.proofs.Common.{Stamped, Line, Source, is_owner, RecordView, ActorView, lines_by}
use Rattle.inp_runs.proofs.Common.{slice_get_within}
use Rattle.inp_runs.specs.DoingAll.{AreNumbersOf}
use Rattle.inp_runs.specs.EventLines.{inject_line}
use Rattle.inp_runs.proofs.DoingAll.{acted-line, acted_on-begun, own-line}
use Rattle.inp_runs.proofs.EventLines.{AreInjects, gathered-injects, gathered-within, injects-in_time}
use Rattle.inp_runs.proofs.EventLines.{injects-source, own-injects, whole}
use Rattle.inp_runs.proofs.actor_lines.do_some.Goals as goal
use Rattle.inp_runs.proofs.actor_lines.do_some.Given.{Over}
use Rattle.inp_runs.proofs.actor_lines.do_some.Goals.{After-adjacent_count-count}

pub do_line-requires-clause-line : goal.do_line-requires-clause-line
do_line-requires-clause-line g c =
    let own =
    own-line c.args.rec.now c.args.number c.args.lines.now c.args.from _ c.requires.lines
    (slice_get-get_or c.args.lines.now c.args.from 0 c.requires.from) in
    record { line = own.line; is_line = own.is_line; is_actor = own.is_actor ∙ sym c.requires.number }

pub returns-in_err-do_line-clause-left : goal.returns-in_err-do_line-clause-left
returns-in_err-do_line-clause-left g c =
    acted_on-begun g.D.Evdev.told g.D.Feeds.feeds _ _ c.args.rec.now c.args.wait _ _ c.do_line.ensures.begun

pub returns-then-count-lt2-clause-done : goal.returns-then-count-lt2-clause-done
returns-then-count-lt2-clause-done g c =
    acted-line g.D.Evdev.told g.D.Feeds.feeds c.args.rec.now c.args.wait _ _ c.args.number c.args.from _ _ _
    (own-line c.args.rec.now c.args.number c.args.lines.now c.args.from _ c.requires.lines
    (slice_get-get_or c.args.lines.now c.args.from 0 c.requires.from)) c.in_ok-do_line.ensures.done

pub returns-then-count-lt2-clause-left : goal.returns-then-count-lt2-clause-left
returns-then-count-lt2-clause-left g c =
    acted_on-begun g.D.Evdev.told g.D.Feeds.feeds _ _ c.args.rec.now c.args.wait _ _ c.do_line.ensures.begun

-- the number stands for a line, so the record goes on from there
goes_on : (r : RecordView) (number from : ℕ) (numbers : List ℕ) (all : List Line)
    → AreNumbersOf r number numbers → from < length numbers → all ≡ r.lines
    → get_or numbers from 0 < length all
goes_on r number from numbers all own below is =
    let its = own-line r number numbers from _ own (slice_get-get_or numbers from 0 below) in
    rw is (slice_get_within r.lines (get_or numbers from 0) its.line its.is_line)

pub slice_bounds-gather_front-start : goal.slice_bounds-gather_front-start
slice_bounds-gather_front-start g c =
    omega (
      arith,
      goes_on c.args.rec.now c.args.number c.args.from c.args.lines.now c.as_slice.result.now
          c.requires.lines c.requires.from (c.as_slice.ensures.items ∙ c.lines.ensures.lines),
    )

pub slice_bounds-gather_front-count : goal.slice_bounds-gather_front-count
slice_bounds-gather_front-count g c =
    omega (
      arith,
      goes_on c.args.rec.now c.args.number c.args.from c.args.lines.now c.as_slice.result.now
          c.requires.lines c.requires.from (c.as_slice.ensures.items ∙ c.lines.ensures.lines),
    )

-- Lines that inject events

text_at : (r : RecordView) (number : ℕ) (a : ActorView) (h : HasActor r a) → a.actor ≡ number
    → slice_get r.actors number ≡ Some h.text
text_at r number a h same = ap (slice_get r.actors) (sym same) ∙ h.is_text

-- Lines of an actor were gathered from the next one on. These are the events of those that have the next
-- numbers.
record AreNext (r : RecordView) (number from count : ℕ) (events : List Stamped) (a : ActorView) : Type 0 where
  source : a.role ≡ Source
  in_time : AreInTime events
  are_lines : take count (drop from (lines_by number r.lines)) ≡ map (inject_line a.actor) events

next : (g : Over) (c : After-adjacent_count-count g) → 2 ≤ c.adjacent_count-count.result
    → AreNext c.args.rec.now c.args.number c.args.from c.adjacent_count-count.result
    (take c.adjacent_count-count.result c.gather_front-gathered.new.events) c.args.actor.now
next g c some =
    let r = c.args.rec.now in
    let number = c.args.number in
    let numbers = c.args.lines.now in
    let first : ℕ = get_or numbers c.args.from 0 in
    let gathered = c.gather_front-gathered.result in
    let count = c.adjacent_count-count.result in
    let all = c.as_slice.result.now in
    let a = c.args.actor.now in
    let h = c.requires.actor in
    let events = c.gather_front-gathered.new.events in
    let few = c.adjacent_count-count.ensures.most in
    let is = c.as_slice.ensures.items ∙ c.lines.ensures.lines in
    let below = goes_on r number c.args.from numbers all c.requires.lines c.requires.from is in
    let text = text_at r number a h c.requires.number in
    let injects : AreInjects r first count number (take count events) =
    gathered-injects r first gathered count number all events is few
    c.gather_front-gathered.ensures.gathered in
    let long : length (take count events) ≡ count =
    length-take-le count events (omega (arith, few, c.gather_front-gathered.ensures.fits)) in
    record {
      source =
          sym h.role
          ∙ injects-source r first count number h.text _ c.lines.ensures.«record» text injects
          (omega (arith, some, long));
      in_time = injects-in_time r first count number h.text _ c.lines.ensures.«record» text injects;
      are_lines =
          own-injects r number c.args.from first count numbers _ c.requires.lines
          (rw whole at c.adjacent_count-count.ensures.adjacent)
          (gathered-within r first gathered count all is (rw is at below) few
          c.gather_front-gathered.ensures.within) injects
          ∙ ap (λ (actor : ℕ). map (inject_line actor) (take count events)) (sym c.requires.number);
    }

-- the events were gathered from lines of the actor, and only a source has such lines
pub inject_all-requires-clause-source : goal.inject_all-requires-clause-source
inject_all-requires-clause-source g c =
    (next g (goal.at.inject_all-requires-clause-source g c).After-adjacent_count-count
    c.if-count-lt2.false).source

-- the events stand in a record, which keeps their moments within range
pub inject_all-requires-clause-moments : goal.inject_all-requires-clause-moments
inject_all-requires-clause-moments g c =
    (next g (goal.at.inject_all-requires-clause-moments g c).After-adjacent_count-count
    c.if-count-lt2.false).in_time

pub returns-in_err-inject_all-clause-left : goal.returns-in_err-inject_all-clause-left
returns-in_err-inject_all-clause-left g c =
    let n =
    next g (goal.at.returns-in_err-inject_all-clause-left g c).After-adjacent_count-count
    c.if-count-lt2.false in
    inr (ap is_owner n.source, c.inject_all.ensures.left)

-- the gathered events are those of the actor's next lines, injected by one call
pub returns-clause-done : goal.returns-clause-done
returns-clause-done g c =
    let n = next g (goal.at.returns-clause-done g c).After-adjacent_count-count c.if-count-lt2.false in
    inr (record {
      source = n.source;
      events = take c.adjacent_count-count.result c.gather_front-gathered.new.events;
      are_lines = n.are_lines;
      holds = c.in_ok-inject_all.ensures.done;
      actor = c.in_ok-inject_all.ensures.actor;
    })

-- a source injected the events, so that they are calls of an evdev
pub returns-clause-left : goal.returns-clause-left
returns-clause-left g c =
    let n = next g (goal.at.returns-clause-left g c).After-adjacent_count-count c.if-count-lt2.false in
    inr (ap is_owner n.source, c.inject_all.ensures.left)
