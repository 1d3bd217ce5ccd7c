-- Each event is left and written, or eaten; behind the last one nothing more is left.
use Rattle.std.proofs.Common.{take, refl, sym, ◌∙◌, arith, pos}
use Rattle.std.proofs.lemmas.List.{append-nil, drop_all}
use Rattle.inp_model.specs.declared.event.Event.{Event}
use Rattle.inp_filter.proofs.LetThrough.{passing-none, writes-left, writes-eaten, let_through-none}
use Rattle.inp_filter.proofs.LetThrough.{given_after-none}
use Rattle.inp_filter.proofs.filters.Filters.pass.Goals.{then-lets_through, else-lets_through}
use Rattle.inp_filter.proofs.filters.Filters.pass.Goals as goal

-- what a read of a place gives where there is no event
abbrev none : Event
none = record { kind = 0; code = 0; value = pos 0 }

pub loop-event-init : goal.loop-event-init
loop-event-init c = record {
  few = omega arith;
  rest = refl;
  passing = λ fs given h. passing-none fs c.args.now given c.args.events.now c.args.self.now h;
}

pub loop-event-preserved : goal.loop-event-preserved
loop-event-preserved c =
    let here = c.loop-event in
    let events = c.args.events.now in
    elim c.if-lets_through.branch [
      | then-lets_through w ↦
          let next =
          writes-left c.args.now events c.args.self.now c.args.out.now here.event-index here.count here.self
          c.lets_through.new.self here.out none (omega arith) here.invariant c.lets_through.ensures.stands
          (λ fs given h. sym w.if-lets_through.true ∙ c.lets_through.ensures.left fs given h)
          (omega (arith, here.invariant.few, c.requires.room)) in
          rw (w.count-is, w.out-is) next
      | else-lets_through w ↦
          let next =
          writes-eaten c.args.now events c.args.self.now c.args.out.now here.event-index here.count here.self
          c.lets_through.new.self here.out none (omega arith) here.invariant c.lets_through.ensures.stands
          (λ fs given h. sym w.if-lets_through.false ∙ c.lets_through.ensures.left fs given h) in
          rw (w.count-is, w.out-is) next
    ]

pub returns : goal.returns
returns c =
    let here = c.loop-event in
    let none_more = drop_all here.event-index c.args.events.now c.loop-event-test.false in
    record {
      left = λ fs given h.
          let p = here.invariant.passing fs given h in
          let end = rw (← none_more) at (let_through-none fs c.args.now p.given_so_far) in
          sym (cc (p.left_is, end, append-nil (take here.count here.out)));
      stands = λ fs given h.
          let p = here.invariant.passing fs given h in
          let end = rw (← none_more, ← p.given_is) at (given_after-none c.args.now p.given_so_far) in
          rw end p.stands;
      fits = omega (arith, here.invariant.few);
      rest = here.invariant.rest;
    }
