use Rattle.std.proofs.Common.{arith, length-take}
use Rattle.inp_script.proofs.TapCalls.{tap-made, few_events}
use Rattle.inp_script.proofs.role.tap.make.Goals as goal

pub slice_bounds-take_events-end : goal.slice_bounds-take_events-end
slice_bounds-take_events-end g c =
    omega (arith, c.count_taken.ensures, few_events _ _ _ _ _ _ _ _ c.call-reply.ensures.called)

pub slice_bounds-take_events-end-2 : goal.slice_bounds-take_events-end-2
slice_bounds-take_events-end-2 g c =
    omega (
      arith,
      length-take c.count_taken.result c.call-reply.new.out,
      c.count_taken.ensures,
      few_events _ _ _ _ _ _ _ _ c.call-reply.ensures.called,
    )

-- the view takes the answer, and then the events that the call read
pub returns-clause-made : goal.returns-clause-made
returns-clause-made g c =
    tap-made _ _ _ _ _ _ _ _ c.call-reply.ensures.called c.args.view.now c.answer.new.self
    c.take_events.new.self c.count_taken.result
    c.requires.view c.answer.ensures.view c.count_taken.ensures c.take_events.ensures.view
