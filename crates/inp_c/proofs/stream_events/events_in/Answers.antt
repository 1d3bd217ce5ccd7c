use Rattle.std.proofs.Common.{◌≡◌, List, length, take, drop, ◌-◌, ap, sym, ◌∙◌, Some}
use Rattle.inp_model.specs.declared.stamped.Stamped.{Stamped}
use Rattle.inp_model.specs.Reply.{written}
use Rattle.inp_c.proofs.Rest.{rest_is}
use Rattle.inp_c.proofs.stream_events.events_in.Goals as goal

-- the stream's events from the place on are copied, as many as fit, and the others are left
pub returns-clause-told : goal.returns-clause-told
returns-clause-told c = λ _.
    let stamps = c.as_slice-stamps.result.now in
    let rest : take (length stamps - c.args.from) (drop c.args.from stamps)
    ≡ drop c.args.from c.in-Some.stream.now =
    rest_is stamps c.args.from
    ∙ ap (λ (l : List Stamped). drop c.args.from l) c.as_slice-stamps.ensures.items in
    record {
      kept = c.in-Record.record;
      stamps = c.in-Some.stream.now;
      is = ap Some c.in-Record.is;
      there = sym c.in-Some.ensures;
      left_is = ap length rest;
      events_written =
          c.copy_events.ensures
          ∙ ap (λ (l : List Stamped). written (take (length c.args.events.now) l) c.args.events.now) rest;
    }
