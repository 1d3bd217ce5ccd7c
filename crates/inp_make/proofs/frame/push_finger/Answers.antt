use Rattle.std.proofs.Common.{rules}
use Rattle.std.proofs.lemmas.Result.{on_ok_weaker}
use Rattle.inp_model.specs.declared.multi_touch.TheConstants.{ABS_MT_TRACKING_ID}
use Rattle.inp_make.specs.Generated.{finger_events, injected, at_first, value_event}
use Rattle.inp_make.proofs.Pushed.{pushed_in_turn}
use Rattle.inp_make.proofs.frame.push_finger.Goals as goal

pub returns : goal.returns
unfolding finger_events
returns c =
    on_ok_weaker c.inject-3.result
    (λ e. pushed_in_turn (injected c.args.frame) c.args.lines.now c.inject.new.lines c.push_contact.new.lines
    c.inject-2.new.lines c.inject-3.new.lines c.value_event.result c.value_event-2.result
    c.value_event-3.result
    (at_first c.args.frame (value_event ABS_MT_TRACKING_ID c.args.finger))
    (finger_events c.args.number c.args.frame c.args.finger) c.in_ok-inject.ensures
    c.in_ok-push_contact.ensures c.in_ok-inject-2.ensures e (search rules))
    c.inject-3.ensures
