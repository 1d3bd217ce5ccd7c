use Rattle.std.proofs.lemmas.Result.{on_ok_weaker}
use Rattle.inp_model.specs.Raw.{key_event}
use Rattle.inp_make.specs.declared.pad.TheConstants.{BTN_TOUCH}
use Rattle.inp_make.specs.Generated.{frame_lines, frame_events, at_first, touches, follows, injected}
use Rattle.inp_make.proofs.Pushed.{pushed_with_others}
use Rattle.inp_make.proofs.frame.push_frame.Goals as goal

pub returns : goal.returns
unfolding frame_lines frame_events
returns c =
    on_ok_weaker c.push_follows.result
    (λ e. pushed_with_others (injected c.args.frame) c.args.lines.now c.push_press.new.lines
    c.push_touches.new.lines c.inject.new.lines c.push_follows.new.lines
    (at_first c.args.frame (key_event BTN_TOUCH 1)) (touches c.args.number c.args.frame) _
    (follows c.args.frame)
    c.in_ok-push_press.ensures c.in_ok-push_touches.ensures c.in_ok-inject.ensures e) c.push_follows.ensures
