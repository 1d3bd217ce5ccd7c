use Rattle.std.proofs.Common.{ap, arith, ◌≡◌, ◌∙◌, ◌++◌, map}
use Rattle.std.specs.List.{range_with_len, flat_map}
use Rattle.inp_make.specs.Generated.{finger_events, touches, injected}
use Rattle.inp_make.proofs.Pushed.{mapped_more}
use Rattle.inp_make.proofs.frame.push_touches.Goals as goal

pub loop-finger-preserved : goal.loop-finger-preserved
loop-finger-preserved c =
    mapped_more (injected c.args.frame)
    (finger_events c.args.number c.args.frame) c.args.lines.now c.loop-finger.lines c.push_finger.new.lines
    c.loop-finger.finger c.loop-finger.invariant c.in_ok-push_finger.ensures

pub returns : goal.returns
unfolding touches
returns c =
    let last : c.loop-finger.finger ≡ 10 = omega arith in
    c.loop-finger.invariant
    ∙ ap (λ n. c.args.lines.now ++ map (injected c.args.frame)
    (flat_map (finger_events c.args.number c.args.frame) (range_with_len 0 n))) last
