use Rattle.std.proofs.Common.{◌≡◌, ◌++◌, map}
use Rattle.std.specs.List.{range_with_len, flat_map}
use Rattle.inp_make.specs.Generated.{finger_events, injected}
use Rattle.inp_make.proofs.frame.push_touches.Given as goal

abbrev pub invariant-loop-finger : goal.invariant-loop-finger
invariant-loop-finger l =
    l.lines ≡ l.fn.lines ++ map (injected l.frame)
    (flat_map (finger_events l.number l.frame) (range_with_len 0 l.finger))
