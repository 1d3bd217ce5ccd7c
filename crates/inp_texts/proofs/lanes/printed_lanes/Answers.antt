use Rattle.std.proofs.Common.{sym, ap, ◌∙◌, arith}
use lib.Count.{count_trailing_zeros}
use lib.Lanes.{chunk}
use Rattle.std.proofs.lemmas.Simd.{length-chunk, leading_from_mask_l, trailing_mask_l}
use Rattle.inp_texts.proofs.Sixteen.{is_above, above_mask, run_is}
use Rattle.inp_texts.proofs.lanes.printed_lanes.Goals as goal

pub returns-then-other-eq0 : goal.returns-then-other-eq0
returns-then-other-eq0 c =
    let v = chunk c.args.at 16 c.args.line.now in
    let long = length-chunk c.args.at 16 c.args.line.now c.requires in
    let none = leading_from_mask_l is_above v (sym (above_mask v long) ∙ c.if-other-eq0.true) in
    let run = run_is c.args.line.now c.args.at 16 c.requires c.type_inv.line (sym (none ∙ long)) in
    record { within = run.within; printed = run.printed; other = run.other }

pub returns-else-other-eq0 : goal.returns-else-other-eq0
returns-else-other-eq0 c =
    let v = chunk c.args.at 16 c.args.line.now in
    let long = length-chunk c.args.at 16 c.args.line.now c.requires in
    let mask = above_mask v long in
    let first =
    ap (count_trailing_zeros 64) mask ∙ trailing_mask_l is_above 64 v (omega arith) (omega arith) in
    let run = run_is c.args.line.now c.args.at _ c.requires c.type_inv.line first in
    record { within = run.within; printed = run.printed; other = run.other }
