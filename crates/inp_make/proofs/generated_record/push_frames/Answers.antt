use Rattle.inp_make.specs.Generated.{frame_lines}
use Rattle.inp_make.proofs.Pushed.{pushed_more}
use Rattle.inp_make.proofs.generated_record.push_frames.Goals as goal

pub loop-frame-preserved : goal.loop-frame-preserved
loop-frame-preserved c =
    pushed_more (frame_lines c.args.number) c.args.lines.now c.loop-frame.lines c.push_frame.new.lines
    c.loop-frame.frame c.loop-frame.invariant
    c.in_ok-push_frame.ensures
