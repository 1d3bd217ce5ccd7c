use Rattle.std.proofs.Common.{◌∙◌, refl}
use Rattle.inp_script.proofs.JoyReads.{has-read, read-device, reads-none, reads-more, reads-last, reads-begun}
use Rattle.inp_script.proofs.role.joystick.read_on.Goals as goal

-- before the first read no call was made
pub loop-init : goal.loop-init
loop-init g c = record { passed = reads-none _ _ _; joy = refl; device = c.requires.description }

-- a read behind which the line goes on is one more, and the device stays
pub loop-preserved : goal.loop-preserved
loop-preserved g c =
    let read =
    has-read _ _ c.args.joy.now.description _ _ _ _ _ c.loop.invariant.joy c.in-GoesOn.is
    c.in_ok-read_once.ensures.done in
    record {
      passed = reads-more _ _ _ _ _ _ c.loop.invariant.passed _ read;
      joy = c.in_ok-read_once.ensures.joy ∙ c.loop.invariant.joy;
      device = read-device _ _ _ _ _ _ read ∙ c.loop.invariant.device;
    }

pub returns-in-Hands-clause-done : goal.returns-in-Hands-clause-done
returns-in-Hands-clause-done g c =
    reads-last c.args.joy.now.description _ _ _ _ _ c.loop.invariant.passed _ _ _ (λ go_on. refl)
    (has-read _ _ _ _ _ _ _ _ c.loop.invariant.joy c.in-Hands.is c.in_ok-read_once.ensures.done)

-- the last read ended the line, behind those that went on
pub returns-in-Ends-clause-done : goal.returns-in-Ends-clause-done
returns-in-Ends-clause-done g c =
    reads-last c.args.joy.now.description _ _ _ _ _ c.loop.invariant.passed _ _ _ (λ go_on. refl)
    (has-read _ _ _ _ _ _ _ _ c.loop.invariant.joy c.in-Ends.is c.in_ok-read_once.ensures.done)

pub returns-in-Hands-clause-begun : goal.returns-in-Hands-clause-begun
returns-in-Hands-clause-begun g c =
    reads-begun _ _ _ _ _ _ c.loop.invariant.passed c.loop.joy.description c.loop.invariant.joy
    c.in_ok-read_once.ensures.begun

-- the calls of the read that ended the line follow those of the reads before
pub returns-in-Ends-clause-begun : goal.returns-in-Ends-clause-begun
returns-in-Ends-clause-begun g c =
    reads-begun _ _ _ _ _ _ c.loop.invariant.passed c.loop.joy.description c.loop.invariant.joy
    c.in_ok-read_once.ensures.begun

pub returns-in_err-read_once-clause-begun : goal.returns-in_err-read_once-clause-begun
returns-in_err-read_once-clause-begun g c =
    reads-begun _ _ _ _ _ _ c.loop.invariant.passed c.loop.joy.description c.loop.invariant.joy
    c.in_err-read_once.ensures.begun
