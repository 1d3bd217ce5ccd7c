use Rattle.std.proofs.Common.{◌∙◌, ◌+◌, ◌-◌, refl, arith}
use Rattle.inp_script.specs.Notes.{joy_job}
use Rattle.inp_script.proofs.JoyReads.{reads-on, reads-device, records-none, records-more, records-ended}
use Rattle.inp_script.proofs.JoyReads.{records-all, records-begun}
use Rattle.inp_script.proofs.role.joystick.read_records.Goals as goal

-- before the first record no call was made, and all are left
pub loop-init : goal.loop-init
loop-init g c =
    record { passed = records-none _ _ _ _ _ (omega arith); joy = refl; device = c.requires.description }

-- a record was handed out, so one less is left, and the device stays
pub loop-preserved : goal.loop-preserved
loop-preserved g c =
    let next = joy_job c.read_on.new.joy.joying c.read_on.new.notes in
    let read =
    reads-on _ _ c.args.joy.now.description _ _ _ _ c.loop.invariant.joy
    (rw c.if-not-branch.false) c.in_ok-read_on.ensures.done in
    record {
      passed =
          records-more _ _ _ _ _ _ (c.args.count - c.loop.counter) (c.args.count - (c.loop.counter + 1)) _
          (omega arith) c.loop.invariant.passed next read;
      joy = c.in_ok-read_on.ensures.joy ∙ c.loop.invariant.joy;
      device = reads-device _ _ _ _ _ read ∙ c.loop.invariant.device;
    }

-- all records were handed out, and none is left
pub returns-clause-done : goal.returns-clause-done
returns-clause-done g c =
    records-all _ _ _ _ _ (c.args.count - c.loop.counter) _ (omega arith) c.loop.invariant.passed

-- a read ended the line before all records were handed out
pub returns-then-not-branch-clause-done : goal.returns-then-not-branch-clause-done
returns-then-not-branch-clause-done g c =
    let next = joy_job c.read_on.new.joy.joying c.read_on.new.notes in
    records-ended _ _ _ _ _ _ (c.args.count - c.loop.counter) (c.args.count - (c.loop.counter + 1)) _
    (omega arith) c.loop.invariant.passed next
    (reads-on _ _ _ _ _ _ _ c.loop.invariant.joy (rw c.if-not-branch.true) c.in_ok-read_on.ensures.done)

-- the calls of the read that ended the line follow those of the records before
pub returns-then-not-branch-clause-begun : goal.returns-then-not-branch-clause-begun
returns-then-not-branch-clause-begun g c =
    records-begun _ _ _ _ _ _ (c.args.count - c.loop.counter) (c.args.count - (c.loop.counter + 1)) _
    (omega arith) c.loop.invariant.passed c.loop.joy.description c.loop.invariant.joy
    c.in_ok-read_on.ensures.begun

pub returns-in_err-read_on-clause-begun : goal.returns-in_err-read_on-clause-begun
returns-in_err-read_on-clause-begun g c =
    records-begun _ _ _ _ _ _ (c.args.count - c.loop.counter) (c.args.count - (c.loop.counter + 1)) _
    (omega arith) c.loop.invariant.passed c.loop.joy.description c.loop.invariant.joy
    c.in_err-read_on.ensures.begun
