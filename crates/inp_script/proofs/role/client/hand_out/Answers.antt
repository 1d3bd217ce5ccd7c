use Rattle.std.proofs.Common.{◌∙◌, sym, refl, arith}
use Rattle.inp_script.proofs.Common.{job_of}
use Rattle.inp_model.proofs.Leaves.{description-kept}
use Rattle.inp_script.specs.Progress.{going}
use Rattle.inp_script.proofs.TalkCalls.{begins-none}
use Rattle.inp_script.proofs.Rounds.{passed-none, passed-more, hands_out-last, hands_out-none}
use Rattle.inp_script.proofs.Rounds.{hands_out-begun}
use Rattle.inp_script.proofs.role.client.hand_out.Goals as goal

pub returns-then-is_done-clause-done : goal.returns-then-is_done-clause-done
returns-then-is_done-clause-done g c =
    hands_out-none c.args.reader.now.description c.args.wait c.args.skips _ c.args.count
    (job_of c.args.reader.now.reading c.args.notes.now) (sym c.is_done.ensures ∙ c.if-is_done.true)

pub loop-next-init : goal.loop-next-init
loop-next-init g c = record {
  passed =
      passed-none c.args.reader.now.description c.args.wait c.args.skips (g.E.Evdev.told c.args.dev.now)
      (going (record { left = c.args.count; agains = 0 })
      (job_of c.args.reader.now.reading c.args.notes.now));
  patient = omega arith;
  reader = refl;
}

pub loop-next-preserved : goal.loop-next-preserved
loop-next-preserved g c =
    let d = c.args.reader.now.description in
    let a = g.E.Evdev.told c.loop-next.dev in
    let b = g.E.Evdev.told c.advance.new.dev in
    let here = going c.loop-next.progress (job_of c.loop-next.reader.reading c.loop-next.notes) in
    let j = job_of c.advance.new.reader.reading c.advance.new.notes in
    let round = rw c.in-GoesOn.is at
    (rw c.loop-next.invariant.reader at c.in_ok-next.ensures.turn) in
    record {
      passed =
          passed-more d c.args.wait c.args.skips _ a b _ here
          (going c.in-GoesOn.next j) c.loop-next.invariant.passed round;
      patient = rw c.in-GoesOn.is at c.in_ok-next.ensures.patient;
      reader = c.in_ok-next.ensures.reader ∙ c.loop-next.invariant.reader;
    }

-- the last round ended the line, behind those that went on
pub returns-in-Ends-clause-done : goal.returns-in-Ends-clause-done
returns-in-Ends-clause-done g c =
    let d = c.args.reader.now.description in
    let a = g.E.Evdev.told c.loop-next.dev in
    let b = g.E.Evdev.told c.advance.new.dev in
    let here = going c.loop-next.progress (job_of c.loop-next.reader.reading c.loop-next.notes) in
    let j = job_of c.advance.new.reader.reading c.advance.new.notes in
    let round = rw c.in-Ends.is at
    (rw c.loop-next.invariant.reader at c.in_ok-next.ensures.turn) in
    hands_out-last d c.args.wait c.args.skips _ a b c.args.count
    (job_of c.args.reader.now.reading c.args.notes.now) j here (sym c.is_done.ensures
    ∙ c.if-is_done.false) c.loop-next.invariant.passed round

pub returns-then-is_done-clause-begun : goal.returns-then-is_done-clause-begun
returns-then-is_done-clause-begun g c = (0, begins-none _ _)

pub advance-requires-clause-description : goal.advance-requires-clause-description
advance-requires-clause-description g c =
    description-kept _ _ c.loop-next.invariant.passed.calls c.loop-next.invariant.passed.are_calls
    ∙ c.requires.description ∙ sym c.loop-next.invariant.reader

pub returns-in_err-next-clause-begun : goal.returns-in_err-next-clause-begun
returns-in_err-next-clause-begun g c =
    hands_out-begun c.args.reader.now.description c.args.wait c.args.skips c.loop-next.reader.description _ _
    _ c.args.count (job_of c.args.reader.now.reading c.args.notes.now)
    (going c.loop-next.progress (job_of c.loop-next.reader.reading c.loop-next.notes))
    c.loop-next.invariant.reader (sym c.is_done.ensures
    ∙ c.if-is_done.false) c.loop-next.invariant.passed c.in_err-next.ensures.begun

-- the last round's calls follow those of the rounds before
pub returns-in-Ends-clause-begun : goal.returns-in-Ends-clause-begun
returns-in-Ends-clause-begun g c =
    hands_out-begun c.args.reader.now.description c.args.wait c.args.skips c.loop-next.reader.description _ _
    _ c.args.count (job_of c.args.reader.now.reading c.args.notes.now)
    (going c.loop-next.progress (job_of c.loop-next.reader.reading c.loop-next.notes))
    c.loop-next.invariant.reader (sym c.is_done.ensures
    ∙ c.if-is_done.false) c.loop-next.invariant.passed c.in_ok-next.ensures.begun
