use Rattle.std.proofs.Common.{◌≡◌}
use Rattle.std.specs.Prelude.{Some, None}
use Rattle.inp_script.proofs.Common.{call_if, step_of, no_stick, job_of}
use Rattle.inp_script.proofs.TalkCalls.{holds-nothing, begins-none}
use Rattle.inp_script.proofs.Streams.{holds-noted, begins-call_if}
use Rattle.inp_script.proofs.role.client.call.Goals as goal

-- a command without a step makes no call
pub returns-in_default-clause-done : goal.returns-in_default-clause-done
returns-in_default-clause-done g c =
    let j = job_of c.args.reader.now.reading c.args.notes.now in
    let none : step_of c.args.reader.now.reading.client c.args.command.now ≡ None =
    rw (← c.client.ensures.client, ← c.step_of.ensures.step) c.in_default.is in
    holds-nothing _ (call_if j (step_of c.args.reader.now.reading.client c.args.command.now))
    (Some j) (rw none)

-- the command's step is the one call, which was noted
pub returns-clause-done : goal.returns-clause-done
returns-clause-done g c =
    let some : Some c.in-Some.step ≡ step_of c.args.reader.now.reading.client c.args.command.now =
    rw (← c.in-Some.is, c.step_of.ensures.step, c.client.ensures.client) in
    rw (← some)
    (holds-noted _ _ c.in-Some.step c.in_ok-call.field-0 c.args.notes.now c.call.new.self
    c.args.reader.now.reading no_stick c.in_ok-call.ensures.noted)

-- of a command without a step no call is made
pub returns-in_default-clause-begun : goal.returns-in_default-clause-begun
returns-in_default-clause-begun g c = begins-none _ _

-- the command's step is the one call, which was made
pub returns-clause-begun : goal.returns-clause-begun
returns-clause-begun g c =
    begins-call_if _ _ c.in-Some.step _ (job_of c.args.reader.now.reading c.args.notes.now)
    (rw (← c.in-Some.is, c.step_of.ensures.step, c.client.ensures.client)) c.in_ok-call.ensures.made

-- the one call was made, though memory ran out while it was noted
pub returns-in_err-call-clause-begun : goal.returns-in_err-call-clause-begun
returns-in_err-call-clause-begun g c =
    begins-call_if _ _ c.in-Some.step _ (job_of c.args.reader.now.reading c.args.notes.now)
    (rw (← c.in-Some.is, c.step_of.ensures.step, c.client.ensures.client)) c.in_err-call.ensures.made
