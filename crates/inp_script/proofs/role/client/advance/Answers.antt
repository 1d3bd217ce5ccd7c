use Rattle.std.proofs.lemmas.Result.{IfOk-weaker}
use Rattle.inp_reader.specs.Reader.{ReaderView}
use Rattle.inp_script.proofs.Common.{EvdevView, Notes, going, turn_of, job_of}
use Rattle.inp_script.specs.declared.role.client.Turn.{Turn}
use Rattle.inp_script.proofs.TalkCalls.{begins-none}
use Rattle.inp_script.proofs.QueuedRuns.{advanced-run, run-shrinks}
use Rattle.inp_script.proofs.Rounds.{advanced-round, begun-round}
use Rattle.inp_script.proofs.role.client.advance.Goals as goal

pub returns-in_err-turn-clause-begun : goal.returns-in_err-turn-clause-begun
returns-in_err-turn-clause-begun g c = (0, begins-none _ _)

pub returns-in-Some-clause-turn : goal.returns-in-Some-clause-turn
returns-in-Some-clause-turn g c =
    let old = job_of c.args.reader.now.reading c.args.notes.now in
    let new = job_of c.hand_queued.new.reader.reading c.hand_queued.new.notes in
    let run = rw c.in-Some.is at c.in_ok-turn.ensures.some in
    advanced-run _ _ c.args.wait c.args.skips c.args.progress.left c.args.progress.agains old new
    c.in-Some.turn run

-- what is queued is handed out without a call
pub returns-in-Some-clause-begun : goal.returns-in-Some-clause-begun
returns-in-Some-clause-begun g c = (0, begins-none _ _)

pub returns-in-Some-clause-shrinks : goal.returns-in-Some-clause-shrinks
returns-in-Some-clause-shrinks g c =
    let old = job_of c.args.reader.now.reading c.args.notes.now in
    let new = job_of c.hand_queued.new.reader.reading c.hand_queued.new.notes in
    let run = rw c.in-Some.is at c.in_ok-turn.ensures.some in
    run-shrinks _ c.args.wait c.args.progress.left c.args.progress.agains old new c.in-Some.turn run

pub returns-in-None-clause-turn : goal.returns-in-None-clause-turn
returns-in-None-clause-turn g c =
    let a : EvdevView = g.E.Evdev.told c.args.dev.now in
    let b : EvdevView = g.E.Evdev.told c.ask_reader.new.dev in
    let asked : ReaderView = c.hand_queued.new.reader in
    let noted : Notes = c.hand_queued.new.notes in
    let new = job_of c.ask_reader.new.reader.reading c.ask_reader.new.notes in
    let kept = rw c.in-None.is at c.in_ok-turn.ensures.none in
    IfOk-weaker c.ask_reader.result _ _
    (λ (turn : Turn) is.
    rw kept.1 at
    (rw kept.0 at
    (advanced-round asked.description c.args.wait c.args.skips a b
    (going c.args.progress (job_of asked.reading noted)) (turn_of turn new) is)))
    c.ask_reader.ensures.turn

pub returns-in-None-clause-begun : goal.returns-in-None-clause-begun
returns-in-None-clause-begun g c =
    let a : EvdevView = g.E.Evdev.told c.args.dev.now in
    let b : EvdevView = g.E.Evdev.told c.ask_reader.new.dev in
    let asked : ReaderView = c.hand_queued.new.reader in
    let noted : Notes = c.hand_queued.new.notes in
    let kept = rw c.in-None.is at c.in_ok-turn.ensures.none in
    rw kept.1 at
    (rw kept.0 at
    (begun-round asked.description c.args.wait c.args.skips a b
    (going c.args.progress (job_of asked.reading noted)) c.ask_reader.ensures.begun))
