use Rattle.std.proofs.Common.{◌≡◌, ◌∙◌, sym, take, drop, length}
use Rattle.std.proofs.lemmas.List.{take_at}
use Rattle.std.proofs.lemmas.Result.{on_ok_weaker}
use Rattle.inp_script.proofs.Common.{ReaderState, job_of, count_taken}
use Rattle.inp_script.specs.Tap.{tap_reading}
use Rattle.inp_script.proofs.TapCalls.{tap-noted, tap-begun}
use Rattle.inp_script.proofs.role.tap.Tap.call.Goals as goal

-- the tap's call is noted, with the events that stand in front of its buffer
pub returns-clause-done : goal.returns-clause-done
returns-clause-done g c =
    let out = c.make-reply.new.out in
    let reply = c.make-reply.result in
    let r : ReaderState = tap_reading c.args.self.now in
    let s : ReaderState = record r { client = c.tap_client_after-self.result; view = c.make-reply.new.view }
    in
    let whole : c.deref.result.now ≡ out =
    c.deref.ensures.value
    ∙ take_at out (drop (length out) c.args.self.now.buffer.items) c.args.self.now.buffer.len
    (c.make-reply.auto.out ∙ c.deref_mut.ensures.len) in
    let read : take c.count_taken.result c.deref.result.now ≡ take (count_taken reply) out =
    rw (c.count_taken.ensures, whole) in
    on_ok_weaker c.note.result
    (λ noted. tap-noted _ _ c.args.step reply c.args.notes.now c.note.new.self r s c.make-reply.new.view out
    (take c.count_taken.result c.deref.result.now) c.make-reply.ensures.made
    (sym c.lacks_memory.ensures ∙ c.if-lacks_memory.false) read (rw c.tap_client_after-self.ensures) noted)
    c.note.ensures

pub returns-then-lacks_memory-clause-begun : goal.returns-then-lacks_memory-clause-begun
returns-then-lacks_memory-clause-begun g c =
    tap-begun _ _ c.args.step _ _ _ _
    (job_of (tap_reading c.args.self.now) c.args.notes.now) c.make-reply.ensures.made

-- the tap's one call was made
pub returns-clause-begun : goal.returns-clause-begun
returns-clause-begun g c =
    tap-begun _ _ c.args.step _ _ _ _
    (job_of (tap_reading c.args.self.now) c.args.notes.now) c.make-reply.ensures.made
