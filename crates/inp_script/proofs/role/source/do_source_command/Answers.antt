use Rattle.std.proofs.Common.{◌≡◌, ℕ, Option, Some, None, refl, ◌∙◌, sym}
use Rattle.std.proofs.lemmas.Result.{on_ok_weaker}
use Rattle.inp_script.proofs.Common.{no_stick, job_of}
use Rattle.inp_script.proofs.Lines.{source_talk-single, source_talk-stream}
use Rattle.inp_script.proofs.Streams.{holds-noted, begins-call_if}
use Rattle.inp_script.proofs.role.source.do_source_command.Goals as goal

pub returns-in-Some-clause-done : goal.returns-in-Some-clause-done
returns-in-Some-clause-done g c =
    on_ok_weaker c.inject_all.result
    (λ h r.
    rw (source_talk-stream c.args.rec.now.streams c.args.command.now c.in-Some.index c.as_slice.result.now
    (job_of r c.args.notes.now) (sym c.stream_index.ensures.index ∙ c.in-Some.is)
    (rw (c.stream.ensures.stream, ← c.as_slice.ensures.items))) (h r))
    c.inject_all.ensures.done

-- the command names a stream, whose first calls were made
pub returns-in-Some-clause-begun : goal.returns-in-Some-clause-begun
returns-in-Some-clause-begun g c r =
    rw (source_talk-stream c.args.rec.now.streams c.args.command.now c.in-Some.index c.as_slice.result.now
    (job_of r c.args.notes.now) (sym c.stream_index.ensures.index ∙ c.in-Some.is)
    (rw (c.stream.ensures.stream, ← c.as_slice.ensures.items))) (c.inject_all.ensures.begun r)

-- a command that takes no stream
none_of : (o : Option ℕ) → ((index : ℕ) → o ≡ Some index → ⊥) → o ≡ None
none_of None h = refl
none_of (Some index) h = absurd (h index refl)

-- the command names no stream, so it is one call, which was noted
pub returns-clause-done : goal.returns-clause-done
returns-clause-done g c r =
    rw (
      source_talk-single c.args.rec.now.streams c.args.command.now (job_of r c.args.notes.now)
          (sym c.stream_index.ensures.index ∙ none_of c.stream_index.result c.in_default.not-Some),
      ← c.in-Some-step_of.ensures.step,
    )
    (holds-noted _ _ _ _ _ _ r no_stick c.in_ok-call.ensures.noted)

-- the command names no stream, so it is one call, which was made
pub returns-clause-begun : goal.returns-clause-begun
returns-clause-begun g c r =
    rw (source_talk-single c.args.rec.now.streams c.args.command.now (job_of r c.args.notes.now)
    (sym c.stream_index.ensures.index ∙ none_of c.stream_index.result c.in_default.not-Some))
    (begins-call_if _ _ c.in-Some-step_of.step _
    (job_of r c.args.notes.now) c.in-Some-step_of.ensures.step c.in_ok-call.ensures.made)

-- the one call was made, though memory ran out while it was noted
pub returns-in_err-call-clause-begun : goal.returns-in_err-call-clause-begun
returns-in_err-call-clause-begun g c r =
    rw (source_talk-single c.args.rec.now.streams c.args.command.now (job_of r c.args.notes.now)
    (sym c.stream_index.ensures.index ∙ none_of c.stream_index.result c.in_default.not-Some))
    (begins-call_if _ _ c.in-Some-step_of.step _
    (job_of r c.args.notes.now) c.in-Some-step_of.ensures.step c.in_err-call.ensures.made)
