use Rattle.std.proofs.Common.{◌≡◌, ◌≤◌, ℕ, Bool, false, ◌∙◌, arith}
use Rattle.std.specs.Prelude.{min, nat_eq}
use Rattle.std.proofs.lemmas.Bool.Decides.{nat_tests}
use Rattle.std.proofs.lemmas.List.{nil_from_length}
use Rattle.inp_script.proofs.Batches.{take-in_time, drop-in_time}
use Rattle.inp_script.proofs.Streams.{injected-none, injected-more, injected-refused, injected-so_far}
use Rattle.inp_script.proofs.Streams.{injected-begun, injected-all}
use Rattle.inp_script.proofs.notes.Notes.inject_all.Goals as goal

-- where something is left, a part of it has an event
some_part : (n part : ℕ) (is_empty : Bool) → part ≡ min n 1024 → is_empty ≡ nat_eq n 0 → is_empty ≡ false
    → 1 ≤ part
some_part n part is_empty least says more = grind (arith, nat_tests, least, says, more)

-- before the first part no event is injected, and all are in time
pub loop-rest-init : goal.loop-rest-init
loop-rest-init g c = injected-none _ _ _ c.requires.in_time

-- a part of the rest is in time, as all of it is
pub inject_all-injected-requires : goal.inject_all-injected-requires
inject_all-injected-requires g c = record {
  moments = rw c.split_at.ensures.front (take-in_time c.min.result _ c.loop-rest.invariant.in_time);
}

pub returns-in_err-note_injected-clause-begun : goal.returns-in_err-note_injected-clause-begun
returns-in_err-note_injected-clause-begun g c r =
    injected-begun _ _ _ _ _ _ _ _ _ _ c.loop-rest.invariant c.split_at.ensures.by_index.0
    (some_part _ _ _ (c.split_at.ensures.front_len ∙ c.min.ensures) c.is_empty.ensures c.loop-rest-test.true)
    c.inject_all-injected.ensures.injected r

-- an event of the part was refused, which ends the stream
pub returns-then-not-branch-clause-done : goal.returns-then-not-branch-clause-done
returns-then-not-branch-clause-done g c r =
    injected-refused _ _ _ _ _ _ _ _ _ _ c.loop-rest.invariant c.split_at.ensures.by_index.0
    (some_part _ _ _ (c.split_at.ensures.front_len ∙ c.min.ensures) c.is_empty.ensures c.loop-rest-test.true)
    c.inject_all-injected.ensures.injected c.note_injected.new.self
    (rw c.if-not-branch.true at c.in_ok-note_injected.ensures.all) c.in_ok-note_injected.ensures.noted r

-- the part's calls, up to the refused one, follow those before
pub returns-then-not-branch-clause-begun : goal.returns-then-not-branch-clause-begun
returns-then-not-branch-clause-begun g c r =
    injected-begun _ _ _ _ _ _ _ _ _ _ c.loop-rest.invariant c.split_at.ensures.by_index.0
    (some_part _ _ _ (c.split_at.ensures.front_len ∙ c.min.ensures) c.is_empty.ensures c.loop-rest-test.true)
    c.inject_all-injected.ensures.injected r

-- all of the part was entered, so the stream goes on with what is behind it
pub loop-rest-preserved : goal.loop-rest-preserved
loop-rest-preserved g c =
    injected-more _ _ _ _ _ _ _ _ _ _ c.loop-rest.invariant c.split_at.ensures.by_index.0
    (some_part _ _ _ (c.split_at.ensures.front_len ∙ c.min.ensures) c.is_empty.ensures c.loop-rest-test.true)
    c.inject_all-injected.ensures.injected c.note_injected.new.self
    (rw c.split_at.ensures.back
    (drop-in_time c.min.result c.loop-rest.rest.now c.loop-rest.invariant.in_time))
    (rw c.if-not-branch.false at c.in_ok-note_injected.ensures.all) c.in_ok-note_injected.ensures.noted

-- nothing is left of the stream, so all of it was injected
pub returns-clause-done : goal.returns-clause-done
returns-clause-done g c r =
    injected-all _ _ c.args.stream.now c.loop-rest.rest.now c.args.self.now c.loop-rest.self
    (nil_from_length c.loop-rest.rest.now
    (grind (arith, nat_tests, c.is_empty.ensures, c.loop-rest-test.false))) c.loop-rest.invariant r

-- with nothing left of the stream, its calls are those made
pub returns-clause-begun : goal.returns-clause-begun
returns-clause-begun g c r =
    injected-so_far _ _ c.args.stream.now c.loop-rest.rest.now c.args.self.now c.loop-rest.self
    c.loop-rest.invariant r
