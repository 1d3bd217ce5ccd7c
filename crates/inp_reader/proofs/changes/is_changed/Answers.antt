use Rattle.std.proofs.Common.{◌≡◌, ◌∙◌, sym, arith, Bool, ℕ}
use Rattle.inp_reader.specs.Synthesis.{cells_differ}
use Rattle.inp_reader.proofs.SynthesisedEvents.{any-none_more, any-there}
use Rattle.inp_reader.proofs.changes.is_changed.Goals as goal

pub returns-then-values_differ : goal.returns-then-values_differ
returns-then-values_differ c =
    let test : ℕ → Bool = cells_differ c.args.old.now.cells c.args.new.now.cells c.args.slot in
    let is : c.values_differ.result ≡ test c.loop-code.code =
    rw (c.values_differ.ensures, c.cell_event.ensures, c.cell_event-in-loop-code.ensures) in
    sym (any-there test 48 14 c.loop-code.code (omega arith) c.loop-code-test.true (sym is
    ∙ c.if-values_differ.true))

-- no value so far differs, and the next one does not
pub loop-code-preserved : goal.loop-code-preserved
loop-code-preserved c =
    let test : ℕ → Bool = cells_differ c.args.old.now.cells c.args.new.now.cells c.args.slot in
    let is : c.values_differ.result ≡ test c.loop-code.code =
    rw (c.values_differ.ensures, c.cell_event.ensures, c.cell_event-in-loop-code.ensures) in
    any-none_more test 48 c.loop-code.code (omega arith) c.loop-code.invariant (sym is
    ∙ c.if-values_differ.false)

-- behind the last code no value of the slot differs
pub returns : goal.returns
returns c =
    let all : c.loop-code.code ≡ 62 = omega (arith, c.loop-code-test.false, c.loop-code.auto.code-end) in
    cc (c.loop-code.invariant, all)
