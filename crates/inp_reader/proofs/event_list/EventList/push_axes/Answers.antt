use Rattle.std.proofs.Common.{◌≡◌, ◌≤◌, ◌+◌, ◌∙◌, ◌++◌, ℤ, List, length, length-append, ap, arith, map, ℕ}
use Rattle.std.proofs.Common.{Bool}
use Rattle.inp_model.specs.declared.event.Event.{Event}
use Rattle.inp_reader.specs.Synthesis.{where_below, axis_changes, differs_at, axis_event}
use Rattle.std.proofs.lemmas.List.{length-map}
use Rattle.inp_reader.proofs.Counts.{length-where_below_least}
use Rattle.inp_reader.proofs.SynthesisedEvents.{events-more}
use Rattle.inp_reader.proofs.event_list.EventList.push_axes.Goals as goal

-- the next code adds its event where its value differs
pub loop-code-preserved : goal.loop-code-preserved
loop-code-preserved c =
    let old = c.args.old.now in
    let new = c.args.new.now in
    let f : ℕ → Event = λ code. axis_event new code code in
    let test : ℕ → Bool = differs_at old new in
    let is : c.values_differ-wanted.result ≡ test c.loop-code.code =
    rw (c.values_differ-wanted.ensures, c.axis_event.ensures, c.axis_event-event.ensures) in
    record {
      pushed =
          events-more f test c.loop-code.code _ c.push_if.ensures.pushed c.loop-code.invariant.pushed is
          c.axis_event-event.ensures;
      room = c.push_if.ensures.room ∙ c.loop-code.invariant.room;
    }

-- behind the last code the changes of all axes were added
pub returns-clause-pushed : goal.returns-clause-pushed
returns-clause-pushed c =
    let new = c.args.new.now in
    let all : c.loop-code.code ≡ 64 = omega (arith, c.loop-code-test.false, c.loop-code.auto.code-end) in
    rw (c.loop-code.invariant.pushed, all)

-- some of the changes come no later than the others
so_far : (old new : List ℤ) (before list : List Event) (n : ℕ) → n ≤ 64
    → list ≡ before ++ map (λ code. axis_event new code code) (where_below n (differs_at old new))
    → length list ≤ length before + length (axis_changes old new)
so_far old new before list n few is =
    let f : ℕ → Event = λ code. axis_event new code code in
    omega (
      arith,
      ap length is,
      length-append before (map f (where_below n (differs_at old new))),
      length-map (where_below n (differs_at old new)) f,
      length-map (where_below 64 (differs_at old new)) f,
      length-where_below_least n 64 (differs_at old new) few,
    )

pub push_if-requires : goal.push_if-requires
push_if-requires c =
    omega (
      arith,
      so_far c.args.old.now c.args.new.now c.args.self.now.events c.loop-code.self.events c.loop-code.code
          (omega arith) c.loop-code.invariant.pushed,
      c.loop-code.invariant.room,
      c.requires.few,
    )

-- what was added are changes of axes, each once
pub returns-clause-few : goal.returns-clause-few
returns-clause-few c =
    so_far c.args.old.now c.args.new.now c.args.self.now.events c.loop-code.self.events c.loop-code.code
    (omega arith) c.loop-code.invariant.pushed
