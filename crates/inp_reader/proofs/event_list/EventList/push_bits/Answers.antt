use Rattle.std.proofs.Common.{◌≡◌, ℕ, Bool, ◌*◌, ◌<◌, List, [], ◌∷◌, length, refl, ap, sym, ◌∙◌, arith}
use Rattle.std.proofs.Common.{append-nil, append_assoc, length-append}
use Rattle.std.proofs.lemmas.List.{map-append, length-map}
use Rattle.std.proofs.lemmas.List.Elements.{All-tail}
use Rattle.inp_bits.specs.Bits.{differing_indices}
use Rattle.inp_reader.specs.Synthesis.{bit_event, bit_changes, bits_differ_at, where_below}
use Rattle.inp_reader.proofs.event_list.EventList.push_bits.Goals as goal

-- no code was given yet, so all that differ are left and no event was added
pub loop-code-init : goal.loop-code-init
loop-code-init g c =
    let gives = c.into_iter-code-iterator.ensures.into_iter_gives in
    record {
      whole = gives ∙ c.differing-code-items.ensures.value;
      within = rw gives c.differing-code-items.ensures.within;
      room = omega (arith, ap length gives, c.differing-code-items.ensures.few);
      pushed = sym (append-nil _);
      kept = refl;
      few = omega arith;
    }

-- the next code that differs adds its event, and is left no more
pub loop-code-preserved : goal.loop-code-preserved
loop-code-preserved g c =
    let event = bit_event c.args.kind c.args.new.now in
    let given = c.loop-code.yielded in
    let code = c.in-Some.code in
    let left = c.next.new.self in
    let steps = c.in-Some.ensures.steps in
    record {
      whole = rw (append_assoc, ← steps) c.loop-code.invariant.whole;
      within = All-tail (λ k. k < 64 * g.row.W) code left (rw steps at c.loop-code.invariant.within);
      room = omega (arith, ap length steps, length-append given (code ∷ []), c.loop-code.invariant.room);
      pushed =
          rw (
            c.push.ensures.pushed,
            c.bit_event.ensures,
            c.loop-code.invariant.pushed,
            append_assoc,
            ← map-append event given (code ∷ []),
          );
      kept = c.push.ensures.room ∙ c.loop-code.invariant.kept;
      few = omega (arith, c.push.ensures.few, c.loop-code.invariant.few, length-append given (code ∷ []));
    }

-- all codes that differ were given, and each added its event
pub returns-clause-pushed : goal.returns-clause-pushed
unfolding differing_indices
returns-clause-pushed g c =
    let all : c.loop-code.yielded ≡ differing_indices c.args.old.now c.args.new.now =
    rw (← append-nil c.loop-code.yielded, ← c.in-None.ensures.steps.0) c.loop-code.invariant.whole in
    let whole : differing_indices c.args.old.now c.args.new.now
    ≡ where_below (64 * g.row.W) (bits_differ_at c.args.old.now c.args.new.now) =
    rw c.differing-code-items.ensures.len in
    rw (c.loop-code.invariant.pushed, all, whole)

-- all changes are as many as codes differ
length-all : (kind count : ℕ) (old new : List Bool) → length old ≡ count
    → length (bit_changes kind count old new) ≡ length (differing_indices old new)
unfolding differing_indices
length-all kind count old new len = rw (length-map, ← len)

pub push-requires : goal.push-requires
push-requires g c =
    omega (
      arith,
      c.requires.few,
      length-all c.args.kind (64 * g.row.W) c.args.old.now c.args.new.now c.differing-code-items.ensures.len,
      ap length c.loop-code.invariant.whole,
      length-append c.loop-code.yielded c.loop-code.code-iterator,
      ap length c.in-Some.ensures.steps,
      c.loop-code.invariant.few,
      c.loop-code.invariant.kept,
    )

-- one event at most was added for each code that differs
pub returns-clause-few : goal.returns-clause-few
returns-clause-few g c =
    omega (
      arith,
      length-all c.args.kind (64 * g.row.W) c.args.old.now c.args.new.now c.differing-code-items.ensures.len,
      ap length c.loop-code.invariant.whole,
      length-append c.loop-code.yielded c.loop-code.code-iterator,
      c.loop-code.invariant.few,
    )
