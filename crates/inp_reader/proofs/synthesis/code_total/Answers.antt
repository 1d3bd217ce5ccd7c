use Rattle.std.proofs.Common.{rules, ◌≡◌, Bool, true, false, cond, [], ◌∷◌, length, length-append, sym, ap}
use Rattle.std.proofs.Common.{◌∙◌, arith}
use Rattle.inp_model.specs.Description.{supports}
use Rattle.inp_reader.specs.Synthesis.{where_below}
use Rattle.inp_reader.proofs.SynthesisedEvents.{where_below-more, where_below-skip}
use Rattle.inp_reader.proofs.synthesis.code_total.Goals as goal

pub loop-code-preserved-then-not-supports : goal.loop-code-preserved-then-not-supports
loop-code-preserved-then-not-supports c =
    let no : supports c.args.caps.now c.args.kind c.loop-code.code ≡ false = search rules in
    record {
      total =
          c.loop-code.invariant.total
          ∙ sym (ap length (where_below-skip (supports c.args.caps.now c.args.kind) c.loop-code.code no));
      few = omega (arith, c.loop-code.invariant.few);
    }

-- a code that the device has is one more
pub loop-code-preserved : goal.loop-code-preserved
loop-code-preserved c =
    let test = supports c.args.caps.now c.args.kind in
    let code = c.loop-code.code in
    let is : supports c.args.caps.now c.args.kind c.loop-code.code ≡ true = search rules in
    record {
      total = omega (
        arith,
        c.loop-code.invariant.total,
        ap length (where_below-more code test),
        length-append (where_below code test) (cond (test code) (code ∷ []) []),
        ap (λ (b : Bool). length (cond b (code ∷ []) [])) is,
      );
      few = omega (arith, c.loop-code.invariant.few);
    }
