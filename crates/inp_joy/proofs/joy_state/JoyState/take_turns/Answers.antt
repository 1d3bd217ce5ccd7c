use Rattle.std.proofs.Common.{refl, length, false, ◌∙◌, sym, ap, arith}
use Rattle.inp_joy.specs.JoyState.{kept_joying, is_end}
use Rattle.inp_joy.proofs.ReaderCalls.{calls-none, calls-then, calls-weaker}
use Rattle.inp_joy.proofs.Outcomes.{less-then}
use Rattle.inp_joy.proofs.ReadTurns.{passed-none, passed-more, passed-last, on-less, on-short, on-agains}
use Rattle.inp_joy.proofs.joy_state.JoyState.take_turns.Goals as goal

pub loop-outcome-init : goal.loop-outcome-init
loop-outcome-init g c =
    let a = g.E.Evdev.told c.args.dev.now in
    let d = c.args.self.now.reader.description in
    let r = c.args.self.now.reader.reading in
    record {
      passed = passed-none _ d (kept_joying c.args.self.now) c.args.self.now.made c.requires.anew;
      calls = rw (← c.requires.anew) (calls-none a c.args.self.now.made d r (Unit {0}) tt);
      agains = refl;
      less = omega arith;
      state = c.requires.state;
      pictured = c.requires.pictured;
      short = λ over. omega (arith, ap length c.requires.anew);
      few = omega (arith, ap length c.requires.anew);
    }

pub returns-then-is_end-clause-says : goal.returns-then-is_end-clause-says
returns-then-is_end-clause-says g c =
    let same = c.loop-outcome.invariant.state.description in
    passed-last _ _ _ c.args.self.now.reader.description (kept_joying c.args.self.now)
    (kept_joying c.loop-outcome.self)
    (kept_joying c.turn-outcome.new.self) c.loop-outcome.self.made c.turn-outcome.new.self.made
    c.turn-outcome.result
    c.loop-outcome.invariant.passed (rw same at c.turn-outcome.ensures.says)
    (rw (c.turn-outcome.ensures.state.description ∙ same) at (sym c.is_end.ensures ∙ c.if-is_end.true))

pub returns-then-is_end-clause-calls : goal.returns-then-is_end-clause-calls
returns-then-is_end-clause-calls g c =
    calls-then _ _ _ _ _ _ c.args.self.now.reader.description _ _ _ _ _ c.loop-outcome.invariant.calls
    (rw c.loop-outcome.invariant.state.description at c.turn-outcome.ensures.calls)

pub returns-then-is_end-clause-less : goal.returns-then-is_end-clause-less
returns-then-is_end-clause-less g c =
    less-then c.turn-outcome.result _ _ _ c.turn-outcome.ensures.less c.loop-outcome.invariant.less

pub loop-outcome-preserved : goal.loop-outcome-preserved
loop-outcome-preserved g c =
    let d = c.args.self.now.reader.description in
    let next = kept_joying c.turn-outcome.new.self in
    let new = c.turn-outcome.new.self in
    let same = c.loop-outcome.invariant.state.description in
    let goes = sym c.is_end.ensures ∙ c.if-is_end.false in
    let on = rw (c.turn-outcome.ensures.state.description, same) at goes in
    record {
      passed =
          passed-more _ _ _ d (kept_joying c.args.self.now)
          (kept_joying c.loop-outcome.self) next c.loop-outcome.self.made
          new.made c.turn-outcome.result c.loop-outcome.invariant.passed
          (rw same at c.turn-outcome.ensures.says) on;
      calls =
          calls-weaker _ _ _ _ d _ _ _ _ (λ shown. tt)
          (calls-then _ _ _ _ _ _ d _ _ _ _ (Unit {0}) c.loop-outcome.invariant.calls
          (rw same at c.turn-outcome.ensures.calls));
      agains =
          c.turn-outcome.ensures.agains ∙ on-agains d c.turn-outcome.result next (length new.made) _ on
          ∙ c.loop-outcome.invariant.agains;
      less =
          omega (
            arith,
            on-less d c.turn-outcome.result next
                (length new.made) _ _ on c.turn-outcome.ensures.less,
            c.loop-outcome.invariant.less,
          );
      state = rw same at c.turn-outcome.ensures.state;
      pictured = rw same at c.turn-outcome.ensures.pictured;
      short = λ over. on-short d c.turn-outcome.result next (length new.made) on over;
      few = c.turn-outcome.ensures.few;
    }
