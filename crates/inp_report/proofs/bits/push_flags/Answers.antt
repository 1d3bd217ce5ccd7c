use Rattle.std.proofs.Common.{append-nil, ◌*◌, ◌++◌, sym, ◌∙◌}
use Rattle.std.specs.Prelude.{codes}
use Rattle.inp_texts.specs.Texts.{code_text}
use Rattle.inp_report.specs.Words.{flags_text}
use Rattle.inp_texts.proofs.Written.{whole_more, below_rest, given_more, given_all}
use Rattle.inp_report.proofs.bits.push_flags.Goals as goal

-- no code was given yet, and nothing is written of any
pub loop-code-init : goal.loop-code-init
loop-code-init g c = record {
  whole = c.into_iter-code-iterator.ensures.into_iter_gives ∙ c.ones-code-items.ensures.value;
  within = rw c.into_iter-code-iterator.ensures.into_iter_gives c.ones-code-items.ensures.within;
  written = sym (append-nil _);
}

-- the next code that is on is written behind those before it
pub loop-code-preserved : goal.loop-code-preserved
loop-code-preserved g c = record {
  whole =
      whole_more c.in-Some.code c.loop-code.yielded c.loop-code.code-iterator c.next.new.self _
      c.in-Some.ensures.steps c.loop-code.invariant.whole;
  within =
      below_rest (64 * g.row.W) c.in-Some.code c.loop-code.code-iterator c.next.new.self
      c.in-Some.ensures.steps c.loop-code.invariant.within;
  written =
      given_more (λ code. codes " " ++ code_text c.args.kind code) _ _ _ c.loop-code.yielded c.in-Some.code
      c.loop-code.invariant.written c.in_ok-push_spaced_code.ensures.pushed;
}

-- no code is left, so all that are on are written
pub returns : goal.returns
unfolding flags_text
returns g c = record {
  pushed =
      given_all (λ code. codes " " ++ code_text c.args.kind code) _ _ c.loop-code.yielded
      c.loop-code.code-iterator _ c.in-None.ensures.steps.0 c.loop-code.invariant.whole
      c.loop-code.invariant.written;
}
