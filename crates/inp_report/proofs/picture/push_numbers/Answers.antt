use Rattle.std.proofs.Common.{append-nil, ◌++◌, sym, ◌∙◌}
use Rattle.std.specs.Prelude.{codes, decimal}
use Rattle.inp_texts.proofs.Written.{whole_more, given_more, given_all}
use Rattle.inp_report.proofs.picture.push_numbers.Goals as goal

pub loop-number-init : goal.loop-number-init
loop-number-init c = record {
  whole = c.into_iter-number-iterator.ensures.into_iter_gives ∙ c.ones-number-items.ensures.value;
  written = sym (append-nil _);
}

-- the next number is written behind those before it
pub loop-number-preserved : goal.loop-number-preserved
loop-number-preserved c = record {
  whole =
      whole_more c.in-Some.number c.loop-number.yielded c.loop-number.number-iterator c.next.new.self _
      c.in-Some.ensures.steps c.loop-number.invariant.whole;
  written =
      given_more (λ number. codes " " ++ decimal number) _ _ _ c.loop-number.yielded c.in-Some.number
      c.loop-number.invariant.written c.in_ok-push_spaced_number.ensures.pushed;
}

-- no number is left, so all are written
pub returns : goal.returns
returns c = record {
  pushed =
      given_all (λ number. codes " " ++ decimal number) _ _ c.loop-number.yielded
      c.loop-number.number-iterator _ c.in-None.ensures.steps.0 c.loop-number.invariant.whole
      c.loop-number.invariant.written;
}
