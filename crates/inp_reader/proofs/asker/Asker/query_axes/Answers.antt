use Rattle.std.proofs.Common.{arith, sym, ◌∙◌, ap, ◌++◌, ◌+◌, ◌-◌}
use Rattle.inp_model.specs.declared.step.Step.TheVariants.{GetAxis}
use Rattle.inp_reader.specs.Reader.{axis_queries, axes_among, only_if}
use Rattle.inp_reader.proofs.Axes.{axis_queries-next, axis_queries-behind, axis_queries-none}
use Rattle.inp_reader.proofs.TalksInTurn.{says-none, says-stop-if, says-same, says-asked, says-each}
use Rattle.inp_reader.proofs.asker.Asker.query_axes.Goals as goal

-- before the first code nothing was asked for
pub loop-code-init : goal.loop-code-init
loop-code-init g c = record {
  says = says-none _ c.args.self.now.view (axis_queries-none c.args.caps.now c.args.client c.args.first);
  ready = c.requires.ready;
  few = omega arith;
}

-- stopped at an axis, it does not ask for those behind it
pub returns-then-is_some-clause-says : goal.returns-then-is_some-clause-says
returns-then-is_some-clause-says g c =
    let first = c.args.first in
    let code = c.loop-code.code in
    let d = c.args.caps.now in
    let before = axis_queries c.args.client (axes_among d first (code - first)) in
    let one = only_if c.supports-wanted.result (GetAxis c.args.client code) in
    let behind = axis_queries c.args.client (axes_among d (code + 1) (c.args.end - (code + 1))) in
    says-same (before ++ one ++ behind)
    (axis_queries c.args.client (axes_among d first (c.args.end - first))) c.args.self.now.view _
    (ap (λ qs. qs ++ behind)
    (axis_queries-next d c.args.client first code c.supports-wanted.result c.loop-code.auto.code
    c.supports-wanted.ensures.supported)
    ∙ axis_queries-behind d c.args.client first code c.args.end c.loop-code.auto.code c.loop-code-test.true)
    (says-stop-if (before ++ one) behind c.args.self.now.view c.query_if-stop.new.self.view
    c.query_if-stop.result (sym c.is_some.ensures ∙ c.if-is_some.true)
    (says-each before one c.args.self.now.view c.loop-code.self.view _ c.loop-code.invariant.says
    c.query_if-stop.ensures.says))

-- the axes so far, and the next one, where the device has it
pub loop-code-preserved : goal.loop-code-preserved
loop-code-preserved g c = record {
  says =
      let first = c.args.first in
      let code = c.loop-code.code in
      let d = c.args.caps.now in
      let before = axis_queries c.args.client (axes_among d first (code - first)) in
      let one = only_if c.supports-wanted.result (GetAxis c.args.client code) in
      says-same (before ++ one) (axis_queries c.args.client (axes_among d first (code + 1 - first)))
      c.args.self.now.view _
      (axis_queries-next d c.args.client first code c.supports-wanted.result c.loop-code.auto.code
      c.supports-wanted.ensures.supported)
      (says-each before one c.args.self.now.view c.loop-code.self.view _ c.loop-code.invariant.says
      (says-asked _ c.query_if-stop.new.self.view c.query_if-stop.result (sym c.is_some.ensures
      ∙ c.if-is_some.false) c.query_if-stop.ensures.says));
  ready = c.query_if-stop.ensures.ready;
  few = omega (arith, c.query_if-stop.ensures.few, c.loop-code.invariant.few, c.loop-code.auto.code);
}
