use Rattle.std.proofs.Common.{refl}
use Rattle.inp_edge.proofs.Untold.{IfOk-always, OnErr-always, faults_stay-on_ok, RoseUnlessSaturated-on_err}
use Rattle.inp_edge.proofs.out_sink.OutSinkSink.TheImpl.Goals as goal

pub write-tells : goal.write-tells
write-tells g c = record {
  some = c.ensures.some;
  fits = c.ensures.fits;
  appended = IfOk-always _ c.result (λ _. tt);
  unwritten = OnErr-always _ c.result refl;
  never_falls = c.ensures.never_falls;
  faults_stay = faults_stay-on_ok c.result _ _ c.ensures.counts;
  failed = RoseUnlessSaturated-on_err c.result _ _ c.ensures.counts;
}
