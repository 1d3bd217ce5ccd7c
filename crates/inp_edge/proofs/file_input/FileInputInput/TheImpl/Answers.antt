use Rattle.std.proofs.Common.{refl}
use Rattle.inp_edge.proofs.Untold.{OnOk-always, IfOk-always, OnErr-always, faults_stay-on_ok}
use Rattle.inp_edge.proofs.Untold.{RoseUnlessSaturated-on_err, RoseUnlessSaturated-on_err_or}
use Rattle.inp_edge.proofs.file_input.FileInputInput.TheImpl.Goals as goal

pub begin-tells : goal.begin-tells
begin-tells g c = record {
  files_stay = refl;
  stays_told = refl;
  restarts = c.ensures.restarts;
  opened = OnOk-always _ c.result tt;
  found = OnOk-always _ c.result (λ h. h);
  closed = OnErr-always _ c.result tt;
  never_falls = c.ensures.never_falls;
  faults_stay = faults_stay-on_ok c.result _ _ c.ensures.counts;
  failed = RoseUnlessSaturated-on_err_or _ c.result _ _ c.ensures.counts;
}

pub read-tells : goal.read-tells
read-tells g c = record {
  files_stay = refl;
  fits = c.ensures.fits;
  taken = IfOk-always _ c.result (λ _. tt);
  end = IfOk-always _ c.result (λ _ _. tt);
  counted = c.ensures.given;
  left_stays = OnErr-always _ c.result refl;
  given_stays = c.ensures.err;
  never_falls = c.ensures.never_falls;
  faults_stay = faults_stay-on_ok c.result _ _ c.ensures.counts;
  failed = RoseUnlessSaturated-on_err c.result _ _ c.ensures.counts;
}
