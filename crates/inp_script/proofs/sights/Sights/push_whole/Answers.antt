use Rattle.std.proofs.Common.{◌∙◌}
use Rattle.std.proofs.lemmas.Result.{IfOk-weaker, on_err_weaker}
use Rattle.inp_script.proofs.SightLists.{pushed-call, refused-call}
use Rattle.inp_script.proofs.sights.Sights.push_whole.Goals as goal

-- the call stands last in the second list, and its index last among all entries
pub returns-clause-ok : goal.returns-clause-ok
returns-clause-ok c =
    let old = c.self.inside in
    let call = c.args.call in
    let index = c.len-index.result in
    IfOk-weaker c.push-2.result _ _ (λ _ pushed.
    rw (
      pushed-call old.calls c.push.new.self call old.kept c.push-2.new.self index c.self.invariant
          c.in_ok-push.ensures.ok c.len-index.ensures.length pushed,
      c.self.view_is,
    )) c.push-2.ensures.ok

pub returns-clause-err : goal.returns-clause-err
returns-clause-err c =
    let old = c.self.inside in
    on_err_weaker c.push-2.result (λ refused.
    refused-call old.calls c.push.new.self c.args.call old.kept c.push-2.new.self
    c.self.invariant c.in_ok-push.ensures.ok refused
    ∙ c.self.view_is) c.push-2.ensures.err
