use Rattle.std.proofs.Common.{◌≡◌, ℕ, ◌-◌, List, length, map, min, take, drop, ap, ◌∙◌, Some}
use Rattle.std.proofs.lemmas.List.{take_min}
use Rattle.inp_model.specs.declared.step.Step.{Step}
use Rattle.inp_model.specs.Reply.{written}
use Rattle.inp_c.specs.History.{history_of}
use Rattle.inp_c.specs.ToldStep.{told_step}
use Rattle.inp_c.proofs.Rest.{rest_is}
use Rattle.inp_c.proofs.history.history_in.Goals as goal

-- the steps from the place on are copied, as many as fit, and the others are left
pub returns-clause-told : goal.returns-clause-told
returns-clause-told c = λ _.
    let made = c.history-history.result.now in
    let behind = take (length made - c.args.from) (drop c.args.from made) in
    let rest : behind ≡ drop c.args.from (history_of c.in-Device.device) =
    rest_is made c.args.from ∙ ap (λ (l : List Step). drop c.args.from l) c.history-history.ensures.history in
    let count : c.min-count.result ≡ min (length c.args.steps.now) (length behind) = c.min-count.ensures in
    let first =
    ap (λ (n : ℕ). take n behind) count ∙ take_min (length c.args.steps.now) behind
    ∙ ap (λ (l : List Step). take (length c.args.steps.now) l) rest in
    record {
      device = c.in-Device.device;
      is = ap Some c.in-Device.is;
      left_is = ap length rest;
      steps_written =
          c.copy_steps.ensures ∙ ap (λ (l : List Step). written (map told_step l) c.args.steps.now) first;
    }
