use Rattle.std.proofs.Common.{sym, ◌∙◌}
use Rattle.inp_device.proofs.StepParts.{bad_client}
use Rattle.inp_device.proofs.present.Present.is_bad_client.Goals as goal

pub returns-in-Some-clause-exact : goal.returns-in-Some-clause-exact
returns-in-Some-clause-exact c =
    λ d past stands. bad_client d past c.args.self.now c.args.step c.in-Some.client c.is_open.result stands
    (sym c.client.ensures.client ∙ c.in-Some.is) c.is_open.ensures.open
