use Rattle.std.proofs.Common.{◌≡◌, true, ap, subst}
use Rattle.inp_model.specs.Step.{client_of}
use Rattle.inp_client.specs.Clients.{has_client}
use Rattle.inp_device.specs.Present.{NamesOpen}
use Rattle.inp_device.proofs.StepParts.{nothing_found}
use Rattle.inp_device.proofs.present.Present.finds_nothing.Goals as goal

pub returns-in-Read : goal.returns-in-Read
returns-in-Read c =
    let there : has_client c.in-Read.client c.args.self.now.handler.clients.list ≡ true =
    subst (NamesOpen c.args.self.now.handler.clients.list) (ap client_of c.in-Read.is) c.requires.open in
    record {
      exact = λ d past stands.
          nothing_found d past c.args.self.now c.args.step c.in-Read.client c.in-Read.count c.visible.result
          stands c.in-Read.is there c.visible.ensures.visible;
    }
