use Rattle.std.proofs.Common.{◌≡◌, true, sym, subst, ◌∙◌}
use Rattle.inp_client.specs.Clients.{has_client}
use Rattle.inp_device.specs.Present.{NamesOpen}
use Rattle.inp_device.proofs.StepParts.{no_device}
use Rattle.inp_device.proofs.present.Present.is_no_device.Goals as goal

-- the client is open and the step no Close, so it is refused where the client was revoked
pub returns-in-Some : goal.returns-in-Some
returns-in-Some c =
    let named = sym c.client.ensures.client ∙ c.in-Some.is in
    let there : has_client c.in-Some.client c.args.self.now.handler.clients.list ≡ true =
    subst (NamesOpen c.args.self.now.handler.clients.list) named c.requires.open in
    record {
      exact = λ d past stands.
          no_device d past c.args.self.now c.args.step c.in-Some.client c.is_revoked.result stands named there
          c.is_revoked.ensures.revoked c.in_default.not-Close;
    }
