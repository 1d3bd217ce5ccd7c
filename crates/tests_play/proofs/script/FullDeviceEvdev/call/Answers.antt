use Rattle.std.proofs.Common.{◌∙◌, sym}
use Rattle.tests_play.proofs.FullDevice.{full-client, full-other}
use Rattle.tests_play.proofs.script.FullDeviceEvdev.call.Goals as goal

pub returns-in-Some : goal.returns-in-Some
returns-in-Some c =
    record {
      called = full-client c.args.step c.in-Some.field-0 _ _ (sym c.client.ensures.client ∙ c.in-Some.is);
    }

pub returns-in-None : goal.returns-in-None
returns-in-None c =
    record { called = full-other c.args.step _ _ (sym c.client.ensures.client ∙ c.in-None.is) }
