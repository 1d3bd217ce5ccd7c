use Rattle.std.proofs.Common.{ap, sym, ◌∙◌, Some}
use Rattle.inp_uinput.specs.Queries.{visible_to}
use Rattle.inp_c.specs.declared.kept_device.KeptDevice.{KeptDevice}
use Rattle.inp_c.specs.ClientTold.{kept_past}
use Rattle.inp_c.proofs.client_told.visible_in.Goals as goal

-- the number is the one that the kept device answers of the client
pub returns-clause-told : goal.returns-clause-told
returns-clause-told c = λ _. record {
  device = c.in-Device.device;
  is = ap Some c.in-Device.is;
  count_is =
      sym (c.in-Some.ensures.visible
      ∙ ap (λ (k : KeptDevice). visible_to k.udev.description (kept_past k) c.args.client) c.device.view_is);
}
