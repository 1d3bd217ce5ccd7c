use Rattle.std.proofs.Common.{length, take, ap, ◌∙◌, Some}
use Rattle.inp_model.specs.Reply.{written}
use Rattle.inp_c.specs.declared.kept_device.KeptDevice.{KeptDevice}
use Rattle.inp_c.specs.ClientTold.{readable_of}
use Rattle.inp_c.proofs.client_told.readable_in.Goals as goal

-- as many of the kept device's clients as fit stand at the front of C's array
pub returns-clause-told : goal.returns-clause-told
returns-clause-told c = λ _. record {
  device = c.in-Device.device;
  is = ap Some c.in-Device.is;
  count_is = c.readable.ensures.count ∙ ap (λ (k : KeptDevice). length (readable_of k)) c.device.view_is;
  clients_written =
      c.readable.ensures.written
      ∙ ap (λ (k : KeptDevice). written (take (length c.args.clients.now) (readable_of k)) c.args.clients.now)
      c.device.view_is;
}
