use Rattle.std.proofs.Common.{ap, sym, ◌∙◌, Some}
use Rattle.inp_uinput.specs.Queries.{mask_word_of}
use Rattle.inp_c.specs.declared.kept_device.KeptDevice.{KeptDevice}
use Rattle.inp_c.specs.ClientTold.{kept_past}
use Rattle.inp_c.proofs.client_told.mask_in.Goals as goal

-- the word is the one that the kept device answers of the client's mask
pub returns-clause-told : goal.returns-clause-told
returns-clause-told c = λ _. record {
  device = c.in-Device.device;
  is = ap Some c.in-Device.is;
  bits_are =
      sym (c.in-Some.ensures.mask
      ∙ ap (λ (k : KeptDevice). mask_word_of (kept_past k) c.args.client c.args.kind c.args.word)
      c.device.view_is);
}
