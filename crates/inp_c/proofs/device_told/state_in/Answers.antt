use Rattle.std.proofs.Common.{ap, sym, ◌∙◌, Some}
use Rattle.inp_model.specs.Reply.{bitmap_of, code_on}
use Rattle.inp_c.specs.declared.kept_device.KeptDevice.{KeptDevice}
use Rattle.inp_c.specs.DeviceTold.{raw_of}
use Rattle.inp_c.proofs.Asked.{HasBits-from_test}
use Rattle.inp_c.proofs.device_told.state_in.Goals as goal

pub bits-requires : goal.bits-requires
bits-requires c =
    record {
      kind = HasBits-from_test c.args.kind (sym c.is_state_kind.ensures ∙ c.if-not-is_state_kind.false);
    }

-- the bits are what the kept device answers of the codes that are on
pub returns-clause-told : goal.returns-clause-told
returns-clause-told c = λ _. record {
  device = c.in-Device.device;
  is = ap Some c.in-Device.is;
  words_are =
      c.bits.ensures.bits
      ∙ ap (λ (k : KeptDevice). bitmap_of (code_on k.udev.description (raw_of k) c.args.kind))
      c.device.view_is;
}
