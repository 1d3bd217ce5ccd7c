use Rattle.std.proofs.Common.{ap, ◌∙◌, Some, arith}
use Rattle.inp_model.specs.Description.{Description}
use Rattle.inp_model.specs.Reply.{bitmap_of}
use Rattle.inp_c.specs.DescriptionTold.{is_supported}
use Rattle.inp_c.proofs.description_told.bits_in.Goals as goal

-- the bits are those of the kept device's description
pub returns-clause-told : goal.returns-clause-told
returns-clause-told c = λ _. record {
  device = c.in-Device.device;
  is = ap Some c.in-Device.is;
  words_are =
      c.supported_words.ensures
      ∙ ap (λ (d : Description). bitmap_of (is_supported d c.args.kind)) c.caps.ensures.description;
}

pub returns-in_default-clause-told : goal.returns-in_default-clause-told
returns-in_default-clause-told c = λ e. absurd (omega (arith, e))
