use Rattle.std.proofs.Common.{true, length, ap, ◌∙◌}
use Rattle.std.proofs.lemmas.List.{length-replicate}
use Rattle.inp_client.specs.Masks.{full_masks}
use Rattle.inp_client.proofs.masks.Masks.new.Goals as goal

-- each mask is made with its length, and with every bit set
pub invariant_of-result : goal.invariant_of-result
unfolding full_masks
invariant_of-result c = record {
  types = ap length c.full.ensures.all_true ∙ length-replicate 64 true;
  keys = ap length c.full-2.ensures.all_true ∙ length-replicate 768 true;
  relatives = ap length c.full-3.ensures.all_true ∙ length-replicate 64 true;
  axes = ap length c.full-4.ensures.all_true ∙ length-replicate 64 true;
  miscs = ap length c.full-5.ensures.all_true ∙ length-replicate 64 true;
  switches = ap length c.full-6.ensures.all_true ∙ length-replicate 64 true;
  leds = ap length c.full-7.ensures.all_true ∙ length-replicate 64 true;
  sounds = ap length c.full-8.ensures.all_true ∙ length-replicate 64 true;
  full = λ _. cc;
}

-- every bit of each mask is set
pub returns : goal.returns
unfolding full_masks
returns c = record { full = cc }
