use Rattle.std.proofs.Common.{refl, arith}
use Rattle.inp_model.proofs.Descriptions.{IsDescription-syn_alone}
use Rattle.inp_caps.proofs.caps.Caps.syn_alone.Goals as goal

pub invariant_of-result : goal.invariant_of-result
invariant_of-result c =
    rw (
      c.syn_kind.ensures,
      c.no_keys.ensures,
      c.no_codes.ensures,
      c.no_codes-2.ensures,
      c.no_codes-3.ensures,
      c.no_codes-4.ensures,
      c.no_codes-5.ensures,
      c.no_codes-6.ensures,
    )
    record { description_is = IsDescription-syn_alone; places = refl; in_use = omega arith }
