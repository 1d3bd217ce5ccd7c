use Rattle.std.proofs.Common.{◌≡◌, Option, Some, None, Ok, refl, sym, ◌∙◌}
use Rattle.std.specs.Prelude.{IsSomeAnd}
use Rattle.inp_model.specs.Description.{Description}
use Rattle.inp_c.specs.declared.kept.Kept.{Kept}
use Rattle.inp_c.specs.declared.c_description.CDescription.{CDescription}
use Rattle.inp_c.specs.DescriptionOfC.{description_of_c}
use Rattle.inp_c.specs.FromText.{IsFreshKept}
use Rattle.inp_c.specs.FromStruct.{IsStructKept}
use Rattle.inp_c.proofs.from_struct.inputplay_device_of.Goals as goal

kept_is : (c : CDescription) (d : Description) (after : Option Kept) → description_of_c c ≡ Ok d
    → IsSomeAnd after (IsFreshKept d) → IsStructKept c after
kept_is c d (Some kept) means fresh =
    record { description = d; kept = kept; means = means; is = refl; fresh = fresh }
kept_is c d None means fresh = absurd fresh

-- the device that is kept is a new one of the struct's description
pub returns-in-Ok-clause-made : goal.returns-in-Ok-clause-made
returns-in-Ok-clause-made c = λ ok.
    kept_is c.args.description.now c.in-Ok.caps _ (sym c.description_of.ensures ∙ c.in-Ok.is)
    (c.keep_described.ensures.made ok)
