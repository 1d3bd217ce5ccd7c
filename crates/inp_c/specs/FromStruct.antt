-- Devices that are made of a struct.
use Rattle.std.specs.Prelude.{◌≡◌, ℕ, Option, Some, None, Ok, Err}
use Rattle.inp_model.specs.Description.{Description}
use Rattle.inp_c.specs.declared.kept.Kept.{Kept}
use Rattle.inp_c.specs.declared.status.TheConstants.{OK, REFUSED, IN_USE}
use Rattle.inp_c.specs.declared.c_description.CDescription.{CDescription}
use Rattle.inp_c.specs.Cause.{caps_number}
use Rattle.inp_c.specs.DescriptionOfC.{Described, description_of_c}
use Rattle.inp_c.specs.FromText.{IsFreshKept}

abbrev pub described_status : Described → ℕ
described_status (Ok d) = OK
described_status (Err why) = REFUSED

abbrev pub described_cause : Described → ℕ
described_cause (Ok d) = 0
described_cause (Err why) = caps_number why

-- a call that makes a device of a struct, where memory does not run out
abbrev pub struct_status : Option Kept → CDescription → ℕ
struct_status None c = described_status (description_of_c c)
struct_status (Some kept) c = IN_USE

-- the number of the cause for which the struct is refused, or 0
abbrev pub struct_cause : Option Kept → CDescription → ℕ
struct_cause None c = described_cause (description_of_c c)
struct_cause (Some kept) c = 0

-- what is kept is a device of the description that the struct is, with a history that is empty, and a reader and a
-- joystick client that have not started
pub record IsStructKept (c : CDescription) (after : Option Kept) : Type 0 where
  pub description : Description
  pub kept : Kept
  pub means : description_of_c c ≡ Ok description
  pub is : after ≡ Some kept
  pub fresh : IsFreshKept description kept
