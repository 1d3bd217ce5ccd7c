-- Where a line may stand (docs/FORMATS.md, "The lines").
use Rattle.std.specs.Prelude.{Bool, true, false, ◌||◌, not}
use Rattle.inp_record.specs.declared.keyword.Keyword.{Keyword}
use Rattle.inp_record.specs.declared.keyword.Keyword.TheVariants.{Header, Device, Udevice, Source, Client, Tap, Joy, Owner, Action}
use Rattle.inp_record.specs.declared.place.Place.{Place}
use Rattle.inp_record.specs.declared.place.Place.TheVariants.{Start, Describing, Naming, Acting}

abbrev pub is_first_place : Place → Bool
is_first_place Start = true
is_first_place _ = false

abbrev pub is_describing : Place → Bool
is_describing Describing = true
is_describing _ = false

abbrev pub is_naming : Place → Bool
is_naming Naming = true
is_naming _ = false

abbrev pub is_acting : Place → Bool
is_acting Acting = true
is_acting _ = false

-- No line of this keyword may stand there, where the latest device is made by requests or is not. Such are a
-- second header, a device after an action, and an actor with no device before it or after an action. So is an
-- owner of a device that is not made by requests. So is a description with no device before it, after an
-- actor of its device, or after an action.
abbrev pub is_out_of_place : Place → Bool → Keyword → Bool
is_out_of_place place requested Header = not (is_first_place place)
is_out_of_place place requested Device = is_acting place
is_out_of_place place requested Udevice = is_acting place
is_out_of_place place requested Source = not (is_describing place || is_naming place)
is_out_of_place place requested Client = not (is_describing place || is_naming place)
is_out_of_place place requested Tap = not (is_describing place || is_naming place)
is_out_of_place place requested Joy = not (is_describing place || is_naming place)
is_out_of_place place requested Owner = not (is_describing place || is_naming place) || not requested
is_out_of_place place requested Action = false
is_out_of_place place requested _ = not (is_describing place)
