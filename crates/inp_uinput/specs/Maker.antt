-- What a contract sees of a maker of devices (docs/RULES.md, "Devices made by requests").
use Rattle.std.specs.Prelude.{ℕ, List, Option, Some}
use Rattle.std.specs.Borrow.{Lends, MutBor, Fml}
use Rattle.inp_model.specs.Description.{Description}
use Rattle.inp_caps.specs.contracts.caps_builder.CapsBuilder.{the_row as builder_row}
use Rattle.inp_uinput.specs.contracts.maker.Maker.{the_row}
use Rattle.inp_uinput.specs.declared.maker.Maker.{Maker}
use Rattle.inp_uinput.specs.declared.create_refused.CreateRefused.{CreateRefused}
use Rattle.inp_uinput.specs.declared.create_refused.CreateRefused.TheVariants.{NotSetUp, NoMemory}

-- the name that was accepted last, if one was
abbrev pub maker_name : Maker → Option (List ℕ)
maker_name maker = maker.name

-- what was asked for so far
abbrev pub builder_of : Maker → Description
builder_of maker = maker.builder

-- the maker with another name
abbrev pub with_name : Maker → List ℕ → Maker
with_name maker name = record maker { name = Some name }

-- the maker that comes back
abbrev pub maker_of : CreateRefused → Maker
maker_of (NotSetUp maker) = maker
maker_of (NoMemory maker) = maker

-- the maker ends with the builder that was left after the result
abbrev pub LendsBuilder : MutBor Maker → MutBor Description → Fml
LendsBuilder maker result = Lends the_row builder_row maker result (λ builder. record maker.now { builder = builder })
