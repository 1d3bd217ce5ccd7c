-- What is written of a code where the device may not have it, code by code.
use Rattle.std.specs.Prelude.{ℕ, ℤ, if◌then◌else◌, List, [], ◌++◌, codes}
use Rattle.std.specs.Fmt.{signed_decimal}
use Rattle.inp_model.specs.declared.event.TheConstants.{EV_ABS}
use Rattle.inp_model.specs.Description.{Description, supports}
use Rattle.inp_texts.specs.Texts.{code_text}

-- CODE=VALUE of an axis, after a space
abbrev pub value_entry : (ℕ → ℤ) → ℕ → List ℕ
value_entry value_of code = codes " " ++ (code_text EV_ABS code ++ (codes "=" ++ signed_decimal (value_of code)))

-- the same where the axis is supported
abbrev pub axis_entry : Description → (ℕ → ℤ) → ℕ → List ℕ
axis_entry d value_of code = if supports d EV_ABS code then value_entry value_of code else []
