-- Which keys of a device are its buttons as a joystick, which axes its axes, and how they are numbered (docs/RULES.md,
-- "Joystick clients").
use Rattle.std.specs.Prelude.{ℕ, ◌+◌, ◌-◌, nat_eq, List, ◌++◌, length, take, filter, Option}
use Rattle.std.specs.List.{range_with_len, position}
use Rattle.inp_model.specs.declared.event.TheConstants.{EV_KEY, KEY_MAX}
use Rattle.inp_model.specs.Description.{Description, supports}
use Rattle.inp_reader.specs.Reader.{plain_axes}
use Rattle.inp_joy.specs.declared.code_list.TheConstants.{BTN_MISC, BTN_JOYSTICK}

-- the supported codes of a type among so many from the first on, ascending
unfoldable pub codes_among : Description → ℕ → ℕ → ℕ → List ℕ
codes_among d kind first count = filter (supports d kind) (range_with_len first count)

-- the keys of a joystick and those after them, and then the keys before them: the first 64
unfoldable pub buttons : Description → List ℕ
buttons d =
    take 64 (codes_among d EV_KEY BTN_JOYSTICK (KEY_MAX + 1 - BTN_JOYSTICK)
    ++ codes_among d EV_KEY BTN_MISC (BTN_JOYSTICK - BTN_MISC))

-- the axes with a value of their own, ascending
abbrev pub axes : Description → List ℕ
axes d = plain_axes d

-- the number of a code among these
abbrev pub number_among : ℕ → List ℕ → Option ℕ
number_among code codes = position (λ c. nat_eq c code) codes

-- how many records a startup has
abbrev pub startup_len : Description → ℕ
startup_len d = length (buttons d) + length (axes d)
