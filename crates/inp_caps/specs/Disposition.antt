-- What is done with an event.
use Rattle.std.specs.Prelude.{ℕ, ◌+◌, Bool, ◌&&◌, if◌then◌else◌, List, is_some}
use Rattle.inp_model.specs.declared.event.Event.{Event}
use Rattle.inp_model.specs.Description.{Description}
use Rattle.inp_model.specs.Event.{is_report}
use Rattle.inp_model.specs.RawItem.{RawItem}
use Rattle.inp_model.specs.Passed.{passes_as, goes_to_device, announces}
use Rattle.inp_caps.specs.declared.disposition.Disposition.{Disposition}

-- the flags as a number
abbrev pub flags_of : Disposition → ℕ
flags_of d = d.0

-- the flags as a number: 1 to the handlers, 2 to the device, 4 with a slot before it, 8 at the end of a frame
abbrev pub flags : Bool → Bool → Bool → Bool → ℕ
flags to_handlers to_device slot flush =
    (if to_handlers then 1 else 0) + (if to_device then 2 else 0) + (if slot then 4 else 0) + (if flush then 8 else 0)

-- what is done with an event after the items r
abbrev pub flags_after : Description → List RawItem → Event → ℕ
flags_after d r e =
    let passed = is_some (passes_as d r e) in
    flags passed (goes_to_device d r e) (announces d r e) (passed && is_report e)
