-- How the passed events of a list of items, newest first, are cut into frames (docs/RULES.md, "Frames").
use Rattle.std.specs.Prelude.{ℤ, pos, if◌then◌else◌, nat_lt, nat_le, List, [], ◌∷◌, ◌++◌, length, Option, Some, None, is_some, option_to_list, option_map}
use Rattle.inp_model.specs.declared.event.Event.{Event}
use Rattle.inp_model.specs.Description.{Description}
use Rattle.inp_model.specs.Event.{is_report, core_report}
use Rattle.inp_model.specs.RawItem.{RawItem, Occurred, Described, Cut}
use Rattle.inp_model.specs.Passed.{passed, announced}

-- more items after others: they come to stand in front, one after another
abbrev pub raw_after : List RawItem → List RawItem → List RawItem
raw_after r [] = r
raw_after r (x ∷ xs) = raw_after (x ∷ r) xs

-- The batch after a raw event is what was passed since the last cut. A report cuts, and so does an event that
-- leaves as many events as the hint, the naming of its slot included. A description leaves it.
unfoldable pub pending : Description → List RawItem → List Event
pending d [] = []
pending d (Described axis i ∷ r) = pending d r
pending d (Occurred e ∷ r) =
    let batch = pending d r ++ passed d r e in
    if is_report e then [] else if nat_le d.hint (length batch) then [] else batch

-- The events of the frame that e ends after the items r, if it ends one. A report alone is no frame, and a
-- full batch gets a report of its own.
abbrev pub cut_events : Description → List RawItem → Event → Option (List Event)
cut_events d r e =
    let batch = pending d r ++ passed d r e in
    if is_report e then (if nat_lt 1 (length batch) then Some batch else None)
    else if nat_le d.hint (length batch) then Some (batch ++ core_report ∷ [])
    else None

-- the frame that e ends, as a list of one or none
abbrev pub cut : Description → List RawItem → Event → List Cut
cut d r e = option_to_list (option_map (λ events. record { events = events; until = Occurred e ∷ r }) (cut_events d r e))

-- the frame that an item ends: a description ends none
abbrev pub cut_for : Description → List RawItem → RawItem → List Cut
cut_for d r (Occurred e) = cut d r e
cut_for d r (Described axis i) = []

-- the frames that items end one after another, after the items r
unfoldable pub cuts : Description → List RawItem → List RawItem → List Cut
cuts d r [] = []
cuts d r (x ∷ xs) = cut_for d r x ++ cuts d (x ∷ r) xs

-- the slot that was announced when the last frame ended (docs/RULES.md, "Queries")
unfoldable pub at_frame : Description → List RawItem → ℤ
at_frame d [] = pos 0
at_frame d (Described axis i ∷ r) = at_frame d r
at_frame d (Occurred e ∷ r) =
    let before = at_frame d r in
    if is_some (cut_events d r e) then announced d (Occurred e ∷ r) else before
