-- How a view is written, as far as the device's description supports its parts (docs/FORMATS.md, "Views").
use Rattle.std.specs.Prelude.{ℕ, ℤ, pos, if◌then◌else◌, nat_eq, List, [], ◌++◌, codes, decimal, flat_map, slice_index_or}
use Rattle.std.specs.List.{range_with_len}
use Rattle.std.specs.Fmt.{signed_decimal}
use Rattle.inp_model.specs.declared.event.TheConstants.{EV_KEY, EV_ABS, EV_SW, EV_LED}
use Rattle.inp_model.specs.declared.multi_touch.TheConstants.{ABS_MT_TOUCH_MAJOR, SLOT_VALUES}
use Rattle.inp_model.specs.Description.{Description, has_kind}
use Rattle.inp_recon.specs.declared.view.View.{View}
use Rattle.inp_recon.specs.Cells.{cell_of}
use Rattle.inp_reader.specs.Reader.{axes_among, plain_axes}
use Rattle.inp_texts.specs.Texts.{code_text}
use Rattle.inp_report.specs.Words.{LINE_FEED, spaced, flags_text}

-- a line, where the type is supported
unfoldable pub kind_line : Description → ℕ → List ℕ → List ℕ
kind_line d kind text = if has_kind d kind then text ++ LINE_FEED else []

-- CODE=VALUE of each of these axes, after a space
abbrev pub values_text : (ℕ → ℤ) → List ℕ → List ℕ
values_text value_of axes = spaced (λ code. code_text EV_ABS code ++ (codes "=" ++ signed_decimal (value_of code))) axes

-- slot I, and the values of its supported axes, ascending
unfoldable pub slot_line : Description → List ℤ → ℕ → List ℕ
slot_line d cells slot =
    codes "slot " ++ decimal slot
    ++ values_text (cell_of cells slot) (axes_among d ABS_MT_TOUCH_MAJOR SLOT_VALUES) ++ LINE_FEED

-- where there are slots, current SLOT and a line for each
unfoldable pub slots_text : Description → View → List ℕ
slots_text d v =
    if nat_eq d.slots 0 then [] else
    codes "current " ++ (signed_decimal v.slot ++ (LINE_FEED ++ flat_map (slot_line d v.cells) (range_with_len 0 d.slots)))

-- what the view says: the codes that are on, the axes whose values do not belong to slots, and the slots
unfoldable pub view_text : Description → View → List ℕ
view_text d v =
    kind_line d EV_KEY (codes "keys" ++ flags_text EV_KEY v.keys)
    ++ (kind_line d EV_SW (codes "switches" ++ flags_text EV_SW v.switches)
    ++ (kind_line d EV_LED (codes "leds" ++ flags_text EV_LED v.leds)
    ++ (kind_line d EV_ABS (codes "axes" ++ values_text (λ code. slice_index_or v.axes code (pos 0)) (plain_axes d))
    ++ slots_text d v)))
