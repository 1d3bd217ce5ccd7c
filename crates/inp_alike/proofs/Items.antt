-- One item more leaves the core alike.
use Rattle.std.proofs.Common.{◌≡◌, ℕ, ℤ, List, [], ◌∷◌}
use Rattle.inp_model.specs.declared.event.Event.{Event}
use Rattle.inp_model.specs.declared.axis_info.AxisInfo.{AxisInfo}
use Rattle.inp_model.specs.Description.{Description}
use Rattle.inp_model.specs.RawItem.{RawItem, Occurred, Described}
use Rattle.inp_model.specs.State.{key_down, turned_on, repeat_setting, axis_info, axis_value, staged, cell}
use Rattle.inp_model.specs.Passed.{passed, passes_as, announced}
use Rattle.inp_model.specs.Cut.{pending, at_frame, cut_events, raw_after}
use Rattle.inp_alike.specs.Alike.{AreItemsAlike}

keys : (d : Description) (r s : List RawItem) (e : Event) → AreItemsAlike d r s → (key : ℕ)
    → key_down d (Occurred e ∷ r) key ≡ key_down d (Occurred e ∷ s) key
unfolding key_down
keys d r s e h key = rw (h.keys key)

codes : (d : Description) (r s : List RawItem) (e : Event) → AreItemsAlike d r s → (kind code : ℕ)
    → turned_on d (Occurred e ∷ r) kind code ≡ turned_on d (Occurred e ∷ s) kind code
unfolding turned_on
codes d r s e h kind code = rw (h.codes kind code)

settings : (d : Description) (r s : List RawItem) (e : Event) → AreItemsAlike d r s → (code : ℕ)
    → repeat_setting d (Occurred e ∷ r) code ≡ repeat_setting d (Occurred e ∷ s) code
unfolding repeat_setting
settings d r s e h code = rw (h.settings code)

values : (d : Description) (r s : List RawItem) (e : Event) → AreItemsAlike d r s → (code : ℕ)
    → axis_value d (Occurred e ∷ r) code ≡ axis_value d (Occurred e ∷ s) code
unfolding axis_value
values d r s e h code = rw (h.values code, h.infos code)

slot_of : (d : Description) (r s : List RawItem) (e : Event) → AreItemsAlike d r s
    → staged d (Occurred e ∷ r) ≡ staged d (Occurred e ∷ s)
unfolding staged
slot_of d r s e h = rw h.slot

cells : (d : Description) (r s : List RawItem) (e : Event) → AreItemsAlike d r s → (slot : ℤ) (code : ℕ)
    → cell d (Occurred e ∷ r) slot code ≡ cell d (Occurred e ∷ s) slot code
unfolding cell
cells d r s e h slot code = rw (h.cells slot code, h.slot)

pub passes : (d : Description) (r s : List RawItem) (e : Event) → AreItemsAlike d r s
    → passes_as d r e ≡ passes_as d s e
passes d r s e h =
    cc (
      h.keys e.code,
      keys d r s e h e.code,
      h.codes e.kind e.code,
      codes d r s e h e.kind e.code,
      h.settings e.code,
      settings d r s e h e.code,
      h.values e.code,
      values d r s e h e.code,
      h.slot,
      h.cells
          (staged d s) e.code,
      cells d r s e h (staged d s) e.code,
    )

events : (d : Description) (r s : List RawItem) (e : Event) → AreItemsAlike d r s
    → passed d r e ≡ passed d s e
events d r s e h = cc (passes d r s e h, h.slot, h.told_slot)

pub cut_alike : (d : Description) (r s : List RawItem) (e : Event) → AreItemsAlike d r s
    → cut_events d r e ≡ cut_events d s e
cut_alike d r s e h = cc (h.batch, events d r s e h)

told_slot : (d : Description) (r s : List RawItem) (e : Event) → AreItemsAlike d r s
    → announced d (Occurred e ∷ r) ≡ announced d (Occurred e ∷ s)
unfolding announced
told_slot d r s e h = cc (passes d r s e h, h.slot, h.told_slot)

frame_slot : (d : Description) (r s : List RawItem) (e : Event) → AreItemsAlike d r s
    → at_frame d (Occurred e ∷ r) ≡ at_frame d (Occurred e ∷ s)
unfolding at_frame
frame_slot d r s e h = cc (cut_alike d r s e h, told_slot d r s e h, h.frame_slot)

batch : (d : Description) (r s : List RawItem) (e : Event) → AreItemsAlike d r s
    → pending d (Occurred e ∷ r) ≡ pending d (Occurred e ∷ s)
unfolding pending
batch d r s e h = cc (h.batch, events d r s e h)

infos : (d : Description) (r s : List RawItem) (e : Event) → AreItemsAlike d r s → (code : ℕ)
    → axis_info d (Occurred e ∷ r) code ≡ axis_info d (Occurred e ∷ s) code
unfolding axis_info
infos d r s e h code = h.infos code

described : (d : Description) (r s : List RawItem) (axis : ℕ) (i : AxisInfo) → AreItemsAlike d r s
    → AreItemsAlike d (Described axis i ∷ r) (Described axis i ∷ s)
unfolding key_down turned_on repeat_setting axis_info axis_value cell staged announced at_frame pending
described d r s axis i h = record {
  keys = h.keys;
  codes = h.codes;
  settings = h.settings;
  infos = λ code. rw (h.infos code);
  values = λ code. rw (h.values code);
  cells = h.cells;
  slot = h.slot;
  told_slot = h.told_slot;
  frame_slot = h.frame_slot;
  batch = h.batch;
}

-- one item more
pub item_more : (d : Description) (r s : List RawItem) (x : RawItem) → AreItemsAlike d r s
    → AreItemsAlike d (x ∷ r) (x ∷ s)
item_more d r s (Occurred e) h = record {
  keys = keys d r s e h;
  codes = codes d r s e h;
  settings = settings d r s e h;
  infos = infos d r s e h;
  values = values d r s e h;
  cells = cells d r s e h;
  slot = slot_of d r s e h;
  told_slot = told_slot d r s e h;
  frame_slot = frame_slot d r s e h;
  batch = batch d r s e h;
}
item_more d r s (Described axis i) h = described d r s axis i h

-- more items, one after another
pub items_more : (d : Description) (r s xs : List RawItem) → AreItemsAlike d r s
    → AreItemsAlike d (raw_after r xs) (raw_after s xs)
items_more d r s [] h = h
items_more d r s (x ∷ xs) h = items_more d (x ∷ r) (x ∷ s) xs (item_more d r s x h)
