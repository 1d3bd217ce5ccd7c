-- The lines that are no actions (docs/FORMATS.md, "The lines"): for each what its words are and what it says.
use Rattle.std.specs.Prelude.{ℕ, ◌-◌, ◌^◌, Bool, true, false, if◌then◌else◌, List, [], ◌∷◌, codes, Option}
use Rattle.inp_model.specs.declared.event.TheConstants.{EV_KEY}
use Rattle.inp_model.specs.declared.limits.TheConstants.{BOUNCE_MAX}
use Rattle.inp_model.specs.declared.filter.Filter.TheVariants as filters
use Rattle.inp_actors.specs.declared.role.Role.TheVariants as roles
use Rattle.inp_record.specs.declared.keyword.Keyword.{Keyword}
use Rattle.inp_record.specs.declared.keyword.Keyword.TheVariants.{Header, Device, Udevice, Hint, Log, Clock, Slots, Kind, Code, Axis, Filter, Eat, Norepeat, Chord, Bounce, Source, Client, Tap, Joy, Owner, Action}
use Rattle.inp_record.specs.declared.item.Item as item
use Rattle.inp_record.specs.declared.item.Item.TheVariants as items
use Rattle.inp_record.specs.Field.{Field, axis_fields, axis_made, Makes, made}
use Rattle.inp_record.specs.Field as field

pub record LineRow : Type 0 where
  -- the word that names the line: its first word, and in a filter line of a kind the second one
  pub word : List ℕ
  -- how many words stand before the fields
  pub first : ℕ
  pub fields : List Field
  -- what they say
  pub make : Makes item.Item fields
  -- what the words of a line say, if they have their forms
  pub read : List (List ℕ) → Option item.Item

abbrev pub item_line : List ℕ → ℕ → (fields : List Field) → Makes item.Item fields → LineRow
item_line word first fields make =
    record { word = word; first = first; fields = fields; make = make; read = λ ws. made item.Item fields 0 first ws make }

-- the offset of a clock other than the monotonic one
abbrev pub offset_item : Bool → ℕ → item.Item
offset_item boot offset = if boot then items.Boottime offset else items.Realtime offset

-- each line that is no action
unfoldable pub line_row : Keyword → LineRow
line_row Header = item_line (codes "inputrecord") 1 (field.Version ∷ []) items.Header
line_row Device = item_line (codes "device") 1 (field.Name ∷ []) (λ name. items.Device false name)
line_row Udevice = item_line (codes "udevice") 1 (field.Name ∷ []) (λ name. items.Device true name)
line_row Hint = item_line (codes "hint") 1 (field.count ∷ []) items.Hint
line_row Log = item_line (codes "log") 1 (field.count ∷ []) items.Log
line_row Clock = item_line (codes "clock") 1 (field.OtherClock ∷ field.Number (2 ^ 64 - 1) ∷ []) offset_item
line_row Slots = item_line (codes "slots") 1 (field.count ∷ []) items.Slots
line_row Kind = item_line (codes "type") 1 (field.Kind ∷ []) items.Kind
line_row Code = item_line (codes "cap") 1 (field.Kind ∷ field.Code ∷ []) items.Code
line_row Axis = item_line (codes "axis") 1 axis_fields (axis_made items.Axis)
line_row Filter = item_line (codes "filter") 1 (field.Never ∷ []) (λ never. absurd never)
line_row Eat = item_line (codes "eat") 2 (field.Kind ∷ field.Code ∷ []) (λ kind code. items.Filter (filters.Eat kind code))
line_row Norepeat = item_line (codes "norepeat") 2 [] (items.Filter filters.Norepeat)
line_row Chord = item_line (codes "chord") 2 (field.CodeOf EV_KEY ∷ field.CodeOf EV_KEY ∷ []) (λ first second. items.Filter (filters.Chord first second))
line_row Bounce = item_line (codes "bounce") 2 (field.CodeOf EV_KEY ∷ field.Positive BOUNCE_MAX ∷ []) (λ code micros. items.Filter (filters.Bounce code micros))
line_row Source = item_line (codes "source") 1 (field.Name ∷ []) (λ name. items.Actor roles.Source name)
line_row Client = item_line (codes "client") 1 (field.Name ∷ []) (λ name. items.Actor roles.Client name)
line_row Tap = item_line (codes "tap") 1 (field.Name ∷ []) (λ name. items.Actor roles.Tap name)
line_row Joy = item_line (codes "joy") 1 (field.Name ∷ []) (λ name. items.Actor roles.Joy name)
line_row Owner = item_line (codes "owner") 1 (field.Name ∷ []) (λ name. items.Actor roles.Owner name)
line_row Action = item_line (codes "do") 1 (field.Never ∷ []) (λ never. absurd never)
