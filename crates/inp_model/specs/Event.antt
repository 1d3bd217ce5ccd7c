-- What an event is about.
use Rattle.std.specs.Prelude.{ℕ, ℤ, pos, int_lt, Bool, ◌&&◌, not, nat_eq}
use Rattle.std.specs.Ordering.{int_eq}
use Rattle.inp_model.specs.declared.event.TheConstants.{EV_SYN, EV_ABS, SYN_REPORT, SYN_DROPPED}
use Rattle.inp_model.specs.declared.multi_touch.TheConstants.{ABS_MT_SLOT}
use Rattle.inp_model.specs.declared.event.Event.{Event}
use Rattle.inp_model.specs.Description.{Description, supports, is_multi_touch_code, is_slot_code}

-- it ends a frame (docs/RULES.md, "Frames")
abbrev pub is_report : Event → Bool
is_report e = nat_eq e.kind EV_SYN && nat_eq e.code SYN_REPORT

-- it is about this code of this type, which the device supports
abbrev pub is_on : Description → ℕ → ℕ → Event → Bool
is_on d kind code e = supports d kind code && (nat_eq e.kind kind && nat_eq e.code code)

-- of a key: an autorepeat, which changes no state (docs/RULES.md, "What is passed")
abbrev pub is_repeat : Event → Bool
is_repeat e = int_eq e.value (pos 2)

-- of a key and the like: down, on (docs/RULES.md, "What is passed")
abbrev pub is_set : Event → Bool
is_set e = not (int_eq e.value (pos 0))

-- of a setting of the autorepeat: negative, and so ignored (docs/RULES.md, "What is passed")
abbrev pub is_negative : Event → Bool
is_negative e = int_lt e.value (pos 0)

-- it is about a slot, or about a value of one
abbrev pub is_multi_touch : Event → Bool
is_multi_touch e = nat_eq e.kind EV_ABS && is_multi_touch_code e.code

-- it is about a value of a slot
abbrev pub is_slot_value : Event → Bool
is_slot_value e = nat_eq e.kind EV_ABS && is_slot_code e.code

-- it says which slot the values after it belong to (docs/RULES.md, "Multi-touch slots")
abbrev pub slot_event : ℤ → Event
slot_event slot = record { kind = EV_ABS; code = ABS_MT_SLOT; value = slot }

-- a report that the core adds itself, as after a batch that is full (docs/RULES.md, "Frames")
abbrev pub core_report : Event
core_report = record { kind = EV_SYN; code = SYN_REPORT; value = pos 1 }

-- what tells a client that it lost events (docs/RULES.md, "A client's queue")
abbrev pub syn_dropped : Event
syn_dropped = record { kind = EV_SYN; code = SYN_DROPPED; value = pos 0 }
