use Rattle.std.proofs.Common.{◌≡◌, ◌≤◌, ◌++◌, length, map, take, string_bytes}
use Rattle.inp_model.specs.declared.limits.TheConstants.{FILTERS_MAX}
use Rattle.inp_record.specs.canon.Words.{lines_text}
use Rattle.inp_record.specs.canon.Device.{filter_words}
use Rattle.inp_record.proofs.canon.devices.push_filters.Given as goal

-- the filters so far; from the first turn on it is known that they are few
abbrev pub invariant-loop-index : goal.invariant-loop-index
invariant-loop-index l = record {
  written : string_bytes l.text ≡ string_bytes l.initial.text
      ++ lines_text (map filter_words (take l.index l.caps.filters));
  few : 1 ≤ l.index → length l.caps.filters ≤ FILTERS_MAX;
}
