-- How a description is kept.
use Rattle.std.specs.Prelude.{◌≡◌, ◌≤◌, length, take}
use Rattle.inp_model.specs.declared.limits.TheConstants.{FILTERS_MAX}
use Rattle.inp_model.specs.Description.{Description, IsDescription}
use Rattle.inp_caps.specs.declared.caps.Caps.TheInside.{Inside}

abbrev pub description : Inside → Description
description c = record {
  kinds = c.kinds;
  keys = c.keys;
  relatives = c.relatives;
  axes = c.axes;
  miscs = c.miscs;
  switches = c.switches;
  leds = c.leds;
  sounds = c.sounds;
  infos = c.infos;
  filters = take c.filter_count c.filters;
  slots = c.slots;
  hint = c.hint;
  log_limit = c.log;
  realtime = c.realtime;
  boottime = c.boottime;
}

-- what is kept is a description; of the places for filters only so many are in use
pub record IsCaps (c : Inside) : Type 0 where
  pub description_is : IsDescription (description c)
  pub places : length c.filters ≡ FILTERS_MAX
  pub in_use : c.filter_count ≤ FILTERS_MAX
