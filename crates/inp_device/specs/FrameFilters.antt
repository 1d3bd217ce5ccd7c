-- What is kept of the filters of a device, and what they left of a frame.
use Rattle.std.specs.Prelude.{List}
use Rattle.inp_model.specs.declared.event.Event.{Event}
use Rattle.inp_filter.specs.declared.filter_state.FilterState.{FilterState}

pub record FilterView : Type 0 where
  -- what is kept of each filter, in their order
  pub kept : List FilterState
  -- what they left of the frame that they were given last
  pub left : List Event
