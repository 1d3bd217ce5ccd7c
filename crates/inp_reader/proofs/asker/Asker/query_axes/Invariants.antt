use Rattle.std.proofs.Common.{◌≤◌, ◌+◌, ◌-◌, length}
use Rattle.std.specs.Prelude.{Ok}
use Rattle.inp_reader.specs.Reader.{ask_each, axis_queries, axes_among}
use Rattle.inp_reader.specs.FollowsTalk.{FollowsTalk}
use Rattle.inp_reader.specs.Session.{IsReady}
use Rattle.inp_reader.proofs.asker.Asker.query_axes.Given as goal

abbrev pub invariant-loop-code : goal.invariant-loop-code
invariant-loop-code g l = record {
  says : FollowsTalk (g.E.Evdev.told l.initial.dev) (g.E.Evdev.told l.dev) l.initial.self.made l.self.made
      (ask_each (axis_queries l.client (axes_among l.caps l.first (l.code - l.first))) l.initial.self.view)
      (Ok l.self.view);
  ready : IsReady l.caps (g.E.Evdev.told l.dev) l.self;
  few : length l.self.made ≤ length l.initial.self.made + (l.code - l.first);
}
