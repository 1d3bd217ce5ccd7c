use Rattle.std.proofs.Common.{◌≡◌, ◌≤◌, ◌<◌, true, [], length}
use Rattle.inp_reader.specs.Effort.{effort}
use Rattle.inp_joy.specs.Joy.{is_startup_over}
use Rattle.inp_joy.specs.JoyState.{kept_joying, IsJoyState, ReaderCalls}
use Rattle.inp_joy.specs.Reads.{IsPictured}
use Rattle.inp_joy.proofs.ReadTurns.{Passed}
use Rattle.inp_joy.proofs.joy_state.JoyState.take_turns.Given as goal

abbrev pub invariant-loop-outcome : goal.invariant-loop-outcome
invariant-loop-outcome g l = record {
  passed : Passed (g.E.Evdev.told l.initial.dev) (g.E.Evdev.told l.dev) l.initial.self.reader.description
      (kept_joying l.initial.self) (kept_joying l.self) l.self.made;
  calls : ReaderCalls (g.E.Evdev.told l.initial.dev) (g.E.Evdev.told l.dev)
      [] l.self.made l.initial.self.reader.description l.initial.self.reader.reading
      l.self.reader.reading (Unit {0});
  agains : (g.E.Evdev.told l.dev).agains ≡ (g.E.Evdev.told l.initial.dev).agains;
  less : effort (g.E.Evdev.told l.dev) l.self.reader.reading
      ≤ effort (g.E.Evdev.told l.initial.dev) l.initial.self.reader.reading;
  state : IsJoyState l.initial.self.reader.description l.self;
  pictured : IsPictured l.initial.self.reader.description (kept_joying l.self);
  short : is_startup_over l.initial.self.reader.description (kept_joying l.self) ≡ true
      → length l.self.made < 64;
  few : length l.self.made ≤ 128;
}

abbrev pub decreases-loop-outcome : goal.decreases-loop-outcome
decreases-loop-outcome g l = effort (g.E.Evdev.told l.dev) l.self.reader.reading
