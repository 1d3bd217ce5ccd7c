-- Lines that inject events, one each (docs/RUNS.md, "Playing a record").
use Rattle.std.specs.Prelude.{ℕ}
use Rattle.inp_model.specs.declared.stamped.Stamped.{Stamped}
use Rattle.inp_actors.specs.declared.command.Command.TheVariants.{Event}
use Rattle.inp_actors.specs.declared.line.Line.{Line}

-- the line by which this actor injects an event
abbrev pub inject_line : ℕ → Stamped → Line
inject_line actor s = record { actor = actor; command = Event s.now s.event.kind s.event.code s.event.value }
