-- What is promised of a record whose lines are done in file order.
use Rattle.std.specs.Prelude.{None}
use Rattle.inp_actors.specs.Record.{RecordView, IsRecord}
use Rattle.inp_script.specs.declared.run.Played.{Played}
use Rattle.inp_runs.specs.Job.{AreDescribed, ArePromised}
use Rattle.inp_runs.specs.Play.{IsPlay}

-- the result of a record whose lines are done in file order is promised
abbrev pub EachPlayIsPromised : Type 0
EachPlayIsPromised = (r : RecordView) (played : Played) → IsRecord r → AreDescribed r → IsPlay r played → ArePromised None r played
