use Rattle.std.proofs.Common.{◌≡◌, sym, subst, rules}
use Rattle.inp_actors.specs.Record.{RecordView, IsRecord}
use Rattle.inp_make.specs.Generated.{generated}
use Rattle.inp_make.proofs.LinesKept.{IsRecord-generated}
use Rattle.inp_make.proofs.generated_record.make.Goals as goal

pub new-requires-2 : goal.new-requires-2
new-requires-2 c =
    let made : RecordView =
    record {
      version = 1;
      devices = c.in_ok-devices.devices;
      actors = c.in_ok-actors.actors;
      lines = c.in_ok-lines.lines;
      streams = c.new.result;
    } in
    let is : made ≡ generated c.args.number c.args.count = search rules in
    record {
      «record» = subst IsRecord (sym is) (IsRecord-generated c.args.number c.args.count c.requires.few);
    }
