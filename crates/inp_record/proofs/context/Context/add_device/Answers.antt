use Rattle.std.proofs.Common.{◌≡◌, rules}
use Rattle.inp_record.specs.Meaning.{closed}
use Rattle.inp_record.proofs.Good.{begun_room}
use Rattle.inp_record.proofs.context.Context.add_device.Goals as goal

pub returns-clause-room : goal.returns-clause-room
returns-clause-room c =
    let is : c.close.new.self ≡ closed c.args.self.now = search rules in
    rw (is, c.new.ensures)
    (begun_room c.args.self.now c.args.requested c.args.name c.requires.room c.requires.enough)
