use Rattle.std.proofs.Common.{◌≡◌}
use Rattle.std.specs.Prelude.{Some}
use Rattle.inp_reader.specs.Reader.{with_sync_needed}
use Rattle.inp_script.specs.Client.{client_talk}
use Rattle.inp_script.proofs.Common.{job_of}
use Rattle.inp_script.proofs.TalkCalls.{holds-nothing, begins-none}
use Rattle.inp_script.proofs.role.client.do_client_command.Goals as goal

pub returns-in-Force-clause-done : goal.returns-in-Force-clause-done
returns-in-Force-clause-done g c =
    let d = c.args.reader.now.description in
    let old = job_of c.args.reader.now.reading c.args.notes.now in
    let new = job_of c.force_sync.new.self.reading c.args.notes.now in
    let forced : c.force_sync.new.self.reading ≡ with_sync_needed c.args.reader.now.reading =
    rw c.force_sync.ensures.needed in
    record {
      rounds = 0;
      holds = holds-nothing _ (client_talk d c.args.wait 0 c.args.command.now old) (Some new)
          (rw (c.in-Force.is, ← forced));
    }

pub returns-in-Force-clause-begun : goal.returns-in-Force-clause-begun
returns-in-Force-clause-begun g c = (0, begins-none _ _)
