use Rattle.std.specs.Prelude.{Some}
use Rattle.std.proofs.lemmas.Result.{on_ok_weaker}
use Rattle.inp_script.proofs.Common.{job_in}
use Rattle.inp_script.proofs.TalkCalls.{holds-nothing, begins-none}
use Rattle.inp_script.proofs.role.state.RoleState.do_command.Goals as goal

pub returns-in-Source-clause-done : goal.returns-in-Source-clause-done
returns-in-Source-clause-done g c =
    on_ok_weaker c.do_source_command.result
    (λ h. record {
      rounds = 0;
      holds = rw c.in-Source.is (h _);
    })
    c.do_source_command.ensures.done

pub returns-in-Source-clause-begun : goal.returns-in-Source-clause-begun
returns-in-Source-clause-begun g c = (0, rw c.in-Source.is (c.do_source_command.ensures.begun _))

pub returns-in-Owner-clause-done : goal.returns-in-Owner-clause-done
returns-in-Owner-clause-done g c =
    record {
      rounds = 0;
      holds = holds-nothing _ _ (Some (job_in c.args.self.now c.args.notes.now)) (rw c.in-Owner.is);
    }

pub returns-in-Owner-clause-begun : goal.returns-in-Owner-clause-begun
returns-in-Owner-clause-begun g c = (0, begins-none _ _)
