use Rattle.std.proofs.Common.{ap, ◌∙◌, Some}
use Rattle.inp_uinput.specs.Queries.{state_of_client}
use Rattle.inp_c.specs.declared.kept_device.KeptDevice.{KeptDevice}
use Rattle.inp_c.specs.ClientTold.{kept_past}
use Rattle.inp_c.proofs.Asked.{answer_of_some}
use Rattle.inp_c.proofs.client_told.client_in.Goals as goal

-- the client's state is what the kept device answers of it, in C's numbers
pub returns-clause-told : goal.returns-clause-told
returns-clause-told c = λ _.
    let known =
    answer_of_some _ _ _ (c.in-Some.ensures.client
    ∙ ap (λ (k : KeptDevice). state_of_client (kept_past k) c.args.client) c.device.view_is) in
    record {
      device = c.in-Device.device;
      is = ap Some c.in-Device.is;
      state_is = rw known at c.c_client.ensures;
    }
