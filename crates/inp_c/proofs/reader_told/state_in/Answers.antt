use Rattle.std.proofs.Common.{ap, ◌∙◌, w32, SFits, rules, Some}
use Rattle.std.proofs.Math.Facts.{to_z-of_z}
use Rattle.inp_recon.specs.declared.view.View.{View}
use Rattle.inp_c.specs.ReaderTold.{phase_number}
use Rattle.inp_c.proofs.reader_told.state_in.Goals as goal

-- the client, the phase and the slot are those of the kept device's reader
pub returns-clause-state : goal.returns-clause-state
returns-clause-state c = λ _.
    let fits : SFits w32 c.view.result.now.slot = search rules in
    record {
      device = c.in-Device.device;
      is = ap Some c.in-Device.is;
      client_is = c.client.ensures.client;
      phase_is = c.phase_number.ensures ∙ ap phase_number c.phase.ensures.phase;
      slot_is = to_z-of_z fits ∙ ap (λ (v : View). v.slot) c.view.ensures.view;
    }
