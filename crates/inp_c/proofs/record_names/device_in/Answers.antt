use Rattle.std.proofs.Common.{◌≡◌, ℕ, List, length, take, ap, sym, ◌∙◌, Some}
use Rattle.std.specs.Prelude.{slice_get}
use Rattle.inp_model.specs.Reply.{written}
use Rattle.inp_actors.specs.declared.device_text.DeviceText.{DeviceText}
use Rattle.inp_c.proofs.record_names.device_in.Goals as goal

-- the name is that of the kept record's device at that number
pub returns-clause-told : goal.returns-clause-told
returns-clause-told c = λ _.
    let name : c.bytes-name.result.now ≡ c.get.result.now.name = c.bytes-name.ensures.bytes in
    record {
      kept = c.in-Record.record;
      device = c.get.result.now;
      is = ap Some c.in-Record.is;
      there =
          ap (λ (l : List DeviceText). slice_get l c.args.device) (sym c.devices-devices.ensures.devices)
          ∙ c.get.ensures.item;
      len_is = ap length name;
      bytes =
          c.copy_bytes.ensures
          ∙ ap (λ (l : List ℕ). written (take (length c.args.out.now) l) c.args.out.now) name;
    }
