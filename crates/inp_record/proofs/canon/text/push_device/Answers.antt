use Rattle.std.proofs.Common.{[], ◌∷◌, ◌++◌}
use Rattle.inp_record.specs.canon.Device.{description_lines}
use Rattle.inp_record.specs.canon.Text.{actors_lines, device_word, device_lines}
use Rattle.inp_record.proofs.Written.{sections}
use Rattle.inp_record.proofs.canon.text.push_device.Goals as goal

-- the device's line, what describes it and its actors are written in that order
pub returns : goal.returns
unfolding device_lines
returns c =
    let described = description_lines c.args.device.now.caps in
    let acting = actors_lines c.args.actors.now c.args.index in
    record {
      pushed =
          sections _ _ _ ((device_word c.args.device.now.requested ∷ c.args.device.now.name ∷ []) ∷ [])
          (described ++ acting) c.in_ok-push_device_name.ensures.pushed
          (sections _ _ _ described acting c.in_ok-push_description.ensures.pushed
          c.in_ok-push_actors.ensures.pushed);
    }
