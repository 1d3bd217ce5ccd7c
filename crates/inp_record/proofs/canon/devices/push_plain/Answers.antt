use Rattle.std.proofs.Common.{◌++◌}
use Rattle.inp_record.specs.canon.Device.{number_lines, slots_lines, kinds_lines, caps_lines, axes_lines}
use Rattle.inp_record.specs.canon.Device.{plain_lines}
use Rattle.inp_record.proofs.Written.{sections}
use Rattle.inp_record.proofs.canon.devices.push_plain.Goals as goal

-- the numbers, the slots, the types, the codes and the axes are written in that order
pub returns : goal.returns
unfolding plain_lines
returns c =
    let d = c.args.caps.now in
    record {
      pushed =
          sections _ _ _ (number_lines d)
          (slots_lines d ++ (kinds_lines d ++ (caps_lines d ++ axes_lines d)))
          c.in_ok-push_numbers.ensures.pushed
          (sections _ _ _ (slots_lines d)
          (kinds_lines d ++ (caps_lines d ++ axes_lines d)) c.in_ok-push_slots.ensures.pushed
          (sections _ _ _ (kinds_lines d) (caps_lines d ++ axes_lines d) c.in_ok-push_kinds.ensures.pushed
          (sections _ _ _ (caps_lines d)
          (axes_lines d) c.in_ok-push_caps.ensures.pushed c.in_ok-push_axes.ensures.pushed)));
    }
