use Rattle.inp_record.specs.canon.Device.{plain_lines, filters_lines, description_lines}
use Rattle.inp_record.proofs.Written.{sections}
use Rattle.inp_record.proofs.canon.devices.push_description.Goals as goal

-- the filters are written behind everything else that describes the device
pub returns : goal.returns
unfolding description_lines
returns c = record {
  pushed =
      sections _ _ _ (plain_lines c.args.caps.now)
      (filters_lines c.args.caps.now) c.in_ok-push_plain.ensures.pushed c.in_ok-push_filters.ensures.pushed;
}
