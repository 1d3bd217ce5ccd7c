use Rattle.std.proofs.Common.{[], ◌∷◌, ◌++◌, codes, decimal, map}
use Rattle.inp_record.specs.canon.Text.{devices_lines, action_words, record_lines, record_text}
use Rattle.inp_record.proofs.Written.{sections}
use Rattle.inp_record.proofs.canon.text.push_record.Goals as goal

pub push_actions-requires : goal.push_actions-requires
push_actions-requires c =
    record {
      actors = λ i line there.
          rw c.actors-2.ensures.actors
          (c.lines.ensures.«record».actors i line
          (rw (c.as_slice-2.ensures.items, c.lines.ensures.lines) at there));
    }

-- the header, the devices and the actions are written in that order
pub returns : goal.returns
unfolding record_text record_lines
returns c =
    let actors = c.args.rec.now.actors in
    let devices = c.args.rec.now.devices in
    let lines = c.args.rec.now.lines in
    let by_actors = rw c.actors.ensures.actors at c.in_ok-push_devices.ensures.pushed in
    let all_devices = rw (c.as_slice.ensures.items, c.devices.ensures.devices) at by_actors in
    let of_actors = rw c.actors-2.ensures.actors at c.in_ok-push_actions.ensures.pushed in
    let all_lines = rw (c.as_slice-2.ensures.items, c.lines.ensures.lines) at of_actors in
    let version = c.args.rec.now.version in
    let head = rw c.version.ensures.version at c.in_ok-push_header.ensures.pushed in
    record {
      pushed =
          sections _ _ _ ((codes "inputrecord" ∷ decimal version ∷ []) ∷ [])
          (devices_lines actors devices ++ map (action_words actors) lines) head
          (sections _ _ _ (devices_lines actors devices)
          (map (action_words actors) lines) all_devices all_lines);
    }
