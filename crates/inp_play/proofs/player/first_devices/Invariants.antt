use Rattle.std.proofs.Common.{◌≡◌, ◌<◌, ℕ, map, take, Some}
use Rattle.std.specs.List.{slice_get}
use Rattle.inp_script.proofs.Common.{IsDescription, DeviceText}
use Rattle.inp_play.specs.Player.{first_device}
use Rattle.inp_play.proofs.player.first_devices.Given as goal

-- a device for each of those so far, of which each has a description
abbrev pub invariant-loop-device : goal.invariant-loop-device
invariant-loop-device l = record {
  made : l.devices.items ≡ map first_device (take l.device-index l.device-items);
  described : (i : ℕ) (text : DeviceText) → i < l.device-index → slice_get l.device-items i ≡ Some text
      → IsDescription text.caps;
}
