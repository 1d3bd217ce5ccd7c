use Rattle.tests_play.proofs.FullDevice.{full-inject_all}
use Rattle.tests_play.proofs.script.FullDeviceEvdev.inject_all.Goals as goal

pub returns : goal.returns
returns c = record { injected = full-inject_all c.args._events.now }
