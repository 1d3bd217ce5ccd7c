use Rattle.std.proofs.Common.{take}
use Rattle.inp_model.proofs.Injection.{evdev_injected}
use Rattle.inp_uinput.specs.UdevView.{device_of}
use Rattle.inp_uinput.proofs.Udevs.{events_entered}
use Rattle.inp_uinput.proofs.Tied.{numbers-events, owned_injected}
use Rattle.inp_uinput.proofs.owned.OwnedEvdev.inject_all.Goals as goal

-- the events are entered as an evdev enters them, and the owner's feedback calls stay
pub returns : goal.returns
returns c =
    let old = c.self.inside.udev in
    let new = c.inject_all.new.self in
    let entered = take c.inject_all.result.count c.args.events.now in
    let injected =
    evdev_injected (device_of old)
    (device_of new) c.args.events.now c.inject_all.result c.inject_all.ensures.description
    c.inject_all.ensures.from c.inject_all.ensures.count c.inject_all.ensures.within
    (rw c.inject_all.ensures.kept (events_entered entered old.kept))
    c.inject_all.ensures.agains c.inject_all.ensures.accepted in
    let stay = numbers-events entered old.kept new.kept c.inject_all.ensures.kept in
    record {
      injected = rw c.self.view_is at
          (owned_injected old new c.args.events.now c.inject_all.result injected stay);
    }
