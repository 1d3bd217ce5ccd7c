use Rattle.std.proofs.Common.{reverse}
use Rattle.std.specs.Prelude.{vec_capacity}
use Rattle.inp_uinput.specs.contracts.udev.Udev.{the_view}
use Rattle.inp_uinput.specs.KeptBeside.{IsKeptBeside}
use Rattle.inp_uinput.proofs.Udevs.{HasKept}
use Rattle.inp_uinput.proofs.udev.Udev.inject_all.Given as goal

abbrev pub invariant-loop-stamped : goal.invariant-loop-stamped
invariant-loop-stamped l =
    let inside = l.self-inside in
    record {
      kept : HasKept l.fn.self l.events l.stamped-index (the_view inside);
      beside : IsKeptBeside inside.device.description inside.device.past (reverse inside.feedbacks.items)
          (vec_capacity inside.feedbacks) inside.waiting.value;
    }
