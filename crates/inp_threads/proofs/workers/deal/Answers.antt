use Rattle.std.proofs.Common.{◌≡◌, ◌+◌, Some, refl, arith, false, nat_eq}
use Rattle.std.specs.Prelude.{slice_get}
use Rattle.std.proofs.lemmas.Bool.Decides.{nat_tests}
use Rattle.inp_threads.proofs.Passes.{dealt-other, on_device}
use Rattle.inp_threads.proofs.workers.deal.Goals.{then-get-device+in_ok-deal_one, else-get-device}
use Rattle.inp_threads.proofs.workers.deal.Goals as goal

-- an actor of the device gets a worker, and another one gets none
pub loop-number-preserved : goal.loop-number-preserved
loop-number-preserved c =
    let port = c.args.port.now in
    let r = c.args.rec.now in
    let device = c.args.device in
    let n = c.loop-number.number in
    elim c.if-get-device.branch [
      | then-get-device+in_ok-deal_one w ↦
          rw (w.pass-is, w.workers-is) w.in_ok-deal_one.ensures.dealt
      | else-get-device w ↦
          (let away = w.if-get-device.false in
          let no : nat_eq c.get.result.now.device device ≡ false = grind (arith, nat_tests, away) in
          let item : slice_get r.actors n ≡ Some c.get.result.now =
          rw (← c.actors-in-loop-number.ensures.actors) c.get.ensures.item in
          let same =
          dealt-other port r device n
          (n + 1) c.loop-number.pass c.loop-number.workers.items c.loop-number.invariant
          (on_device r device n c.get.result.now false item no) refl in
          rw (w.pass-is, w.workers-is) same)
    ]
