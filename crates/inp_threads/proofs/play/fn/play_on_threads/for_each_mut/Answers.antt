use Rattle.std.proofs.Common.{◌≡◌, Option, Result, Ok, Err, IfOk, IfSome}
use Rattle.std.specs.Result.{result_ok}
use Rattle.inp_threads.specs.Promise.{IsPromisedOf}
use Rattle.inp_threads.proofs.play.fn.play_on_threads.for_each_mut.Goals as goal

-- what holds of a result that is no error holds of what is kept of it
kept : {A E : Type 0} (P : A → Type 0) (o : Option A) (result : Result A E) → o ≡ result_ok result
    → IfOk result P → IfSome o P
kept P o (Ok a) same h = rw same h
kept P o (Err e) same h = rw same tt

-- what is promised of a device's result holds of its outcome
pub returns : goal.returns
returns g c =
    kept (IsPromisedOf c.captures.idle c.captures.rec.now c.args.i) c.ok.result c.run_device.result
    c.ok.ensures.value c.run_device.ensures.promised
