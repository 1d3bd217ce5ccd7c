use Rattle.std.proofs.Common.{◌≡◌, ℕ, ◌<◌, List, length, get_or, ap, ◌∙◌, arith, Option, Some, IfSome}
use Rattle.std.proofs.lemmas.Result.{IfOk-weaker}
use Rattle.inp_script.proofs.Common.{played_of}
use Rattle.inp_runs.specs.Job.{ArePromised}
use Rattle.inp_threads.specs.Promise.{IsPromisedOf}
use Rattle.inp_threads.proofs.DeviceRun.{collected}
use Rattle.inp_threads.proofs.WorkerRuns.{changed}
use Rattle.inp_threads.proofs.play.play_on_threads.Goals as goal
use Rattle.inp_script.specs.declared.run.DeviceEnds.{DeviceEnds}

-- there is an outcome for each device, and all lines are dealt
pub for_each_mut-requires-clause-accepts : goal.for_each_mut-requires-clause-accepts
for_each_mut-requires-clause-accepts g c κs within =
    λ i p below is. (
      record {
        bound = c.requires.bound;
        dealt = c.in_ok-lists.ensures.dealt;
        within =
            omega (
              arith,
              below,
              ap length c.deref_mut.ensures.value,
              c.in_ok-outcomes.ensures.count,
              c.len.ensures.length,
              ap length c.devices.ensures.devices,
            );
        few = c.devices.ensures.record.few_devices;
      },
      (record { shared = c.type_bounds.sync-R.shared }, record { shared = c.type_bounds.sync-G.shared }),
    )

-- what is promised of each device holds of its outcome, so it holds of the whole record
pub returns : goal.returns
returns g c =
    let items : List (Option DeviceEnds) = c.in_ok-outcomes.outcomes.items in
    let slice : List (Option DeviceEnds) = c.deref_mut.result.now in
    let new : List (Option DeviceEnds) = c.for_each_mut.new.s in
    let r = c.args.rec.now in
    let same : slice ≡ items = c.deref_mut.ensures.value in
    let long : length new ≡ length slice = c.for_each_mut.auto.s in
    let each : (i : ℕ) (d : Option DeviceEnds) → i < length new
    → IfSome (get_or new i d) (IsPromisedOf c.args.idle r i) = λ i d below.
    (let k = (c.for_each_mut.ensures i d (omega (arith, below, long))).1 in
    let done : IfSome k.after_call.now (IsPromisedOf c.args.idle r i) = k.call in
    rw k.left at done) in
    let all =
    changed c.in_ok-outcomes.outcomes.len items new (omega (arith, c.in_ok-outcomes.outcomes.ok.0)) (long
    ∙ ap length same) in
    let devices : List DeviceEnds = c.in_ok-devices.devices.items in
    let came : ArePromised (Some c.args.idle) r (played_of devices) =
    collected c.args.idle r new devices
    (omega (
      arith,
      long,
      ap length same,
      c.in_ok-outcomes.ensures.count,
      c.len.ensures.length,
      ap length c.devices.ensures.devices,
    )) each (c.in_ok-devices.ensures.devices ∙ all) in
    record {
      promised = IfOk-weaker c.of.result _ (ArePromised (Some c.args.idle) r)
          (λ played is. rw is came)
          c.of.ensures.played;
    }
