use Rattle.std.proofs.Common.{◌≡◌, [], length, refl, sym, ap, subst, ◌∙◌, arith, Some}
use Rattle.std.specs.Prelude.{reverse, slice_get}
use Rattle.std.proofs.lemmas.Option.{same_Some}
use lib.ListN.{length-map}
use Rattle.inp_script.proofs.Common.{IsDescription, step_made}
use Rattle.inp_turn.specs.PassView.{IsEachAddedOnce}
use Rattle.inp_threads.proofs.Common.{steps_among, view_of, actor_number}
use Rattle.inp_uinput.proofs.ServedEntries.{steps-reverse}
use Rattle.inp_port.specs.Port.{description_of, start_value}
use Rattle.inp_threads.proofs.DeviceRun.{IsLeftOf, left-promised}
use Rattle.inp_threads.proofs.device_run.run_device.Goals as goal

pub join_workers-pass-requires-clause-room : goal.join_workers-pass-requires-clause-room
join_workers-pass-requires-clause-room g c =
    let kept : length c.run_all.new.workers.items ≡ length c.in_ok-workers.workers.items =
    sym (length-map c.run_all.new.workers.items actor_number) ∙ ap length c.run_all.ensures.numbers
    ∙ length-map c.in_ok-workers.workers.items actor_number in
    omega (
      arith,
      kept,
      c.run_all.new.workers.ok.0,
      c.in_ok-workers.workers.ok.0,
      c.len.ensures,
      c.in_ok-ends.ensures.exact,
    )

-- the workers did their lines and their passes were joined, so all is promised of the device
pub returns : goal.returns
returns g c = record {
  promised = λ device at.
      (let item : slice_get c.args.rec.now.devices c.args.number ≡ Some c.get.result.now =
      rw (← c.devices.ensures.devices) c.get.ensures.item in
      let caps : c.copy-caps.result ≡ device.caps =
      rw (c.copy-caps.ensures.same, same_Some c.get.result.now device (sym item ∙ at)) in
      let fresh : start_value c.in-Ok.port ≡ record {
        description = c.copy-caps.result;
        kept = [];
        agains = 0;
      } = c.in-Ok.ensures.first ∙ c.in_ok-new.ensures.fresh in
      let none : reverse (start_value c.in-Ok.port).kept ≡ [] = rw fresh in
      let described : description_of c.in-Ok.port ≡ device.caps =
      rw (c.in-Ok.ensures.description, c.in_ok-new.ensures.fresh) caps in
      let dealt = c.in_ok-workers.ensures.dealt in
      let joined = view_of c.join_workers-pass.result.pass in
      let own : IsEachAddedOnce [] joined.seen joined.own =
      rw none at
      (rw c.close.ensures.entries at c.close.ensures.own) in
      let history : c.into_history-history.result ≡ steps_among step_made joined.seen =
      c.into_history-history.ensures.history ∙ sym (steps-reverse c.close.result.kept)
      ∙ ap (steps_among step_made) c.close.ensures.entries in
      let left : IsLeftOf c.args.idle c.args.number c.args.rec.now device.caps c.in-Ok.port
      (view_of c.deal.new.pass) joined c.run_all.new.workers.items joined.seen = record {
        description = described;
        numbers = c.run_all.ensures.numbers ∙ dealt.numbers;
        worked = c.run_all.ensures.worked;
        done = c.join_workers-pass.ensures.done c.if-not-is_done.false;
        sized = c.join_workers-pass.ensures.sized;
        are_joined = c.join_workers-pass.ensures.joined;
        none = dealt.own;
        seen = refl;
        owned = own;
      } in
      rw (c.of-ends.ensures.items, history)
      (left-promised c.args.idle c.args.number c.args.rec.now device c.in-Ok.port
      (view_of c.deal.new.pass) joined c.run_all.new.workers.items joined.seen left
      c.devices.ensures.record (subst IsDescription caps c.copy-caps.ensures.description)
      c.join_workers-pass.result.ends.items c.join_workers-pass.ensures.ends));
}
