use Rattle.std.proofs.Common.{◌≡◌, ◌<◌, inl, inr, length, Some, sym, subst, ◌∙◌, arith}
use Rattle.std.specs.List.{slice_get}
use Rattle.std.proofs.lemmas.Bool.{cases_lt}
use Rattle.std.proofs.lemmas.List.{map_more}
use Rattle.std.proofs.lemmas.Option.{same_Some, slice_get_within, slice_get-get_or}
use Rattle.inp_script.proofs.Common.{IsDescription}
use Rattle.inp_play.proofs.player.first_devices.Goals as goal
use Rattle.inp_play.specs.Player.{first_device}

pub loop-device-preserved : goal.loop-device-preserved
loop-device-preserved c = record {
  made =
      rw (
        c.in_ok-push.ensures.items,
        c.loop-device.invariant.made,
        c.in_ok-new.ensures.fresh,
        c.copy.ensures.same,
        c.device-item.is,
      )
      (sym
      (map_more first_device c.as_slice-device-items.result.now c.loop-device.device-index
      c.device-item.result c.loop-device-test.true));
  described = λ i text below is. elim (cases_lt i c.loop-device.device-index) [
    | inl earlier ↦ c.loop-device.invariant.described i text earlier is
    | inr late ↦
        (let last : i ≡ c.loop-device.device-index = omega (arith, late, below) in
        let got : slice_get c.as_slice-device-items.result.now i ≡ Some c.device-item.result =
        rw (
          last,
          slice_get-get_or c.as_slice-device-items.result.now c.loop-device.device-index c.device-item.result
              c.loop-device-test.true,
          ← c.device-item.is,
        ) in
        let same : c.device-item.result ≡ text = same_Some c.device-item.result text (sym got ∙ is) in
        subst IsDescription (rw (c.copy.ensures.same, same)) c.copy.ensures.description)
  ];
}

pub returns-clause-described : goal.returns-clause-described
returns-clause-described c = λ i device is.
    (let there : slice_get c.as_slice-device-items.result.now i ≡ Some device =
    rw (c.as_slice-device-items.ensures.items, c.devices.ensures.devices) is in
    let within : i < length c.as_slice-device-items.result.now =
    slice_get_within c.as_slice-device-items.result.now i device there in
    c.loop-device.invariant.described i device (omega (arith, within, c.loop-device-test.false)) there)
