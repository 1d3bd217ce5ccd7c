use Rattle.std.proofs.Common.{ap, ◌*◌, length, arith, ◌≡◌}
use Rattle.inp_model.specs.Description.{Description}
use Rattle.inp_recon.specs.View.{first_view}
use Rattle.inp_recon.proofs.Sizes.{IsSizedFor-first_view}
use Rattle.inp_reader.specs.RoomyEvents.{RoomyEvents, synthesised_most}
use Rattle.inp_reader.proofs.TalksKeepSpare.{new-spare}
use Rattle.inp_reader.proofs.reader.Reader.new.Goals as goal

-- all parts are made for the description, with no call kept and a new view
pub invariant_of-result : goal.invariant_of-result
invariant_of-result c =
    let same : 14 * c.args.caps.now.slots ≡ 14 * c.copy.result.slots = rw (← c.copy.ensures.same) in
    let fits : length (first_view c.args.caps.now).cells ≡ 14 * c.args.caps.now.slots =
    (IsSizedFor-first_view c.args.caps.now).cells in
    record {
      view = rw (c.in_ok-new-4.ensures.view, fits) same;
      asked = rw (c.in_ok-new-3.ensures.view, fits) same;
      cells = rw (c.in_ok-new-2.ensures, c.slots.ensures.slots) same;
      few = omega (arith, ap length c.in_ok-new.ensures.none);
      slots =
          omega (
            arith,
            c.slots.ensures.range,
            c.slots.ensures.slots,
            ap (λ (d : Description). d.slots) c.copy.ensures.same,
          );
      room =
          omega (
            arith,
            ap (λ (v : RoomyEvents). v.room) c.in_ok-new-5.ensures,
            c.synthesised_most.ensures,
            ap synthesised_most c.copy.ensures.same,
          );
      described = c.copy.ensures.description;
      spare =
          new-spare c.args.caps.now c.copy.result _ c.copy.ensures.same c.in_ok-new-4.ensures.view
          c.new-4.ensures;
    }
