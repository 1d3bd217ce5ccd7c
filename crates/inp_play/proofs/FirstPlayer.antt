-- The devices and the actors of a record before its first line.
use Rattle.std.proofs.Common.{◌≡◌, ℕ, ◌+◌, ◌<◌, List, [], ◌∷◌, ◌++◌, length, take, Some, refl, sym, ap, subst}
use Rattle.std.proofs.Common.{◌∙◌, arith}
use Rattle.std.specs.Prelude.{map, slice_get}
use Rattle.std.specs.List.{enumerate_from}
use Rattle.std.proofs.lemmas.List.{length-map, take_more}
use Rattle.std.proofs.lemmas.Simd.{map-map}
use Rattle.std.proofs.lemmas.List.FromFn.{length-enumerate_from}
use Rattle.std.proofs.lemmas.Option.{slice_get-map, slice_get_within, get_or_from_slice_get}
use Rattle.inp_script.proofs.Common.{steps_in, ActorText, DeviceText, RecordView, IsRecord, HasActor}
use Rattle.inp_script.proofs.Common.{ActorView, first_job}
use Rattle.inp_feedback.specs.KeptList.{calls_in}
use Rattle.inp_runs.proofs.Lists.{slice_get-numbered, there-is}
use Rattle.inp_script.specs.Owner.{first_owning}
use Rattle.inp_runs.specs.Play.{description_at, first_actor, first_stage}
use Rattle.inp_play.specs.Player.{first_actors, first_device}
use Rattle.inp_play.proofs.Common.{UdevView, stage_with, HasDevices, HasActors}
use Rattle.inp_runs.proofs.order.Promised.{description_is}
use Rattle.inp_play.proofs.PlayerLines.{same_item}

-- Actors

made_first : (r : RecordView) (i : ℕ) (text : ActorText) (a : ActorView) → HasActor r a → a.actor ≡ i
    → a.job ≡ first_job a.role a.description → a.owning ≡ first_owning → slice_get r.actors i ≡ Some text
    → a ≡ first_actor r (i, text)
made_first r i text a has number job owning there =
    let same : has.text ≡ text =
    same_item r.actors i has.text text (ap (slice_get r.actors) (sym number) ∙ has.is_text) there in
    let role : a.role ≡ text.role = rw (← has.role, same) in
    let description : a.description ≡ description_at r text.device =
    rw (← has.description, ← description_is r has.text.device has.device has.is_device, same) in
    rw (job, owning, number, role, description)

first_at : (r : RecordView) (i : ℕ) (text : ActorText) → slice_get r.actors i ≡ Some text
    → slice_get (first_actors r) i ≡ Some (first_actor r (i, text))
first_at r i text h =
    let zero_more : 0 + i ≡ i = omega arith in
    rw (
      slice_get-map (first_actor r) (enumerate_from 0 r.actors) i,
      slice_get-numbered 0 r.actors i,
      h,
      zero_more,
    )

-- there is one first actor for each of the record
pub length-first_actors : (r : RecordView) → length (first_actors r) ≡ length r.actors
length-first_actors r =
    length-map (enumerate_from 0 r.actors) (first_actor r) ∙ length-enumerate_from 0 r.actors

-- an actor that was just made is the first one of its number, behind those before it
pub one_more_actor : (r : RecordView) (i : ℕ) (a : ActorView) (actors : List ActorView) → i < length r.actors
    → HasActor r a → a.actor ≡ i → a.job ≡ first_job a.role a.description → a.owning ≡ first_owning
    → actors ≡ take i (first_actors r) → actors ++ a ∷ [] ≡ take (i + 1) (first_actors r)
one_more_actor r i a actors within has number job owning before =
    let t : (text : ActorText) × (slice_get r.actors i ≡ Some text) = there-is r.actors i within in
    rw (
      before,
      made_first r i t.0 a has number job owning t.1,
      ← get_or_from_slice_get (first_actors r) i (first_actor r (i, t.0)) a (first_at r i t.0 t.1),
    )
    (sym (take_more (first_actors r) i a (omega (arith, within, length-first_actors r))))

-- each actor of the record has its text, and the device that its text names is there
pub first_has_actors : (r : RecordView) → IsRecord r → HasActors r (first_actors r)
first_has_actors r keeps = record {
  count = length-first_actors r;
  each = λ i a h.
      let t : (text : ActorText) × (slice_get r.actors i ≡ Some text) =
      there-is r.actors i (omega (arith, slice_get_within (first_actors r) i a h, length-first_actors r)) in
      let d : (device : DeviceText) × (slice_get r.devices t.0.device ≡ Some device) =
      there-is r.devices t.0.device (keeps.devices i t.0 t.1) in
      let is : first_actor r (i, t.0) ≡ a =
      same_item (first_actors r) i (first_actor r (i, t.0)) a (first_at r i t.0 t.1) h in
      let has : HasActor r (first_actor r (i, t.0)) =
      record {
        text = t.0;
        device = d.0;
        is_text = t.1;
        role = refl;
        is_device = d.1;
        description = sym (description_is r t.0.device d.0 d.1);
      } in
      (rw (← is), subst (HasActor r) is has);
}

-- Devices

-- a first device has the description of its text
pub first_has_devices : (r : RecordView) → HasDevices r (map first_device r.devices)
first_has_devices r = map-map (λ (device : UdevView). device.description) first_device r.devices

-- devices that keep nothing have neither steps nor feedback calls
pub first_stage_with : (r : RecordView)
    → stage_with (map first_device r.devices) (first_actors r) ≡ first_stage r
first_stage_with r =
    rw (
      map-map (λ (d : UdevView). steps_in d.kept) first_device r.devices,
      map-map (λ (d : UdevView). calls_in d.kept) first_device r.devices,
    )
