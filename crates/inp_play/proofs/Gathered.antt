-- What came of the devices, gathered actor by actor.
use Rattle.std.proofs.Common.{◌≡◌, ◌≢◌, ℕ, zero, suc, ◌+◌, ◌<◌, Bool, true, false, if◌then◌else◌, List, []}
use Rattle.std.proofs.Common.{◌∷◌, ◌++◌, length, get_or, ne_eqb, Some, refl, ap, ◌∙◌, arith, append-nil}
use Rattle.std.specs.Prelude.{map, slice_get, slice_set, option_map}
use Rattle.std.specs.List.{enumerate_from}
use Rattle.std.proofs.lemmas.Bool.{eq-eqb}
use Rattle.std.proofs.lemmas.List.{length-map, map-append}
use Rattle.std.proofs.lemmas.List.Elements.{filter-append}
use Rattle.std.proofs.lemmas.List.FromFn.{length-enumerate_from}
use Rattle.std.proofs.lemmas.Option.{slice_get-map, slice_get_read, slice_get_within}
use Rattle.inp_script.specs.Runs.{is_on_device}
use Rattle.inp_script.proofs.Common.{Step, ActorText, RecordView, IsRecord, steps_in, HasActor, ActorView}
use Rattle.inp_script.proofs.Common.{ended_of}
use Rattle.inp_play.specs.Player.{pasts_of}
use Rattle.inp_runs.specs.Play.{jobs_on, run_of}
use Rattle.inp_play.specs.GatheredRuns.{first_ends, with_end, HasEndMore}
use Rattle.inp_script.specs.declared.run.DeviceEnds.{DeviceEnds}
use Rattle.inp_play.proofs.Common.{UdevView, stage_with, HasDevices, HasActors, Stage, runs_of}
use Rattle.inp_runs.proofs.Lists.{slice_get-numbered, there-is}
use Rattle.inp_play.proofs.PlayerLines.{same_item, length-devices}

-- before the first actor
pub no_ends : (r : RecordView) (devices : List UdevView)
    → map first_ends devices ≡ runs_of r (stage_with devices [])
no_ends r devices = from 0 devices
  where
    from : (n : ℕ) (ds : List UdevView)
        → map first_ends ds ≡ map (run_of r (stage_with devices [])) (enumerate_from n (pasts_of ds))
    from n [] = refl
    from n (d ∷ ds) = rw (from (n + 1) ds)

-- One actor more

abbrev is_on : RecordView → ℕ → ActorView → Bool
is_on r device a = is_on_device device (slice_get r.actors a.actor)

actors_more : (r : RecordView) (ys : List ActorView) (a : ActorView) (device : ℕ) (b : Bool)
    → is_on r device a ≡ b
    → jobs_on r (ys ++ a ∷ []) device ≡ jobs_on r ys device ++ (if b then a ∷ [] else [])
actors_more r ys a device b h = rw (filter-append (is_on r device) ys (a ∷ []), h)

ends_more : (r : RecordView) (devices : List UdevView) (ys : List ActorView) (a : ActorView) (device : ℕ)
    (past : List Step) → is_on r device a ≡ true
    → with_end (run_of r (stage_with devices ys) (device, past)) (ended_of a)
    ≡ run_of r (stage_with devices (ys ++ a ∷ [])) (device, past)
ends_more r devices ys a device past h =
    rw (← map-append ended_of (jobs_on r ys device) (a ∷ []), ← actors_more r ys a device true h)

ends_same : (r : RecordView) (devices : List UdevView) (ys : List ActorView) (a : ActorView) (device : ℕ)
    (past : List Step) → is_on r device a ≡ false
    → run_of r (stage_with devices ys) (device, past)
    ≡ run_of r (stage_with devices (ys ++ a ∷ [])) (device, past)
ends_same r devices ys a device past h =
    rw (← append-nil (jobs_on r ys device), ← actors_more r ys a device false h)

-- a device of another number
other_device : (r : RecordView) (a : ActorView) (text : ActorText) (device : ℕ)
    → slice_get r.actors a.actor ≡ Some text → text.device ≢ device → is_on r device a ≡ false
other_device r a text device there other = ap (is_on_device device) there ∙ ne_eqb text.device device other

all_same : (r : RecordView) (devices : List UdevView) (ys : List ActorView) (a : ActorView) (text : ActorText)
    (n : ℕ) (pasts : List (List Step)) → slice_get r.actors a.actor ≡ Some text → text.device < n
    → map (run_of r (stage_with devices ys)) (enumerate_from n pasts)
    ≡ map (run_of r (stage_with devices (ys ++ a ∷ []))) (enumerate_from n pasts)
all_same r devices ys a text n [] there below = refl
all_same r devices ys a text n (past ∷ pasts) there below =
    let other : text.device ≢ n = λ e. omega (arith, e, below) in
    let less : text.device < n + 1 = omega (arith, below) in
    let rest : List DeviceEnds = map (run_of r (stage_with devices ys)) (enumerate_from (n + 1) pasts) in
    rw (
      ends_same r devices ys a n past (other_device r a text n there other),
      all_same r devices ys a text (n + 1) pasts there less,
    )

all_more : (r : RecordView) (devices : List UdevView) (ys : List ActorView) (a : ActorView) (text : ActorText)
    (n : ℕ) (pasts : List (List Step)) (i : ℕ) (past : List Step) → slice_get r.actors a.actor ≡ Some text
    → text.device ≡ n + i → slice_get pasts i ≡ Some past
    → slice_set (map (run_of r (stage_with devices ys)) (enumerate_from n pasts)) i
    (with_end (run_of r (stage_with devices ys) (text.device, past)) (ended_of a))
    ≡ map (run_of r (stage_with devices (ys ++ a ∷ []))) (enumerate_from n pasts)
all_more r devices ys a text n [] i past there place found = absurd cc
all_more r devices ys a text n (past ∷ pasts) zero past' there place found =
    let same : past ≡ past' = cc in
    let here : text.device ≡ n = omega (arith, place) in
    let below : text.device < n + 1 = omega (arith, place) in
    let rest : List DeviceEnds = map (run_of r (stage_with devices ys)) (enumerate_from (n + 1) pasts) in
    rw (
      ← same,
      ends_more r devices ys a text.device past (ap (is_on_device text.device) there
          ∙ eq-eqb text.device text.device refl),
      here,
      all_same r devices ys a text (n + 1) pasts there below,
    )
all_more r devices ys a text n (past ∷ pasts) (suc i) past' there place found =
    let other : text.device ≢ n = λ e. omega (arith, e, place) in
    let moved : text.device ≡ n + 1 + i = omega (arith, place) in
    let more : DeviceEnds = with_end (run_of r (stage_with devices ys) (text.device, past')) (ended_of a) in
    let rest : List DeviceEnds =
    slice_set (map (run_of r (stage_with devices ys)) (enumerate_from (n + 1) pasts)) i more in
    rw (
      ends_same r devices ys a n past (other_device r a text n there other),
      all_more r devices ys a text (n + 1) pasts i past' there moved found,
    )

-- the actor that comes next, and its device

pub record IsNext (r : RecordView) (devices : List UdevView) (a : ActorView) : Type 0 where
  -- the actor's text
  pub text : ActorText
  -- it stands at the actor's number
  pub is_text : slice_get r.actors a.actor ≡ Some text
  -- the actor's device
  pub device : UdevView
  -- it stands at the number that the text names
  pub is_device : slice_get devices text.device ≡ Some device

-- the actor is the record's own of that number, so its text and its device are there
pub is_next : (r : RecordView) (devices : List UdevView) (actors : List ActorView) (n : ℕ) (a : ActorView)
    → IsRecord r → HasDevices r devices → HasActors r actors → (n < length actors) × (a ≡ get_or actors n a)
    → IsNext r devices a
is_next r devices actors n a keeps has_devices has_actors turn =
    let found : slice_get actors n ≡ Some a = slice_get_read actors (length actors) n a refl turn.0 turn.1 in
    let has : HasActor r a = (has_actors.each n a found).1 in
    let few : length devices ≡ length r.devices = length-devices r devices has_devices in
    let device : (d : UdevView) × (slice_get devices has.text.device ≡ Some d) =
    there-is devices has.text.device (omega (arith, keeps.devices a.actor has.text has.is_text, few)) in
    record { text = has.text; is_text = has.is_text; device = device.0; is_device = device.1 }

length-runs_of : (r : RecordView) (devices : List UdevView) (ys : List ActorView)
    → length (runs_of r (stage_with devices ys)) ≡ length devices
length-runs_of r devices ys =
    length-map (enumerate_from 0 (pasts_of devices)) (run_of r (stage_with devices ys))
    ∙ length-enumerate_from 0 (pasts_of devices) ∙ length-map devices (λ (d : UdevView). steps_in d.kept)

-- the actor's device gains its end, and on each other one the actors are the same
pub one_more_end : (r : RecordView) (devices : List UdevView) (ys : List ActorView) (a : ActorView)
    (old new : List DeviceEnds) (text : ActorText) → IsNext r devices a
    → slice_get r.actors a.actor ≡ Some text → old ≡ runs_of r (stage_with devices ys)
    → HasEndMore old new text.device (ended_of a) → new ≡ runs_of r (stage_with devices (ys ++ a ∷ []))
one_more_end r devices ys a old new text next there before more =
    let same : next.text ≡ text = same_item r.actors a.actor next.text text next.is_text there in
    let s : Stage = stage_with devices ys in
    let past : List Step = steps_in next.device.kept in
    let found : slice_get (pasts_of devices) text.device ≡ Some past =
    rw (slice_get-map (λ (d : UdevView). steps_in d.kept) devices text.device, ← same, next.is_device) in
    let numbered : slice_get (enumerate_from 0 (pasts_of devices)) text.device
    ≡ Some (0 + text.device, past) =
    slice_get-numbered 0 (pasts_of devices) text.device
    ∙ ap (option_map (λ (p : List Step). (0 + text.device, p))) found in
    let zero_more : text.device ≡ 0 + text.device = omega arith in
    let there_before : slice_get old text.device ≡ Some (run_of r s (text.device, past)) =
    rw (
      before,
      slice_get-map (run_of r s) (enumerate_from 0 (pasts_of devices)) text.device,
      numbered,
      ← zero_more,
    ) in
    rw (more (run_of r s (text.device, past)) there_before, before)
    (all_more r devices ys a text 0 (pasts_of devices) text.device past there zero_more found)

-- what is gathered has one entry for each device, and so one for the actor's
pub next-device : (r : RecordView) (devices : List UdevView) (ys : List ActorView) (a : ActorView)
    (gathered : List DeviceEnds) (text : ActorText) → IsNext r devices a
    → slice_get r.actors a.actor ≡ Some text → gathered ≡ runs_of r (stage_with devices ys)
    → text.device < length gathered
next-device r devices ys a gathered text next there before =
    let same : next.text ≡ text = same_item r.actors a.actor next.text text next.is_text there in
    omega (
      arith,
      slice_get_within devices next.text.device next.device next.is_device,
      ap (λ (t : ActorText). t.device) same,
      ap length before,
      length-runs_of r devices ys,
    )
