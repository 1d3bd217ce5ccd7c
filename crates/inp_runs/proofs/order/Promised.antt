-- What comes of a record keeps what is promised.
use Rattle.std.proofs.Common.{◌≡◌, ℕ, zero, suc, ◌+◌, ◌*◌, ◌<◌, Bool, List, [], ◌∷◌, length, map, reverse}
use Rattle.std.proofs.Common.{refl, sym, ap, ◌∙◌, arith, Some, None}
use Rattle.std.specs.List.{enumerate_from}
use Rattle.std.proofs.lemmas.List.{map-id}
use Rattle.inp_model.specs.Description.{syn_alone}
use Rattle.inp_runs.specs.Owner.{HasOwned}
use Rattle.inp_runs.proofs.Common.{Result, Ok, Err, range_with_len, sum_by, nat_tests, length-map}
use Rattle.inp_runs.proofs.Common.{length-reverse, get_or_from_slice_get, same_Some, slice_get_within}
use Rattle.inp_runs.proofs.Common.{slice_get-map, cond_both, Step, Description, ActorText, Role, Joy, Owner}
use Rattle.inp_runs.proofs.Common.{RecordView, IsRecord, IsSizedFor, IsSizedFor-first_view, ActorView}
use Rattle.inp_runs.proofs.Common.{lines_by, rooms_of, Stage, description_at}
use Rattle.std.specs.Prelude.{slice_get, IfOk}
use Rattle.std.proofs.lemmas.List.FromFn.{length-enumerate_from}
use Rattle.inp_actors.specs.declared.device_text.DeviceText.{DeviceText}
use Rattle.inp_feedback.specs.KeptList.{kept_of}
use Rattle.inp_feedback.proofs.Lists.{steps_in-kept_of, kept_of-nothing}
use Rattle.inp_reader.specs.Talk.{LeadsTo}
use Rattle.inp_script.specs.declared.run.DeviceEnds.{DeviceEnds}
use Rattle.inp_script.specs.declared.run.Played.{Played}
use Rattle.inp_script.specs.Ended.{HasDeviceSlots, ended_as, played_of}
use Rattle.inp_script.specs.Runs.{is_on_device}
use Rattle.inp_runs.specs.Done.{IsDeviceDone}
use Rattle.inp_runs.specs.Job.{lines_talk, calls_at, AreDescribed, ArePromised}
use Rattle.inp_runs.specs.Play.{play, first_actor, first_stage, after_lines, jobs_on, run_of, runs_of, IsPlay}
use Rattle.inp_runs.proofs.Done.{device-promised}
use Rattle.inp_runs.proofs.Lists.{option_map-some, slice_get-filter, slice_get-numbered, map-filter}
use Rattle.inp_runs.proofs.Lists.{sum_by-kept, sum_by-none}
use Rattle.inp_runs.proofs.Entries.{entries, below}
use Rattle.inp_runs.proofs.Played.{all-promised, on_this}
use Rattle.inp_runs.proofs.owners.OwnerLaws.{IsToldByLines, told-nothing}
use Rattle.inp_runs.proofs.order.OwnedStages.{AreOwned, owned-stages}
use Rattle.inp_runs.proofs.order.Stages.{IsSoFar, IsStage, weight, number_is, stages}
use Rattle.inp_runs.proofs.Lists.{there-is}

-- Before the first line

first_past : {X : Type 0} (devices : List DeviceText) (i : ℕ) (past : List X)
    → slice_get (map (λ (text : DeviceText). []) devices) i ≡ Some past → past ≡ []
first_past [] i past h = absurd cc
first_past (device ∷ devices) zero past h = cc
first_past (device ∷ devices) (suc i) past h = first_past devices i past h

none_below : (place : ℕ) → 0 ≡ below place 0
none_below place = grind (arith, nat_tests)

-- what came of the device of this number
record IsRunAt (r : RecordView) (stage : Stage) (i : ℕ) (run : DeviceEnds) : Type 0 where
  past : List Step
  is_past : slice_get stage.pasts i ≡ Some past
  same : run_of r stage (i, past) ≡ run

module _ (r : RecordView) where
  first_numbers : (first : ℕ) (texts : List ActorText)
      → map (λ (a : ActorView). a.actor) (map (first_actor r) (enumerate_from first texts))
      ≡ range_with_len first (length texts)
  first_numbers first [] = refl
  first_numbers first (text ∷ texts) = rw (first_numbers (first + 1) texts)

  first_so_far : (rounds i : ℕ) (text : ActorText)
      → IsSoFar r rounds [] (description_at r text.device) text.role [] (first_actor r (i, text))
  unfolding lines_talk LeadsTo
  first_so_far rounds i text = record {
    role_is = refl;
    description = refl;
    calls = [];
    legal = tt;
    memory = refl;
    told = refl;
    follows = refl;
    sized = IsSizedFor-first_view (description_at r text.device);
  }

  first_is : (i : ℕ) (a : ActorView) (text : ActorText) → slice_get (first_stage r).actors i ≡ Some a
      → slice_get r.actors i ≡ Some text → first_actor r (i, text) ≡ a
  first_is i a text is_a is_text =
      let numbered : slice_get (enumerate_from 0 r.actors) i ≡ Some (i, text) =
      rw (slice_get-numbered, is_text) ((let same : 0 + i ≡ i = omega arith in rw same)) in
      same_Some (first_actor r (i, text)) a
      (sym (rw (slice_get-map, numbered)) ∙ is_a)

  none_weighs : (device place : ℕ) (numbered : ℕ × ActorText)
      → weight r device place (first_actor r numbered) ≡ 0
  none_weighs device place numbered =
      cond_both (is_on_device device (slice_get r.actors numbered.0)) _ _ (λ x. x ≡ entries place [])
      (λ _. refl) (λ _. refl)

  first-stage : (rounds : ℕ) → IsStage r rounds [] (first_stage r)
  first-stage rounds = record {
    numbers = first_numbers 0 r.actors;
    devices = length-map r.devices (λ (text : DeviceText). []);
    actors = λ i a text past is_a is_text is_past.
        rw (first_past r.devices text.device past is_past)
        (rw (first_is i a text is_a is_text) at (first_so_far rounds i text));
    history = λ i past is_past. rw (first_past r.devices i past is_past) tt;
    within = λ i past is_past. let none : length past ≡ 0 =
        rw (first_past r.devices i past is_past) in omega (arith, none);
    once = λ i past place is_past.
        cc (
          sum_by-none (weight r i place) (first_actor r) (enumerate_from 0 r.actors) (none_weighs i place),
          none_below place,
          first_past r.devices i past is_past,
        );
  }

  -- no device keeps a feedback call, and no owner was told anything

  first_fed : (i : ℕ) (text : ActorText)
      → IsToldByLines (description_at r text.device) (kept_of [] []) [] (first_actor r (i, text)).owning
  first_fed i text = rw kept_of-nothing (told-nothing (description_at r text.device))

  first-owned : AreOwned r [] (first_stage r)
  first-owned = record {
    counts = length-map r.devices (λ (text : DeviceText). []);
    within = λ i past calls is_past is_calls. rw (first_past r.devices i calls is_calls) tt;
    owners = λ i a text past calls is_a is_text owner is_past is_calls.
        rw (first_past r.devices text.device calls is_calls, first_past r.devices text.device past is_past)
        (rw (← first_is i a text is_a is_text) (first_fed i text));
  }

  run_at : (stage : Stage) (i : ℕ) (run : DeviceEnds) → slice_get (runs_of r stage) i ≡ Some run
      → IsRunAt r stage i run
  run_at stage i run h =
      let numbered = slice_get-numbered 0 stage.pasts i in
      let image =
      option_map-some (run_of r stage) (slice_get (enumerate_from 0 stage.pasts) i) run
      (sym (slice_get-map (run_of r stage) (enumerate_from 0 stage.pasts) i) ∙ h) in
      let past =
      option_map-some (λ (p : List Step). (0 + i, p)) (slice_get stage.pasts i) image.from
      (sym numbered ∙ image.is) in
      let same : 0 + i ≡ i = omega arith in
      record {
        past = past.from;
        is_past = past.is;
        same = cc (same, past.same, image.same);
      }

  -- a device's description is the one in its text
  pub description_is : (i : ℕ) (device : DeviceText) → slice_get r.devices i ≡ Some device
      → description_at r i ≡ device.caps
  description_is i device h =
      let caps : DeviceText → Description = λ (text : DeviceText). text.caps in
      get_or_from_slice_get (map caps r.devices) i device.caps syn_alone (rw (slice_get-map, h))

below_one : (place n : ℕ) → place < n → below place n ≡ 1
below_one place n h = grind (arith, nat_tests, h)

-- of an actor whose view has the device's slots
ended_cells : (d : Description) (role : Role) (a : ActorView) → length a.job.reading.view.cells ≡ 14 * d.slots
    → HasDeviceSlots d (ended_as role a)
ended_cells d Joy a cells = tt
ended_cells d Owner a cells = tt
ended_cells d _ a cells = cells

module _ (r : RecordView) (stage : Stage) (i : ℕ) (device : DeviceText) (past : List Step)
    (is_device : slice_get r.devices i ≡ Some device) (is_past : slice_get stage.pasts i ≡ Some past) where
  module _ (a : ActorView) (text : ActorText) (is_actor : slice_get stage.actors a.actor ≡ Some a)
      (is_text : slice_get r.actors a.actor ≡ Some text) (on : text.device ≡ i) where
    -- what an actor did, by the device that it is on
    so_far_on : (rounds : ℕ) → IsStage r rounds r.lines stage
        → IsSoFar r rounds r.lines device.caps text.role past a
    so_far_on rounds s =
        let there : slice_get stage.pasts text.device ≡ Some past = rw on is_past in
        let caps : description_at r text.device ≡ device.caps = rw on (description_is r i device is_device) in
        rw caps at (s.actors a.actor a text past is_actor is_text there)

    -- what an owner was told, by the device that it owns
    owned_on : AreOwned r r.lines stage → text.role ≡ Owner
        → HasOwned device.caps (reverse past) (rooms_of (lines_by a.actor r.lines)) a.owning
    owned_on o owner =
        let within : i < length stage.calls =
        (let few : i < length r.devices =
        slice_get_within r.devices i device is_device in omega (arith, few, o.counts)) in
        let calls = there-is stage.calls i within in
        let caps : description_at r text.device ≡ device.caps = rw on (description_is r i device is_device) in
        let far : IsToldByLines device.caps (kept_of past calls.0)
        (rooms_of (lines_by a.actor r.lines)) a.owning =
        rw caps at
        (o.owners a.actor a text past calls.0 is_actor is_text owner (rw on is_past) (cc (on, calls.1))) in
        record {
          kept = kept_of past calls.0;
          steps = rw steps_in-kept_of;
          done = far.done;
          before = far.before;
          fed = far.fed;
          ends = far.ends;
        }

  -- the actors of a device did all their lines, each accepted call at a place of its own
  device_done : (rounds : ℕ) → IsStage r rounds r.lines stage → AreOwned r r.lines stage
      → IsDeviceDone None r i device.caps (reverse past) (jobs_on r stage.actors i)
  device_done rounds s o =
      let on : ℕ → Bool = λ (n : ℕ). is_on_device i (slice_get r.actors n) in
      let number : ActorView → ℕ = λ (a : ActorView). a.actor in
      record {
        numbers = rw (map-filter number on stage.actors, s.numbers);
        each = λ k a text is_actor is_text.
            let at = slice_get-filter (λ (b : ActorView). on b.actor) stage.actors k a is_actor in
            let here : slice_get stage.actors a.actor ≡ Some a =
            rw (← number_is r rounds r.lines stage at.index a s at.is) at at.is in
            let there : text.device ≡ i = on_this i (slice_get r.actors a.actor) text at.passes is_text in
            let far : IsSoFar r rounds r.lines device.caps text.role past a =
            so_far_on a text here is_text there rounds s in
            let sized : IsSizedFor device.caps.slots a.job.reading.view = far.sized in
            record {
              calls = far.calls;
              legal = far.legal;
              rounds = rounds;
              follows = far.follows;
              is_role = far.role_is;
              cells = ended_cells device.caps a.role a sized.cells;
              owned = owned_on a text here is_text there o;
            };
        once = λ place within.
            ap (sum_by (calls_at place)) (sym (map-id (jobs_on r stage.actors i)))
            ∙ sum_by-kept (calls_at place) (λ (a : ActorView). a) (λ (a : ActorView). on a.actor) stage.actors
            ∙ s.once i past place is_past
            ∙ below_one place (length past) (omega (arith, within, length-reverse past));
      }

stage_promised : (r : RecordView) (rounds : ℕ) (stage : Stage) → IsRecord r → AreDescribed r
    → IsStage r rounds r.lines stage → AreOwned r r.lines stage
    → ArePromised None r (played_of (runs_of r stage))
stage_promised r rounds stage is_record described s o =
    all-promised None r (runs_of r stage) (length-map (enumerate_from 0 stage.pasts) (run_of r stage)
    ∙ length-enumerate_from 0 stage.pasts ∙ s.devices)
    (λ i device run is_device is_run.
    let at : IsRunAt r stage i run = run_at r stage i run is_run in
    rw at.same at
    (device-promised None r i device (reverse at.past) (jobs_on r stage.actors i) is_record
    (described i device is_device) (device_done r stage i device at.past is_device at.is_past rounds s o)))

-- what comes of a record whose lines are done in file order is promised
pub play-promised : (r : RecordView) (played : Played) → IsRecord r → AreDescribed r → IsPlay r played
    → ArePromised None r played
unfolding play
play-promised r played is_record described p =
    let image =
    option_map-some (λ (stage : Stage). played_of (runs_of r stage))
    (after_lines r p.rounds (first_stage r) r.lines) played p.plays in
    let last : IsStage r p.rounds r.lines image.from =
    stages r p.rounds [] r.lines (first_stage r) image.from
    (first-stage r p.rounds) is_record.commands image.is in
    let owned : AreOwned r r.lines image.from =
    owned-stages r p.rounds [] r.lines (first_stage r) image.from is_record.one_owner (first-stage r p.rounds)
    (first-owned r) is_record.commands image.is in
    rw image.same at (stage_promised r p.rounds image.from is_record described last owned)

-- the same where memory may have run out
pub promised-if_ok : {E : Type 0} (r : RecordView) (result : Result Played E) → IsRecord r → AreDescribed r
    → IfOk result (IsPlay r) → IfOk result (ArePromised None r)
promised-if_ok r (Ok played) is_record described p = play-promised r played is_record described p
promised-if_ok r (Err e) is_record described p = p
