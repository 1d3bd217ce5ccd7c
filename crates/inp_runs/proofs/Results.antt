-- The runs, the joysticks and the owners of a result that is promised are those of its record.
use Rattle.std.proofs.Common.{◌≡◌, ℕ, suc, ◌+◌, Bool, true, false, not, ◌||◌, List, [], ◌∷◌, length, map}
use Rattle.std.proofs.Common.{refl, sym, ap, subst, ◌∙◌, arith, add-zero, zero-add, Option, Some}
use Rattle.std.specs.Prelude.{slice_get, flat_map}
use Rattle.inp_actors.specs.declared.device_text.DeviceText.{DeviceText}
use Rattle.inp_script.specs.declared.run.DeviceEnds.{DeviceEnds}
use Rattle.inp_script.specs.declared.run.Played.{Played}
use Rattle.inp_script.specs.Job.{JoyJobView, OwnerView, job_end, joy_end, owner_end}
use Rattle.inp_script.specs.Ended.{ended_of, ended_run, jobs_among, joys_among, owners_among}
use Rattle.inp_script.specs.Runs.{is_on_device, has_role, is_job, actors_of, actors_with, joy_actors}
use Rattle.inp_script.specs.Runs.{owner_actors, IsRunOf, AreRunsOf, AreJoysOf, AreOwnersOf}
use Rattle.inp_runs.specs.Job.{ArePromised, FollowsLines, IsRun, wait_of}
use Rattle.inp_runs.proofs.Common.{filter, range_with_len, length-map, map-append, slice_get-map}
use Rattle.inp_runs.proofs.Common.{slice_get_within, Step, Description, ActorText, Role, is_joy, is_owner}
use Rattle.inp_runs.proofs.Common.{RecordView, Waiting, ActorView, JobView}
use Rattle.inp_runs.proofs.JobEnds.{is_stick, is_feeding, is_other, jobs-kept, joys-kept, owners-kept}
use Rattle.inp_runs.proofs.JobEnds.{job-end_of, end-numbers}
use Rattle.inp_runs.proofs.Lists.{IsAt, IsImage, filter-same, map-filter, option_map-some, slice_get-filter}
use Rattle.inp_runs.proofs.Lists.{there-is}
use Rattle.inp_runs.proofs.Done.{its_text}

-- Parts of what came of each device, whose numbers are these of a device's number

abbrev AreParts : {X : Type 0} → (ℕ → List ℕ) → (List X → List ℕ) → (DeviceEnds → List X) → ℕ
    → List DeviceEnds → Type 0
AreParts of_device numbers part first done =
    (k : ℕ) (device : DeviceEnds) → slice_get done k ≡ Some device
    → numbers (part device) ≡ of_device (first + k)

parts-behind : {X : Type 0} (of_device : ℕ → List ℕ) (numbers : List X → List ℕ) (part : DeviceEnds → List X)
    (first : ℕ) (device : DeviceEnds) (done : List DeviceEnds)
    → AreParts of_device numbers part first (device ∷ done) → AreParts of_device numbers part (first + 1) done
parts-behind of_device numbers part first device done h = λ k other is.
    let same : first + suc k ≡ (first + 1) + k = omega arith in
    h (suc k) other is ∙ ap of_device same

parts-first : {X : Type 0} (of_device : ℕ → List ℕ) (numbers : List X → List ℕ) (part : DeviceEnds → List X)
    (first : ℕ) (device : DeviceEnds) (done : List DeviceEnds)
    → AreParts of_device numbers part first (device ∷ done) → numbers (part device) ≡ of_device first
parts-first of_device numbers part first device done h = h 0 device refl ∙ ap of_device (add-zero first)

parts-in_order : {X : Type 0} (of_device : ℕ → List ℕ) (number : X → ℕ) (part : DeviceEnds → List X)
    (first : ℕ) (done : List DeviceEnds) → AreParts of_device (map number) part first done
    → map number (flat_map part done) ≡ flat_map of_device (range_with_len first (length done))
parts-in_order of_device number part first [] h = refl
parts-in_order of_device number part first (device ∷ done) h =
    rw (
      map-append number (part device) (flat_map part done),
      parts-first of_device (map number) part first device done h,
      parts-in_order of_device number part (first + 1) done
          (parts-behind of_device (map number) part first device done h),
    )

-- The actors of a device

is_false : (b : Bool) → not b ≡ true → b ≡ false
is_false true h = absurd cc
is_false false h = refl

-- an actor of the device, with what it did
record IsOneOf (r : RecordView) (i : ℕ) (d : Description) (wait : Option Waiting) (history : List Step)
    (a : ActorView) : Type 0 where
  text : ActorText
  is_text : slice_get r.actors a.actor ≡ Some text
  did : FollowsLines r d wait history text.role a

module _ (idle : Option ℕ) (r : RecordView) (i : ℕ) (d : Description) (done : DeviceEnds)
    (s : IsRun idle r i d done) where
  abbrev wait : Option Waiting
  wait = wait_of idle r i

  abbrev actors : List ActorView
  actors = s.actors

  abbrev history : List Step
  history = done.history

  actor_of : (k : ℕ) (a : ActorView) → slice_get actors k ≡ Some a → IsOneOf r i d wait history a
  actor_of k a h =
      let on : ℕ → Bool = λ (n : ℕ). is_on_device i (slice_get r.actors n) in
      let there : slice_get (actors_of r.actors i) k ≡ Some a.actor = rw (← s.numbers, slice_get-map, h) in
      let at : IsAt on (range_with_len 0 (length r.actors)) a.actor =
      slice_get-filter on (range_with_len 0 (length r.actors)) k a.actor there in
      let text = its_text i (slice_get r.actors a.actor) at.passes in
      record { text = text.0; is_text = text.1; did = s.each k a text.0 h text.1 }

  -- a test of an actor's role keeps the same of the record's actors as of these
  kept-numbers : (test : Role → Bool)
      → map (λ (a : ActorView). a.actor) (filter (λ (a : ActorView). test a.role) actors)
      ≡ actors_with test r.actors i
  kept-numbers test =
      let number : ActorView → ℕ = λ (a : ActorView). a.actor in
      let in_record : ℕ → Bool = λ (n : ℕ). has_role test (slice_get r.actors n) in
      let same : filter (λ (a : ActorView). test a.role) actors
      ≡ filter (λ (a : ActorView). in_record a.actor) actors =
      filter-same (λ (a : ActorView). test a.role) (λ (a : ActorView). in_record a.actor) actors (λ k a is.
      let its = actor_of k a is in
      ap test its.did.is_role ∙ ap (has_role test) (sym its.is_text)) in
      ap (map number) same ∙ map-filter number in_record actors ∙ ap (filter in_record) s.numbers

  job-numbers : map (λ (job : JobView). job.actor) (jobs_among (map ended_of actors))
      ≡ actors_with is_job r.actors i
  job-numbers =
      ap (map (λ (job : JobView). job.actor)) (jobs-kept actors)
      ∙ end-numbers job_end (λ (job : JobView). job.actor) (λ a. refl) (filter is_other actors)
      ∙ kept-numbers is_job

  joy-numbers : joy_actors (joys_among (map ended_of actors)) ≡ actors_with is_joy r.actors i
  joy-numbers =
      ap joy_actors (joys-kept actors)
      ∙ end-numbers joy_end (λ (joy : JoyJobView). joy.actor) (λ a. refl) (filter is_stick actors)
      ∙ kept-numbers is_joy

  owner-numbers : owner_actors (owners_among (map ended_of actors)) ≡ actors_with is_owner r.actors i
  owner-numbers =
      ap owner_actors (owners-kept actors)
      ∙ end-numbers owner_end (λ (owner : OwnerView). owner.actor) (λ a. refl) (filter is_feeding actors)
      ∙ kept-numbers is_owner

is_run_of : (idle : Option ℕ) (r : RecordView) (i : ℕ) (device : DeviceText) (done : DeviceEnds)
    → (s : IsRun idle r i device.caps done)
    → IsRunOf r.actors i device (record { history = done.history; jobs = jobs_among (map ended_of s.actors) })
is_run_of idle r i device done s = record {
  jobs = job-numbers idle r i device.caps done s;
  views = λ k job h.
      let e = job-end_of s.actors k job h in
      let its = actor_of idle r i device.caps done s e.index e.actor e.is in
      let f = its.did in
      rw (← e.same) (f.sized (rw (← f.is_role)
      (is_false (is_joy e.actor.role || is_owner e.actor.role) e.passes)));
}

-- All devices

-- each device has its text
text-at : {X Y : Type 0} (xs : List X) (ys : List Y) (i : ℕ) (x : X) → length xs ≡ length ys
    → slice_get xs i ≡ Some x → (y : Y) × (slice_get ys i ≡ Some y)
text-at xs ys i x long h = there-is ys i (omega (arith, long, slice_get_within xs i x h))

abbrev its_joys : DeviceEnds → List JoyJobView
its_joys device = joys_among device.ends

abbrev its_owners : DeviceEnds → List OwnerView
its_owners device = owners_among device.ends

module _ (idle : Option ℕ) (r : RecordView) (played : Played) (p : ArePromised idle r played) where
  run-at : (k : ℕ) (done : DeviceEnds) → slice_get p.devices k ≡ Some done
      → (device : DeviceText) × IsRun idle r k device.caps done
  run-at k done is =
      let text = text-at p.devices r.devices k done p.count is in
      (text.0, p.each k text.0 done text.1 is)

  -- there is one run for each device, as a report of the record asks for
  pub promised-runs : AreRunsOf r played.runs
  promised-runs = rw p.is_played (record {
    devices = length-map p.devices ended_run ∙ p.count;
    each = λ i text run is_text is_run.
        let image : IsImage ended_run (slice_get p.devices i) run =
        option_map-some ended_run (slice_get p.devices i) run
        (sym (slice_get-map ended_run p.devices i) ∙ is_run) in
        let s : IsRun idle r i text.caps image.from = p.each i text image.from is_text image.is in
        subst (IsRunOf r.actors i text) image.same (rw s.ended (is_run_of idle r i text image.from s));
  })

  -- there is one result for each joystick, as a report of the record asks for
  pub promised-joys : AreJoysOf r played.joys
  promised-joys =
      rw (
        p.is_played,
        parts-in_order (actors_with is_joy r.actors)
            (λ (joy : JoyJobView). joy.actor) its_joys 0 p.devices numbered,
        p.count,
      )
    where
      numbered : AreParts (actors_with is_joy r.actors) joy_actors its_joys 0 p.devices
      numbered = λ k done is.
          let at = run-at k done is in
          ap (λ ends. joy_actors (joys_among ends)) at.1.ended
          ∙ joy-numbers idle r k at.0.caps done at.1 ∙ ap (actors_with is_joy r.actors) (sym (zero-add k))

  -- there is one result for each owner, as a report of the record asks for
  pub promised-owners : AreOwnersOf r played.owners
  promised-owners =
      rw (
        p.is_played,
        parts-in_order (actors_with is_owner r.actors)
            (λ (owner : OwnerView). owner.actor) its_owners 0 p.devices numbered,
        p.count,
      )
    where
      numbered : AreParts (actors_with is_owner r.actors) owner_actors its_owners 0 p.devices
      numbered = λ k done is.
          let at = run-at k done is in
          ap (λ ends. owner_actors (owners_among ends)) at.1.ended
          ∙ owner-numbers idle r k at.0.caps done at.1 ∙ ap (actors_with is_owner r.actors) (sym (zero-add k))
