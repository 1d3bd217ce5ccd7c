-- What came of a device's actors, apart: its jobs, its joysticks' jobs, and its owners.
use Rattle.std.proofs.Common.{◌≡◌, ℕ, Bool, true, not, ◌||◌, cond, List, [], ◌∷◌}
use Rattle.std.proofs.Common.{map, refl, sym, ◌∙◌, Some}
use Rattle.inp_script.specs.Job.{job_end, joy_end, owner_end}
use Rattle.inp_runs.proofs.Common.{filter, sum_by, slice_get-map, Role, Joy, Owner, is_joy, is_owner}
use Rattle.inp_runs.proofs.Common.{ActorView, JobView}
use Rattle.std.specs.Prelude.{slice_get}
use Rattle.std.proofs.lemmas.List.Sums.{sum_by-cons}
use Rattle.inp_script.specs.Ended.{ended_as, ended_of, jobs_among, joys_among, owners_among}
use Rattle.inp_runs.specs.Job.{calls_at}
use Rattle.inp_runs.proofs.Entries.{entries_at}
use Rattle.inp_runs.proofs.Lists.{IsAt, IsImage, option_map-some, slice_get-filter}

-- an actor is a joystick, it is an owner, and it is neither
abbrev pub is_stick : ActorView → Bool
is_stick a = is_joy a.role

abbrev pub is_feeding : ActorView → Bool
is_feeding a = is_owner a.role

abbrev pub is_other : ActorView → Bool
is_other a = not (is_joy a.role || is_owner a.role)

-- only an owner passes the test for owners
pub owner-role : (role : Role) → is_owner role ≡ true → role ≡ Owner
owner-role Owner h = refl
owner-role _ h = absurd cc

-- the jobs are those of the actors that are neither joysticks nor owners
pub jobs-kept : (actors : List ActorView)
    → jobs_among (map ended_of actors) ≡ map job_end (filter is_other actors)
jobs-kept [] = refl
jobs-kept (a ∷ actors) = by a.role (jobs-kept actors)
  where
    by : (role : Role) → jobs_among (map ended_of actors) ≡ map job_end (filter is_other actors)
        → jobs_among (ended_as role a ∷ map ended_of actors)
        ≡ map job_end
        (cond (not (is_joy role || is_owner role)) (a ∷ filter is_other actors) (filter is_other actors))
    by Joy e = e
    by Owner e = e
    by _ e = rw e

-- the joysticks' jobs are those of the joysticks
pub joys-kept : (actors : List ActorView)
    → joys_among (map ended_of actors) ≡ map joy_end (filter is_stick actors)
joys-kept [] = refl
joys-kept (a ∷ actors) = by a.role (joys-kept actors)
  where
    by : (role : Role) → joys_among (map ended_of actors) ≡ map joy_end (filter is_stick actors)
        → joys_among (ended_as role a ∷ map ended_of actors)
        ≡ map joy_end (cond (is_joy role) (a ∷ filter is_stick actors) (filter is_stick actors))
    by Joy e = rw e
    by _ e = e

-- and the owners are those of the owners
pub owners-kept : (actors : List ActorView)
    → owners_among (map ended_of actors) ≡ map owner_end (filter is_feeding actors)
owners-kept [] = refl
owners-kept (a ∷ actors) = by a.role (owners-kept actors)
  where
    by : (role : Role) → owners_among (map ended_of actors) ≡ map owner_end (filter is_feeding actors)
        → owners_among (ended_as role a ∷ map ended_of actors)
        ≡ map owner_end (cond (is_owner role) (a ∷ filter is_feeding actors) (filter is_feeding actors))
    by Owner e = rw e
    by _ e = e

-- this came of an actor that passes a test
pub record IsEndOf {X : Type 0} (end : ActorView → X) (test : ActorView → Bool) (actors : List ActorView)
    (x : X) : Type 0 where
  -- where the actor stands in the list
  pub index : ℕ
  -- the actor that it came of
  pub actor : ActorView
  -- the actor stands there
  pub is : slice_get actors index ≡ Some actor
  -- the actor passes the test
  pub passes : test actor ≡ true
  -- it is what came of the actor
  pub same : end actor ≡ x

end-of : {X : Type 0} (end : ActorView → X) (test : ActorView → Bool) (actors : List ActorView) (k : ℕ)
    (x : X) → slice_get (map end (filter test actors)) k ≡ Some x → IsEndOf end test actors x
end-of end test actors k x h =
    let kept : List ActorView = filter test actors in
    let image : IsImage end (slice_get kept k) x =
    option_map-some end (slice_get kept k) x (sym (slice_get-map end kept k) ∙ h) in
    let at : IsAt test actors image.from = slice_get-filter test actors k image.from image.is in
    record { index = at.index; actor = image.from; is = at.is; passes = at.passes; same = image.same }

module _ (actors : List ActorView) where
  -- each job came of an actor that is neither a joystick nor an owner, as no others are kept
  pub job-end_of : (k : ℕ) (job : JobView) → slice_get (jobs_among (map ended_of actors)) k ≡ Some job
      → IsEndOf job_end is_other actors job
  job-end_of k job h = end-of job_end is_other actors k job (rw (← jobs-kept) h)

-- each actor counts as what comes of it
pub sum-ends : (place : ℕ) (actors : List ActorView)
    → entries_at place (map job_end actors) ≡ sum_by (calls_at place) actors
sum-ends place [] = refl
sum-ends place (a ∷ actors) =
    rw (sum_by-cons, sum-ends place actors) (sym (sum_by-cons (calls_at place) a actors))

-- what comes of actors has their numbers
pub end-numbers : {X : Type 0} (end : ActorView → X) (number : X → ℕ)
    → ((a : ActorView) → number (end a) ≡ a.actor) → (actors : List ActorView)
    → map number (map end actors) ≡ map (λ (a : ActorView). a.actor) actors
end-numbers end number same [] = refl
end-numbers end number same (a ∷ actors) = rw (same, end-numbers end number same actors)
