-- The numbers of a device's actors are those of actors.
use Rattle.std.proofs.Common.{◌≡◌, ℕ, ◌<◌, List, [], ◌∷◌, length, map, get_or, Some, ap, ◌∙◌, zero-add}
use Rattle.std.specs.Prelude.{Bool, slice_get}
use Rattle.std.specs.List.{All, flat_map, range_with_len}
use Rattle.std.proofs.lemmas.List.{get_or-map, length-map}
use Rattle.std.proofs.lemmas.List.Elements.{All-get_or, All-filter, All-append, All-nil}
use Rattle.std.proofs.lemmas.Option.{slice_get_within, get_or_from_slice_get}
use Rattle.inp_bits.proofs.Indices.{All-filter_range}
use Rattle.inp_actors.specs.declared.actor_text.ActorText.{ActorText}
use Rattle.inp_actors.specs.declared.role.Role.{Role}
use Rattle.inp_actors.specs.Command.{is_joy, is_owner}
use Rattle.inp_actors.specs.Record.{RecordView}
use Rattle.inp_script.specs.Job.{JobView, JoyJobView, OwnerView}
use Rattle.inp_script.specs.Runs.{is_on_device, has_role, is_job, actors_of, actors_with, AreJoysOf}
use Rattle.inp_script.specs.Runs.{AreOwnersOf}

-- each is the number of an actor
actors_of-within : (actors : List ActorText) (device : ℕ)
    → All (λ i. i < length actors) (actors_of actors device)
actors_of-within actors device =
    rw (zero-add (length actors)) at
    (All-filter_range (λ i. is_on_device device (slice_get actors i)) 0 (length actors))

-- so is each of those of them that have such a role
actors_with-within : (test : Role → Bool) (actors : List ActorText) (device : ℕ)
    → All (λ i. i < length actors) (actors_with test actors device)
actors_with-within test actors device =
    All-filter (λ i. has_role test (slice_get actors i)) (λ i. i < length actors) (actors_of actors device)
    (actors_of-within actors device)

-- and of those of some devices, where it is so of each
of_devices-within : (n : ℕ) (of : ℕ → List ℕ) (each : (device : ℕ) → All (λ i. i < n) (of device))
    (devices : List ℕ) → All (λ i. i < n) (flat_map of devices)
of_devices-within n of each [] = All-nil (λ i. i < n)
of_devices-within n of each (device ∷ devices) =
    All-append (λ i. i < n) (of device) (flat_map of devices) (each device)
    (of_devices-within n of each devices)

-- one of some numbers that are below a bound
number-within : {X : Type 0} (f : X → ℕ) (n : ℕ) (xs : List X) (i : ℕ) (x : X) → All (λ k. k < n) (map f xs)
    → slice_get xs i ≡ Some x → f x < n
number-within {X} f n xs i x all at =
    let inside : i < length xs = slice_get_within xs i x at in
    let is : get_or (map f xs) i 0 ≡ f x =
    get_or-map f xs i x 0 inside ∙ ap f (get_or_from_slice_get xs i x x at) in
    rw is at (All-get_or (λ k. k < n) (map f xs) i 0 (rw (length-map xs f) inside) all)

-- a job of a device is an actor's
pub actor_within : (actors : List ActorText) (device : ℕ) (jobs : List JobView) (i : ℕ) (job : JobView)
    → map (λ (j : JobView). j.actor) jobs ≡ actors_with is_job actors device → slice_get jobs i ≡ Some job
    → job.actor < length actors
actor_within actors device jobs i job of at =
    number-within (λ (j : JobView). j.actor) (length actors) jobs i job
    (rw of (actors_with-within is_job actors device)) at

-- and so is a joystick's
pub joy_within : (r : RecordView) (joys : List JoyJobView) (i : ℕ) (joy : JoyJobView) → AreJoysOf r joys
    → slice_get joys i ≡ Some joy → joy.actor < length r.actors
joy_within r joys i joy of at =
    number-within (λ (j : JoyJobView). j.actor) (length r.actors) joys i joy
    (rw of (of_devices-within (length r.actors) (actors_with is_joy r.actors)
    (actors_with-within is_joy r.actors) (range_with_len 0 (length r.devices)))) at

-- and an owner's
pub owner_within : (r : RecordView) (owners : List OwnerView) (i : ℕ) (owner : OwnerView)
    → AreOwnersOf r owners → slice_get owners i ≡ Some owner → owner.actor < length r.actors
owner_within r owners i owner of at =
    number-within (λ (o : OwnerView). o.actor) (length r.actors) owners i owner
    (rw of (of_devices-within (length r.actors) (actors_with is_owner r.actors)
    (actors_with-within is_owner r.actors) (range_with_len 0 (length r.devices)))) at
