-- A record that was made has no joystick and no owner.
use Rattle.std.proofs.Common.{◌≡◌, ℕ, List, [], ◌∷◌, refl}
use Rattle.inp_make.specs.Generated.{generated}
use Rattle.inp_script.specs.Job.{JoyJobView, OwnerView}
use Rattle.inp_script.specs.Runs.{joy_actors, owner_actors, AreJoysOf, AreOwnersOf}

-- those of no actors are none
no_joys : (joys : List JoyJobView) → joy_actors joys ≡ [] → joys ≡ []
no_joys [] h = refl
no_joys (joy ∷ joys) h = absurd cc

no_owners : (owners : List OwnerView) → owner_actors owners ≡ [] → owners ≡ []
no_owners [] h = refl
no_owners (owner ∷ owners) h = absurd cc

-- a record that was made has no joystick among its actors
pub made-no_joys : (number count : ℕ) (joys : List JoyJobView)
    → AreJoysOf (generated number count) joys → joys ≡ []
made-no_joys number count joys h = no_joys joys h

-- a record that was made has no owner among its actors
pub made-no_owners : (number count : ℕ) (owners : List OwnerView)
    → AreOwnersOf (generated number count) owners → owners ≡ []
made-no_owners number count owners h = no_owners owners h
