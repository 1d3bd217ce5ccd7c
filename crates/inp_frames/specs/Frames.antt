-- What a taker makes of frames that are passed to it one after another.
use Rattle.std.specs.Prelude.{◌≡◌, ℕ, List, [], ◌∷◌}
use Rattle.inp_model.specs.declared.event.Event.{Event}
use Rattle.inp_model.specs.RawItem.{Cut}

-- the events of each frame by one step of the taker's relation, in order; with no frame it is as before
abbrev pub TakesAll : {T : Type 0} → (T → List Event → ℕ → T → Type 0) → ℕ → List Cut → T → T → Type 0
TakesAll takes now [] before after = after ≡ before
TakesAll {T} takes now (c ∷ cs) before after = (mid : T) × takes before c.events now mid × TakesAll takes now cs mid after
