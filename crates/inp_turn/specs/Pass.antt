-- What a contract sees of a pass.
use Rattle.std.specs.Prelude.{◌≡◌, Bool, true, List, Some}
use mathlib.Core.List.{IsPrefix}
use Rattle.inp_turn.specs.declared.kept.Kept.{Ghosts}
use Rattle.inp_turn.specs.declared.pass.Pass.{Pass}
use Rattle.inp_turn.specs.declared.pass_view.PassView.{PassView}
use Rattle.inp_turn.specs.PassView.{view_after_take}

module _ {S B E : Type 0} {K : Ghosts S B E} where
  -- what a pass has seen and owns
  abbrev pub view_of : Pass S B E K → PassView B E
  view_of p = p.seat.me.0.pass

  -- whether a pass has the turn
  abbrev pub has_turn : Pass S B E K → Bool
  has_turn p = p.seat.me.0.has_turn

  -- A pass took the turn, and x is the value: it has the pass's base, and its entries begin with what the
  -- pass had seen.
  pub record TakesTurn (base : S → B) (entries : S → List E) (old new : Pass S B E K) (x : S) : Type 0 where
    pub turn : has_turn new ≡ true
    pub base_is : (view_of old).base ≡ Some (base x)
    pub begins : IsPrefix (view_of old).seen (entries x)
    pub view : view_of new ≡ view_after_take (view_of old) (entries x)
