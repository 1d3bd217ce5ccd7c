-- What a contract sees of a port, and of a pass of it.
use Rattle.std.specs.Prelude.{◌≡◌, ℕ, ℤ, false, List, Option, Some}
use Rattle.inp_model.specs.declared.injected.Injected.{Injected}
use Rattle.inp_model.specs.declared.stamped.Stamped.{Stamped}
use Rattle.inp_model.specs.declared.step.Step.{Step}
use Rattle.inp_model.specs.declared.reply.Reply.{Reply}
use Rattle.inp_model.specs.declared.taken.Taken.{Taken}
use Rattle.inp_model.specs.Description.{Description}
use Rattle.inp_model.specs.Evdev.{EvdevView, IsEvdevCall, agains_after}
use Rattle.inp_model.specs.Injection.{IsInjectAll}
use Rattle.inp_turn.specs.declared.kept.Kept.{Ghosts}
use Rattle.inp_turn.specs.declared.pass.Pass.{Pass}
use Rattle.inp_turn.specs.declared.shared.Shared.{Shared}
use Rattle.inp_turn.specs.Pass.{view_of, has_turn}
use Rattle.inp_turn.specs.Shared.{IsPassOf, start_of, shared_id}
use Rattle.inp_port.specs.declared.port.PortOf.{PortOf}
use Rattle.inp_port.specs.Turn.{told_of}

module _ {S E : Type 0} where
  -- the description of the device
  abbrev pub description_of : PortOf S E → Description
  description_of port = port.caps

  -- the shared value that makes the steps
  abbrev pub shared_of : PortOf S E → Shared S Description E
  shared_of port = port.shared

  -- the value as it was when the port was made of it
  abbrev pub start_value : PortOf S E → S
  start_value port = start_of port.shared

  module _ {K : Ghosts S Description E} where
    -- the pass is one of this port's, and has no turn now
    pub record IsReadyAt (port : PortOf S E) (pass : Pass S Description E K) : Type 0 where
      pub own : IsPassOf port.shared pass
      pub free : has_turn pass ≡ false
      pub described : (view_of pass).base ≡ Some port.caps

    -- what the caller of a port sees through a pass, beside its count of answers Again
    abbrev pub told_by : (E → Option Step) → PortOf S E → Pass S Description E K → ℕ → EvdevView
    told_by made port pass agains = told_of made port.caps (shared_id port.shared) (view_of pass) agains

    -- whatever the count of answers Again was, the call is an evdev's for the caller with this pass
    abbrev pub IsCallBy : (E → Option Step) → PortOf S E → Pass S Description E K → Pass S Description E K → Step → Reply → List Taken → List Taken → List ℤ → List ℤ → Type 0
    IsCallBy made port before after x reply out new_out cells new_cells =
        (agains : ℕ) → IsEvdevCall (told_by made port before agains) (told_by made port after (agains_after reply agains)) x reply out new_out cells new_cells

    -- the same of a call that injects events: answers Again are not part of it
    abbrev pub IsInjectAllBy : (E → Option Step) → PortOf S E → Pass S Description E K → Pass S Description E K → List Stamped → Injected → Type 0
    IsInjectAllBy made port before after events injected =
        (agains : ℕ) → IsInjectAll (told_by made port before agains) (told_by made port after agains) events injected
