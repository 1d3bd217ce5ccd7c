-- What a call leaves that injects many events under one turn (docs/RULES.md, "Places and moments").
use Rattle.std.specs.Prelude.{◌≡◌, ℕ, suc, ◌+◌, ◌-◌, ◌≤◌, min, if◌then◌else◌, nat_lt, List, [], ◌∷◌, ◌++◌, length, map, take, reverse, slice_get, Some}
use Rattle.std.specs.List.{range_with_len}
use Rattle.inp_model.specs.declared.limits.TheConstants.{LOG_MAX}
use Rattle.inp_model.specs.declared.stamped.Stamped.{Stamped}
use Rattle.inp_model.specs.declared.stamped.TheConstants.{MOMENT_MAX}
use Rattle.inp_model.specs.declared.injected.Injected.{Injected}
use Rattle.inp_model.specs.declared.step.Step.{Step}
use Rattle.inp_model.specs.declared.step.Step.TheVariants.{Inject}
use Rattle.inp_model.specs.declared.reply.Reply.TheVariants.{Done, Refused}
use Rattle.inp_model.specs.declared.reply.Refusal.TheVariants.{LogFull}
use Rattle.inp_model.specs.Description.{Description}
use Rattle.inp_model.specs.History.{IsHistory}
use Rattle.inp_model.specs.Reply.{alone}
use Rattle.inp_model.specs.Run.{Call}
use Rattle.inp_model.specs.Evdev.{EvdevView, BeginsWith, TurnsRise}

-- the moments of these events are within their limit
abbrev pub AreInTime : List Stamped → Type 0
AreInTime events = (i : ℕ) (s : Stamped) → slice_get events i ≡ Some s → s.now ≤ MOMENT_MAX

-- the step that an event makes
abbrev pub inject_of : Stamped → Step
inject_of stamped = Inject stamped.event stamped.now

-- how many of these events are entered after a history of this length: no more than the log limit leaves
abbrev pub entered_count : Description → ℕ → List Stamped → ℕ
entered_count d from events = min (length events) (d.log_limit - from)

-- a history, followed by the first ones of these events
abbrev pub history_with : List Step → ℕ → List Stamped → List Step
history_with history count events = history ++ map inject_of (take count events)

-- What the call leaves of what is told. The history found, when the turn was got, begins with what was seen before.
pub record IsInjectAll (before after : EvdevView) (events : List Stamped) (injected : Injected) : Type 0 where
  pub found : List Step
  pub description : after.description ≡ before.description
  pub tie : after.tie ≡ before.tie
  pub begins : BeginsWith before.seen found
  pub from : injected.from ≡ length found
  pub count : injected.count ≡ entered_count before.description injected.from events
  -- no history is longer than the greatest limit that there is
  pub within : injected.from + injected.count ≤ LOG_MAX
  -- the events follow the history found, in order and with nothing between
  pub seen : after.seen ≡ history_with found injected.count events
  pub own : after.own ≡ before.own ++ range_with_len injected.from injected.count
  pub agains : after.agains ≡ before.agains
  -- also where there are no events
  pub turns : TurnsRise before.turns after.turns
  pub history : IsHistory after.description (reverse after.seen)

-- the call for an event that is entered at this place
abbrev pub entered_call : ℕ → Stamped → Call
entered_call at stamped = record { step = inject_of stamped; answer = alone (Done at) }

-- the call for an event that is refused after a history of this length, since that is the limit
abbrev pub full_call : ℕ → Stamped → Call
full_call limit stamped = record { step = inject_of stamped; answer = alone (Refused limit LogFull) }

-- The calls that it is, after a history of length from. Each event that is entered is a call with its place.
-- The first one for which there is no room is a call that is refused for the limit, and those after it are no
-- calls.
abbrev pub calls_of : ℕ → ℕ → List Stamped → List Call
calls_of limit from [] = []
calls_of limit from (stamped ∷ events) =
    if nat_lt from limit then entered_call from stamped ∷ calls_of limit (suc from) events else full_call from stamped ∷ []
