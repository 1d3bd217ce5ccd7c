-- What a feedback call under the turn leaves of a pass (docs/RULES.md, "Devices made by requests").
use Rattle.std.specs.Prelude.{◌≡◌, ℕ, ◌+◌, ◌-◌, List, [], ◌∷◌, ◌++◌, length, reverse}
use Rattle.std.specs.Option.{option_map}
use mathlib.Core.List.{IsPrefix}
use Rattle.inp_model.specs.declared.event.Event.{Event}
use Rattle.inp_model.specs.Description.{Description}
use Rattle.inp_model.specs.Evdev.{EvdevView, BeginsWith, TurnsRise}
use Rattle.inp_model.specs.Reply.{written}
use Rattle.inp_turn.specs.declared.kept.Kept.{Ghosts}
use Rattle.inp_turn.specs.declared.pass.Pass.{Pass}
use Rattle.inp_turn.specs.declared.pass_view.PassView.{PassView}
use Rattle.inp_turn.specs.Pass.{view_of}
use Rattle.inp_port.specs.declared.port.PortOf.{PortOf}
use Rattle.inp_port.specs.Entries.{steps_among}
use Rattle.inp_port.specs.Port.{told_by}
use Rattle.inp_feedback.specs.declared.u_entry.UEntry.{UEntry}
use Rattle.inp_feedback.specs.declared.u_entry.UEntry.TheVariants.{Feedback}
use Rattle.inp_feedback.specs.declared.fed.Fed.{Fed}
use Rattle.inp_feedback.specs.declared.fed.Fed.TheVariants.{Took, Full}
use Rattle.inp_feedback.specs.UEntry.{step_made}
use Rattle.inp_feedback.specs.Feedback.{taken_by_feedback, fed}
use Rattle.inp_uinput.specs.UdevView.{UdevView}

-- the length of the history that is answered
abbrev pub history_length : Fed → ℕ
history_length (Took at count) = at
history_length (Full at) = at

-- the entries after a feedback call, oldest first: a call that took events, or none, is the last one
abbrev pub entries_after_call : Fed → List UEntry → List UEntry
entries_after_call (Took at count) found = found ++ Feedback count ∷ []
entries_after_call (Full at) found = found

-- the place of a call that is kept: it is the last one of the entries after it
abbrev pub call_places : Fed → List UEntry → List ℕ
call_places (Took at count) entries = (length entries - 1) ∷ []
call_places (Full at) entries = []

-- One turn was taken for a feedback call, and it was answered from the list that was kept then, as the device
-- itself answers. A call that is kept is the last entry that the pass has seen, and its place is the pass's
-- own. Nothing else was entered.
pub record IsFeedbackTurn (d : Description) (before : PassView Description UEntry) (answer : Fed) (out new_out : List Event) (after : PassView Description UEntry) : Type 0 where
  -- what was kept when the turn was taken, oldest first
  pub found : List UEntry
  pub begins : IsPrefix before.seen found
  pub answered : answer ≡ fed d (reverse found) (length out)
  pub out_written : new_out ≡ written (taken_by_feedback d (reverse found) (length out)) out
  pub seen : after.seen ≡ entries_after_call answer found
  pub own : after.own ≡ before.own ++ call_places answer after.seen
  -- no step was made
  pub steps : steps_among step_made after.seen ≡ steps_among step_made found
  pub turns : after.turns ≡ before.turns + 1
  pub share : after.share ≡ before.share
  pub base : after.base ≡ before.base

-- What the call leaves of what an evdev's caller is told. It is no step: steps of others may have come to be
-- seen, and the caller's own are those before. The places of the caller's feedback calls are part of its tie.
pub record IsToldFeedback (answer : Fed) (entries : List UEntry) (before after : EvdevView) : Type 0 where
  pub description : after.description ≡ before.description
  pub seen : BeginsWith before.seen after.seen
  pub at : history_length answer ≡ length after.seen
  pub own : after.own ≡ before.own
  pub agains : after.agains ≡ before.agains
  pub turns : TurnsRise before.turns after.turns
  pub tie : after.tie ≡ option_map (λ tie. tie ++ call_places answer entries) before.tie

-- the same of the caller of a port with a pass, whatever the count of answers Again is
abbrev pub IsFeedbackBy : {K : Ghosts UdevView Description UEntry} → PortOf UdevView UEntry → Pass UdevView Description UEntry K → Pass UdevView Description UEntry K → Fed → Type 0
IsFeedbackBy port before after answer =
    (agains : ℕ) → IsToldFeedback answer (view_of after).seen (told_by step_made port before agains) (told_by step_made port after agains)
