-- What a contract sees of a device, and how many events a step may add to those that it keeps.
use Rattle.std.specs.Prelude.{◌≡◌, ℕ, zero, suc, ◌+◌, Bool, ◌&&◌, not, nat_eq, List, [], ◌∷◌, length, sum_by, count_by, Option, Some, None}
use Rattle.std.specs.List.{list_any}
use Rattle.inp_model.specs.declared.event.TheConstants.{EV_SYN, SYN_DROPPED}
use Rattle.inp_model.specs.declared.taken.Taken.{Taken}
use Rattle.inp_model.specs.declared.step.Step.{Step}
use Rattle.inp_model.specs.declared.event.Event.{Event}
use Rattle.inp_model.specs.declared.step.Step.TheVariants.{Inject, Write}
use Rattle.inp_model.specs.Description.{Description}
use Rattle.inp_model.specs.DeviceView.{DeviceView}
use Rattle.inp_model.specs.Frame.{frames_of_step}
use Rattle.inp_model.specs.Left.{eaten, left}
use Rattle.inp_model.specs.Passed.{goes_to_device}
use Rattle.inp_model.specs.Past.{is_inhibited, open_clients}
use Rattle.inp_model.specs.Queue.{queue}
use Rattle.inp_model.specs.Raw.{raw}

-- its description, which never changes, the steps that it accepted, newest first, how many calls were
-- answered Again, how many events are kept for its clients, and what became of the last event from outside
pub record StoringView : Type 0 where
  pub description : Description
  pub past : List Step
  pub agains : ℕ
  pub stored : ℕ
  -- whether the event that a step brought from outside last goes to the device itself
  pub sent : Bool

-- the same without the last two
abbrev pub plain_view : StoringView → DeviceView
plain_view d = record { description = d.description; past = d.past; agains = d.agains }

-- it tells a loss at this place of the history: it is the SYN_DROPPED of the step there
abbrev pub is_loss_at : ℕ → Taken → Bool
is_loss_at place t = nat_eq t.event.kind EV_SYN && nat_eq t.event.code SYN_DROPPED && nat_eq t.place place

-- the client lost its queue at the step: the step's own SYN_DROPPED stands in it
abbrev pub is_lost_at : Description → List Step → Step → ℕ → Bool
is_lost_at d past x client = list_any (λ e. is_loss_at (length past) e.taken) (queue d (x ∷ past) client)

-- how many events are offered to clients, of all frames that the step ends
abbrev pub offered_count : Description → List Step → Step → ℕ
offered_count d past x = sum_by (λ f. length (left (eaten d) f)) (frames_of_step d past x)

-- how many clients lost their queue at the step
unfoldable pub lost_count : Description → List Step → Step → ℕ
lost_count d past x = count_by (is_lost_at d past x) (open_clients (x ∷ past))

-- How many events a step adds to those that are kept, at most. It adds each that it offers, once, whoever
-- gets it, and a SYN_DROPPED for each client that loses its queue.
abbrev pub stored_most : Description → List Step → Step → ℕ
stored_most d past x = offered_count d past x + lost_count d past x

-- so for the last steps of a past, which are so many
abbrev pub stored_since : Description → ℕ → List Step → ℕ
stored_since d zero past = 0
stored_since d (suc n) [] = 0
stored_since d (suc n) (x ∷ past) = stored_most d past x + stored_since d n past

-- the event that a step brings from outside, if it does
abbrev pub event_brought : Step → Option Event
event_brought (Inject e now) = Some e
event_brought (Write client e now) = Some e
event_brought _ = None

-- an event from outside goes to the device itself: to its lights, sounds and settings
abbrev pub goes_out : Description → List Step → Event → Bool
goes_out d past e = goes_to_device d (raw d past) e && not (is_inhibited past)

-- where a step after a past brings an event, `sent` says whether that goes to the device itself
abbrev pub TellsSent : Description → List Step → Step → Bool → Type 0
TellsSent d past (Inject e now) sent = sent ≡ goes_out d past e
TellsSent d past (Write client e now) sent = sent ≡ goes_out d past e
TellsSent d past _ sent = Unit {0}
