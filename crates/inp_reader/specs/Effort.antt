-- How much a reader may still do: the history takes only so many more steps, and each answer but Again takes
-- an event or a step from what is left. By this a caller's loop over `next` ends.
use Rattle.std.specs.Prelude.{ℕ, suc, ◌+◌, ◌*◌, ◌-◌, ◌<◌, ◌≤◌, Bool, true, false, List, length}
use Rattle.inp_model.specs.declared.event.Event.{Event}
use Rattle.inp_model.specs.Description.{Description}
use Rattle.inp_model.specs.Evdev.{EvdevView}
use Rattle.inp_reader.specs.declared.mode.Mode.{Mode}
use Rattle.inp_reader.specs.declared.mode.Mode.TheVariants.{Sync as Synchronising}
use Rattle.inp_reader.specs.declared.phase.Phase.{Phase}
use Rattle.inp_reader.specs.declared.phase.Phase.TheVariants.{Plain, Needed, Handing}
use Rattle.inp_reader.specs.declared.next.Next.{Next}
use Rattle.inp_reader.specs.declared.next.Next.TheVariants.{Success, Dropped, Sync, Again, Synced, NoDevice, Closed, Full}
use Rattle.inp_reader.specs.Reader.{ReaderState}

-- how many more steps the history may take
abbrev pub steps_left : EvdevView → ℕ
steps_left told = told.description.log_limit - length told.seen

-- more events than a read takes, or a synchronisation makes
abbrev pub most_events : Description → ℕ
most_events d = 1100 + 17 * d.slots

-- how many answers a reader may give of the events that it made
abbrev pub held_back : Phase → List Event → ℕ
held_back Handing left = suc (length left)
held_back Plain left = 0
held_back Needed left = 0

-- how many answers but Again a reader may still give before its history is full, or more
unfoldable pub effort : EvdevView → ReaderState → ℕ
effort told r = steps_left told * most_events told.description + length r.queue + held_back r.phase r.left

-- every answer but Again leaves less than before, and Again leaves no more; of the last three nothing is said
abbrev pub IsLess : Next → ℕ → ℕ → Type 0
IsLess (Success taken) after before = after < before
IsLess (Dropped taken) after before = after < before
IsLess (Sync event) after before = after < before
IsLess Synced after before = after < before
IsLess (Again at ends) after before = after ≤ before
IsLess NoDevice after before = Unit {0}
IsLess Closed after before = Unit {0}
IsLess (Full at) after before = Unit {0}

-- a call that has nothing to do: one in Sync mode where there is nothing to synchronise
abbrev pub is_idle : Mode → Phase → Bool
is_idle Synchronising Plain = true
is_idle mode phase = false
