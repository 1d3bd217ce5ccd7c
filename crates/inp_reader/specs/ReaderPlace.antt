-- Where a reader stands in the history of its device (docs/READER.md, "Where a reader stands").
use Rattle.std.specs.Prelude.{◌≡◌, ◌≤◌, ◌<◌, ℕ, Bool, true, false, ◌&&◌, if◌then◌else◌, List, [], ◌∷◌, ◌++◌, length, map, flat_map, reverse, Some}
use Rattle.std.specs.List.{slice_get, Contains}
use Rattle.inp_model.specs.declared.event.Event.{Event}
use Rattle.inp_model.specs.declared.taken.Taken.{Taken}
use Rattle.inp_model.specs.declared.step.Step.{Step}
use Rattle.inp_model.specs.declared.step.Step.TheVariants.{Read, Discard, GetKeys, GetSwitches, GetLeds, GetSounds, GetAxis, GetSlots, SyncSlots}
use Rattle.inp_model.specs.Description.{Description}
use Rattle.inp_model.specs.Evdev.{EvdevView}
use Rattle.inp_model.specs.History.{IsHistory}
use Rattle.inp_model.specs.Past.{opens}
use Rattle.inp_model.specs.Reply.{answer}
use Rattle.inp_model.specs.Run.{Call}
use Rattle.inp_model.specs.Step.{client_of, is_same}
use Rattle.inp_recon.specs.declared.view.View.{View}
use Rattle.inp_recon.specs.Synchronised.{is_start}
use Rattle.inp_recon.specs.View.{first_view, view_after_events, view_after_answer}
use Rattle.inp_reader.specs.declared.call_made.CallMade.{CallMade}
use Rattle.inp_reader.specs.declared.phase.Phase.{Phase}
use Rattle.inp_reader.specs.declared.phase.Phase.TheVariants.{Needed}
use Rattle.inp_reader.specs.declared.started.Started.{Started}
use Rattle.inp_reader.specs.declared.started.Started.TheVariants.{Opened}
use Rattle.inp_reader.specs.Reader.{ReaderState, ReaderView, queries}
use Rattle.inp_reader.specs.LeftEvdev.{accepted_places}

-- What a client did since

-- a step that takes or removes events of its client, or asks for a state
abbrev pub is_use : Step → Bool
is_use (Read client count) = true
is_use (Discard client) = true
is_use (GetKeys client) = true
is_use (GetSwitches client) = true
is_use (GetLeds client) = true
is_use (GetSounds client) = true
is_use (GetAxis client code) = true
is_use (GetSlots client code) = true
is_use (SyncSlots client) = true
is_use _ = false

-- the same, as this client
abbrev pub is_use_of : ℕ → Step → Bool
is_use_of client x = is_use x && is_same (client_of x) client

-- what a client read and asked for since its start, in order, with the one-thread device's answers
unfoldable pub calls_since : Description → List Step → ℕ → List Call
calls_since d [] client = []
calls_since d (x ∷ past) client =
    let before = calls_since d past client in
    if is_start past client x then []
    else if is_use_of client x then before ++ record { step = x; answer = answer d past x } ∷ []
    else before

-- What calls make

abbrev pub steps_of : List Call → List Step
steps_of calls = map (λ call. call.step) calls

-- a view after the answers to calls
abbrev pub view_after_answers : View → List Call → View
view_after_answers v [] = v
view_after_answers v (call ∷ calls) = view_after_answers (view_after_answer v call.step call.answer.reply call.answer.cells) calls

-- what calls took
abbrev pub taken_by_calls : List Call → List Taken
taken_by_calls calls = flat_map (λ call. call.answer.events) calls

abbrev pub taken_events : List Taken → List Event
taken_events taken = map (λ t. t.event) taken

abbrev pub is_read : Step → Bool
is_read (Read client count) = true
is_read _ = false

-- all of them are reads
abbrev pub AreReads : List Call → Type 0
AreReads [] = Unit {0}
AreReads (call ∷ calls) = (is_read call.step ≡ true) × AreReads calls

-- Since its client was opened or last removed what was visible, a reader asked for the whole state once, and then read.
-- It handed out a front part of what it read, and the rest is its queue. Its view is what the answers and the events
-- that it handed out make of a new view; synthesised events are not among them.
pub record IsInStep (d : Description) (past : List Step) (r : ReaderState) : Type 0 where
  pub asked : List Call
  pub reads : List Call
  pub handed : List Taken
  pub calls : calls_since d past r.client ≡ asked ++ reads
  pub queries : steps_of asked ≡ queries d r.client
  pub reads_only : AreReads reads
  pub taken : taken_by_calls reads ≡ handed ++ r.queue
  pub view : r.view ≡ view_after_events (view_after_answers (first_view d) asked) (taken_events handed)

abbrev pub is_needed : Phase → Bool
is_needed Needed = true
is_needed _ = false

-- A reader stands at the end of a history of accepted steps, which is written newest first. Its client was
-- opened there, and unless it is to synchronise it is in step.
pub record StandsAt (d : Description) (past : List Step) (r : ReaderState) : Type 0 where
  pub history : IsHistory d past
  pub opened : r.client < opens past
  pub in_step : is_needed r.phase ≡ false → IsInStep d past r

-- a reader stands at the end of the history that is seen
abbrev pub Stands : EvdevView → ReaderView → Type 0
Stands told reader = StandsAt reader.description (reverse told.seen) reader.reading

-- Nobody else used a client in between: each step that did and entered the history is one of these calls.
pub record IsAlone (before after : EvdevView) (client : ℕ) (made : List CallMade) : Type 0 where
  pub only_own : (place : ℕ) (x : Step) → length before.seen ≤ place → slice_get after.seen place ≡ Some x → is_use_of client x ≡ true → Contains (accepted_places made) place

-- a start opened a client
abbrev pub has_opened : Started → Bool
has_opened (Opened client ring) = true
has_opened _ = false
