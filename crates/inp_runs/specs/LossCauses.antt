-- Why a client reads SYN_DROPPED (docs/RULES.md, "Losses").
use Rattle.std.specs.Prelude.{ℕ, suc, ◌≡◌, ◌⊎◌, true, false, if◌then◌else◌, List, ◌∷◌, ◌++◌, length, slice_get, Some}
use Rattle.inp_model.specs.declared.clock.Clock.{Clock}
use Rattle.inp_model.specs.declared.step.Step.{Step}
use Rattle.inp_model.specs.declared.step.Step.TheVariants.{Clock as ToClock}
use Rattle.inp_model.specs.Description.{Description, ring}
use Rattle.inp_model.specs.Past.{is_call_of, clock_of}
use Rattle.inp_model.specs.Frame.{frames_of_step}
use Rattle.inp_model.specs.Queue.{Entry, event_of, entry_dropped_at, is_empty, put_all, entries, is_same_clock, left_by_call, queue, took}
use Rattle.inp_recon.specs.Synchronised.{is_dropped}

-- a client's queue when a step has done its own call, before the frames come that it ends
abbrev pub queue_before_frames : Description → List Step → ℕ → Step → List Entry
queue_before_frames d past client x =
    if is_call_of past client x then left_by_call d past x (queue d past client) else queue d past client

-- The step ended frames, and one of their events came to a ring in which all places but one were taken.
pub record MeetsFullRing (d : Description) (past : List Step) (client : ℕ) (x : Step) : Type 0 where
  pub before : List Entry
  pub next : Entry
  pub behind : List Entry
  pub come : entries d client (frames_of_step d past x) ≡ before ++ next ∷ behind
  pub full : suc (length (put_all event_of entry_dropped_at (ring d) (queue_before_frames d past client x) before)) ≡ ring d

-- The client chose another clock while events were queued.
pub record ChangesClock (d : Description) (past : List Step) (client : ℕ) (x : Step) : Type 0 where
  pub clock : Clock
  pub now : ℕ
  pub step : x ≡ ToClock client clock now
  pub other : is_same_clock (clock_of past client) clock ≡ false
  pub queued : is_empty (queue d past client) ≡ false

-- The step at this place of the past met a full ring of the client, or changed its clock.
pub record IsCausedAt (d : Description) (past : List Step) (client place : ℕ) : Type 0 where
  pub before : List Step
  pub step : Step
  pub later : List Step
  pub whole : past ≡ later ++ step ∷ before
  pub at : place ≡ length before
  pub cause : MeetsFullRing d before client step ⊎ ChangesClock d before client step

-- where the entry tells of a loss, the step at its place caused it
abbrev pub IsCaused : Description → List Step → ℕ → Entry → Type 0
IsCaused d past client e = is_dropped (event_of e) ≡ true → IsCausedAt d past client e.taken.place

-- each loss in a queue has its cause
abbrev pub AreQueuedCaused : Type 0
AreQueuedCaused =
    (d : Description) (past : List Step) (client i : ℕ) (e : Entry) → slice_get (queue d past client) i ≡ Some e → IsCaused d past client e

-- each loss that a client took in a past has its cause, whoever read as it
abbrev pub AreClientsLossesCaused : Description → List Step → ℕ → Type 0
AreClientsLossesCaused d past client =
    (i : ℕ) (e : Entry) → slice_get (took d past client) i ≡ Some e → IsCaused d past client e

-- each loss that any client took has its cause
abbrev pub AreTakenCaused : Type 0
AreTakenCaused = (d : Description) (past : List Step) (client : ℕ) → AreClientsLossesCaused d past client
