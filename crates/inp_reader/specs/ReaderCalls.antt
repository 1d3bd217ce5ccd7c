-- What the single calls of a reader leave.
use Rattle.std.specs.Prelude.{◌≡◌, ℕ, ◌≤◌, ℤ, if◌then◌else◌, List, [], ◌++◌, Option, Some, None, Result, Ok, Err}
use Rattle.inp_model.specs.declared.event.TheConstants.{ABS_MAX}
use Rattle.inp_model.specs.declared.taken.Taken.{Taken}
use Rattle.inp_model.specs.declared.step.Step.{Step}
use Rattle.inp_model.specs.declared.step.Step.TheVariants.{Read, GetAxis}
use Rattle.inp_model.specs.declared.reply.Reply.{Reply}
use Rattle.inp_model.specs.Evdev.{EvdevView, IsCall}
use Rattle.inp_model.specs.Reply.{Answer, is_accepted, written}
use Rattle.inp_recon.specs.declared.view.View.{View}
use Rattle.inp_reader.specs.declared.call_made.CallMade.{CallMade}
use Rattle.inp_reader.specs.FollowsTalk.{kept_call}

-- A call with a buffer of cells: its answer, and what it writes to the buffer.
pub record MakesCall (before after : EvdevView) (x : Step) (reply : Reply) (cells new_cells : List ℤ) : Type 0 where
  pub answer : Answer
  pub replied : reply ≡ answer.reply
  pub cells_written : new_cells ≡ written answer.cells cells
  pub is_call : IsCall before after (record { step = x; answer = answer })

-- A call of the kind that is kept.
pub record Asks (before after : EvdevView) (old new : List CallMade) (x : Step) (reply : Reply) (cells new_cells : List ℤ) : Type 0 where
  pub answer : Answer
  pub replied : reply ≡ answer.reply
  pub cells_written : new_cells ≡ written answer.cells cells
  pub is_call : IsCall before after (record { step = x; answer = answer })
  pub kept : new ≡ old ++ kept_call x answer.reply

-- A read of at most 64 events into an empty queue: all that it takes is queued.
pub record MakesRead (before after : EvdevView) (client : ℕ) (reply : Reply) (queue : List Taken) : Type 0 where
  pub answer : Answer
  pub replied : reply ≡ answer.reply
  pub queued : queue ≡ (if is_accepted answer.reply then answer.events else [])
  pub is_call : IsCall before after (record { step = Read client 64; answer = answer })

-- an axis that is asked for is one that a device can have
abbrev pub AsksAnAxis : Step → Type 0
AsksAnAxis (GetAxis client code) = code ≤ ABS_MAX
AsksAnAxis _ = Unit {0}

-- how asking ended: with this view, or at the reply that it was stopped by
abbrev pub asked_result : Option Reply → View → Result View Reply
asked_result None view = Ok view
asked_result (Some reply) view = Err reply
