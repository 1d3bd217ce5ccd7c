-- When a caller's calls are a legal run of a history, which is written oldest first
-- (docs/RULES.md, "Places and moments").
use Rattle.std.specs.Prelude.{ℕ, suc, ◌≡◌, ◌≤◌, if◌then◌else◌, List, [], ◌∷◌, length, slice_get, Some, IsTrue}
use Rattle.inp_model.specs.declared.step.Step.{Step}
use Rattle.inp_model.specs.declared.reply.Reply.{Reply}
use Rattle.inp_model.specs.declared.reply.Reply.TheVariants.{Done, Opened, Took, Discarded, Bits, Axis, Cells, Again, Refused}
use Rattle.inp_model.specs.Description.{Description}
use Rattle.inp_model.specs.Past.{past_at}
use Rattle.inp_model.specs.Reply.{Answer, IsAnswer, is_accepted}

-- a step that a caller asked for, with the answer that it got
pub record Call : Type 0 where
  pub step : Step
  pub answer : Answer

-- the place of an accepted call; at another one, the history's length then
abbrev pub place_of : Reply → ℕ
place_of (Done at) = at
place_of (Opened at client places) = at
place_of (Took at count) = at
place_of (Discarded at count) = at
place_of (Bits at words) = at
place_of (Axis at axis) = at
place_of (Cells at count slot) = at
place_of (Again at n) = at
place_of (Refused at why) = at

-- the least place that the next call may have
abbrev pub next_place : Reply → ℕ
next_place reply = if is_accepted reply then suc (place_of reply) else place_of reply

-- The call was answered as the one-thread device answers it after the history before its place. At an Open memory may
-- have run out.
pub record HasPlace (d : Description) (history : List Step) (call : Call) : Type 0 where
  pub within : place_of call.answer.reply ≤ length history
  pub exact : IsAnswer d (past_at history (place_of call.answer.reply)) call.step call.answer
  pub entered : IsTrue (is_accepted call.answer.reply) → slice_get history (place_of call.answer.reply) ≡ Some call.step

-- each call has its place, none below that of a call before it, and each above that of an accepted one before it
abbrev pub IsLegalFrom : Description → List Step → ℕ → List Call → Type 0
IsLegalFrom d history least [] = Unit {0}
IsLegalFrom d history least (call ∷ calls) =
    (least ≤ place_of call.answer.reply) × HasPlace d history call × IsLegalFrom d history (next_place call.answer.reply) calls

abbrev pub IsLegalRun : Description → List Step → List Call → Type 0
IsLegalRun d history calls = IsLegalFrom d history 0 calls
