-- The calls of a reader, where they are noted, are those of the talk of a job: of its start, of its
-- joystick's start and of a round.
use Rattle.std.proofs.Common.{◌≡◌, List, [], ◌∷◌, ◌++◌, map, refl, append_assoc, append-nil, Bool, true}
use Rattle.std.proofs.Common.{false, if◌then◌else◌, Option, Some, ℕ}
use Rattle.std.proofs.lemmas.List.{map-append}
use Rattle.inp_script.specs.Notes.{IsStartNoted}
use Rattle.inp_script.proofs.Common.{Step, Reply, Description, EvdevView, is_again, Call, CallMade, Mode}
use Rattle.inp_script.proofs.Common.{Next, Started, ReaderState, start_talk, next_talk, Notes, Sight, Waiting}
use Rattle.inp_script.proofs.Common.{Holds, Begins, call_sight, made_sight, noted, job_of, joy_job}
use Rattle.inp_script.proofs.Common.{JoystickState}
use Rattle.inp_script.proofs.Common.{joy_start, Talk, finish, ask, LeadsTo, EndsWith, after_joy_start}
use Rattle.inp_script.proofs.Common.{start_joystick}
use Rattle.inp_reader.specs.FollowsTalk.{FollowsTalk, kept_call, calls_kept}
use Rattle.inp_script.specs.declared.sight.Sight.TheVariants.{Call as Called}
use Rattle.inp_script.specs.Client.{LineProgress, Turn, start_job, start_ends, next_round, after_next}
use Rattle.inp_script.specs.Client.{mode_of}
use Rattle.inp_script.proofs.TalkCalls.{holds-nothing, holds-then, begins-then}

-- the entries of a call that is kept, and of one that is not
map-kept : (x : Step) (reply : Reply) → map made_sight (kept_call x reply) ≡ call_sight x reply
map-kept x reply =
    elim (is_again reply) as (λ b. map made_sight (if b then [] else record { step = x; reply = reply } ∷ [])
    ≡ (if b then [] else Called x reply ∷ [])) [ true ↦ refl | false ↦ refl ]

sight-more : (sight : List Sight) (x : Step) (reply : Reply) (calls : List Call)
    → (sight ++ call_sight x reply) ++ map made_sight (calls_kept calls) ≡ sight
    ++ map made_sight (kept_call x reply ++ calls_kept calls)
sight-more sight x reply calls = rw (append_assoc, ← map-kept, ← map-append)

-- a talk that is noted ends with what its calls add
pub noted-ends : {A : Type 0} (talk : Talk A) (sight : List Sight) (calls : List Call) (a : A)
    → EndsWith talk calls a
    → EndsWith (noted talk sight) calls (a, sight ++ map made_sight (calls_kept calls))
unfolding LeadsTo
noted-ends {A = A} (finish b) sight [] a h = let same : b ≡ a = cc in rw (append-nil, ← same)
noted-ends (finish b) sight (call ∷ calls) a h = elim h [ ]
noted-ends (ask x rest) sight [] a h = absurd cc
noted-ends {A = A} (ask x rest) sight (call ∷ calls) a h =
    let reply : Reply = call.answer.reply in
    let talk : Talk (A × List Sight) = noted (rest call.answer) (sight ++ call_sight x reply) in
    let more : EndsWith talk calls (a, (sight ++ call_sight x reply) ++ map made_sight (calls_kept calls)) =
    noted-ends _ _ calls a h.1 in
    let same : (sight ++ call_sight x reply) ++ map made_sight (calls_kept calls) ≡ sight
    ++ map made_sight (kept_call call.step reply ++ calls_kept calls) =
    rw (sight-more, ← h.0) in
    (h.0, rw same at more)

-- a reader's calls, noted
pub holds-reader : {A : Type 0} (before after : EvdevView) (made : List CallMade) (talk : Talk A)
    (sight : List Sight) (a : A) → FollowsTalk before after [] made talk a
    → Holds before after (noted talk sight) (a, sight ++ map made_sight made)
holds-reader {A = A} before after made talk sight a s = record {
  calls = s.calls;
  talk_ends = rw s.kept (noted-ends talk sight s.calls a s.talk_ends);
  are_calls = s.are_calls;
}

module _ (before after : EvdevView) (d : Description) where
  -- a start
  pub start-noted : (r s : ReaderState) (old new : Notes) (made kept : List CallMade) (started : Started)
      → FollowsTalk before after [] made (start_talk d r) (started, s) → kept ≡ made
      → IsStartNoted started kept old new
      → Holds before after (start_job d (job_of r old)) (Some (job_of s new))
  unfolding start_job
  start-noted r s old new made kept started says same n =
      let entries : List Sight = old.sight ++ map made_sight made in
      let o : (Started × ReaderState) × List Sight = ((started, s), entries) in
      holds-then before after after _ (λ (p : (Started × ReaderState) × List Sight). finish (start_ends p)) o
      _ (holds-reader before after made _ old.sight (started, s) says)
      (holds-nothing after _ _
      (rw (n.memory, n.noted, same)))

  -- one of which nothing was noted
  pub start-begun : (r s : ReaderState) (old : Notes) (made : List CallMade) (started : Started)
      → FollowsTalk before after [] made (start_talk d r) (started, s)
      → Begins before after (start_job d (job_of r old))
  unfolding start_job
  start-begun r s old made started says =
      begins-then before after _ (λ (p : (Started × ReaderState) × List Sight). finish (start_ends p)) _
      (holds-reader before after made _ old.sight (started, s) says)

  -- a start of a joystick client
  pub joystick-noted : (k l : JoystickState) (old new : Notes) (made kept : List CallMade) (started : Started)
      → FollowsTalk before after [] made (joy_start d k) (started, l) → kept ≡ made
      → IsStartNoted started kept old new
      → Holds before after (start_joystick d (joy_job k old)) (Some (joy_job l new))
  unfolding start_joystick
  joystick-noted k l old new made kept started says same n =
      let entries : List Sight = old.sight ++ map made_sight made in
      let o : (Started × JoystickState) × List Sight = ((started, l), entries) in
      holds-then before after after _
      (λ (p : (Started × JoystickState) × List Sight). finish (after_joy_start (joy_job k old) p)) o _
      (holds-reader before after made _ old.sight (started, l) says)
      (holds-nothing after _ _
      (rw (n.memory, n.noted, same)))

  -- one of which nothing was noted
  pub joystick-begun : (k l : JoystickState) (old : Notes) (made : List CallMade) (started : Started)
      → FollowsTalk before after [] made (joy_start d k) (started, l)
      → Begins before after (start_joystick d (joy_job k old))
  unfolding start_joystick
  joystick-begun k l old made started says =
      begins-then before after _
      (λ (p : (Started × JoystickState) × List Sight). finish (after_joy_start (joy_job k old) p)) _
      (holds-reader before after made _ old.sight (started, l) says)

  -- one round
  pub round-noted : (wait : Option Waiting) (skips : Bool) (r s : ReaderState) (old mid : Notes)
      (made : List CallMade) (left : Option ℕ) (agains : ℕ) (next : Next) (turn : Turn)
      → FollowsTalk before after [] made (next_talk d (mode_of skips r.phase) r) (next, s)
      → mid ≡ record old { sight = old.sight ++ map made_sight made }
      → after_next wait (record { job = job_of r mid; left = left; agains = agains })
      ((next, s), mid.sight) ≡ turn
      → Holds before after
      (next_round d wait skips (record { job = job_of r old; left = left; agains = agains })) turn
  unfolding next_round
  round-noted wait skips r s old mid made left agains next turn says noted_is is =
      let g : LineProgress = record { job = job_of r old; left = left; agains = agains } in
      let o : (Next × ReaderState) × List Sight = ((next, s), old.sight ++ map made_sight made) in
      let same : after_next wait g o ≡ turn = rw noted_is at is in
      holds-then before after after _
      (λ (p : (Next × ReaderState) × List Sight). finish (after_next wait g p)) o turn
      (holds-reader before after made _ old.sight (next, s) says)
      (holds-nothing after _ turn (rw same))

  -- one of which nothing was noted
  pub round-begun : (wait : Option Waiting) (skips : Bool) (r s : ReaderState) (old : Notes)
      (made : List CallMade) (left : Option ℕ) (agains : ℕ) (next : Next) (mode : Mode)
      → mode ≡ mode_of skips r.phase → FollowsTalk before after [] made (next_talk d mode r) (next, s)
      → Begins before after
      (next_round d wait skips (record { job = job_of r old; left = left; agains = agains }))
  unfolding next_round
  round-begun wait skips r s old made left agains next mode same says =
      let g : LineProgress = record { job = job_of r old; left = left; agains = agains } in
      begins-then before after _ (λ (p : (Next × ReaderState) × List Sight). finish (after_next wait g p)) _
      (holds-reader before after made _ old.sight (next, s) (rw same at says))
