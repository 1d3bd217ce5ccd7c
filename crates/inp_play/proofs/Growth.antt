-- How long the histories are that lines make, and that no job stops as full while they are shorter than their
-- limit.
use Rattle.std.proofs.Common.{◌≡◌, ◌≤◌, ◌<◌, ℕ, zero, suc, ◌+◌, ◌*◌, List, [], ◌∷◌, ◌++◌, length, refl, sym}
use Rattle.std.proofs.Common.{ap, subst, ◌∙◌, arith, ◌⊎◌, inl, inr, Option, Some, None}
use Rattle.std.specs.Prelude.{slice_get, slice_set}
use Rattle.inp_play.proofs.PlayerSteps.{after_lines-append}
use Rattle.std.proofs.lemmas.Option.{option_and_then_some}
use Rattle.inp_script.proofs.Common.{Stamped, Step, Call, Command, Line, Role, RecordView, Job, ActorView}
use Rattle.inp_script.proofs.Common.{step_of, Description, feedback_room, Source, Client, Tap, Joy}
use Rattle.inp_script.proofs.Common.{Owner, NO_CLIENT, Talk, EndsWith, talk_with, command_talk}
use Rattle.inp_script.proofs.Common.{unless_stopped, line_talk}
use Rattle.inp_play.proofs.Common.{Stop}
use Rattle.inp_actors.specs.declared.command.Command.TheVariants.{Event, Open, Follow}
use Rattle.inp_runs.specs.Play.{Stage, after_line, after_lines}
use Rattle.inp_runs.proofs.order.Calls.{AreExact, exact-talk}
use Rattle.inp_script.proofs.LineWalk.{OfJob}
use Rattle.inp_play.proofs.Follows.{meets-with, Grows, Within, HasQueries, follow-length, start-length}
use Rattle.inp_play.proofs.Follows.{joy_start-length, call-length, tap_call-length}
use Rattle.inp_play.proofs.Limits.{Stays, NoStop, stays-with, stays-start, stays-joy_start, stays-follow}
use Rattle.inp_play.proofs.Limits.{stays-call, stays-tap_call}
use Rattle.inp_runs.proofs.order.LineDone.{IsLinePlayed, line-done}
use Rattle.inp_model.specs.Description.{ring}

-- Commands

-- A command is no feedback call. Whatever actor does it, it adds at most so many steps, and stops no job
-- while no step is refused as full.
pub record IsBound (d : Description) (command : Command) (k : ℕ) : Type 0 where
  pub no_feedback : feedback_room command ≡ None
  -- whatever actor does it, it adds at most so many steps
  pub grows : (role : Role) (streams : List (List Stamped)) (n : ℕ) (j : Job) (past : List Step)
      → Grows d (length past + k) past (command_talk role d streams None n command j)
  -- it stops no job while no step is refused as full
  pub stays : (role : Role) (streams : List (List Stamped)) (n : ℕ) (j : Job) → j.stop ≡ None
      → Stays NoStop (command_talk role d streams None n command j)

-- the line of an event is one call or none, so it adds one step at most
pub event-bound : (d : Description) (moment kind code : ℕ) (value : _)
    → IsBound d (Event moment kind code value) 1
event-bound d moment kind code value = record { no_feedback = refl; grows = by_length; stays = by_stop }
  where
    by_length : (role : Role) (streams : List (List Stamped)) (n : ℕ) (j : Job) (past : List Step)
        → Grows d (length past + 1) past (command_talk role d streams None n (Event moment kind code value) j)
    by_length Tap streams n j past =
        tap_call-length d (step_of j.reading.client (Event moment kind code value)) j past 1 (omega arith)
    by_length Owner streams n j past = omega arith
    by_length _ streams n j past =
        call-length d (step_of j.reading.client (Event moment kind code value)) j past 1 (omega arith)

    by_stop : (role : Role) (streams : List (List Stamped)) (n : ℕ) (j : Job) → j.stop ≡ None
        → Stays NoStop (command_talk role d streams None n (Event moment kind code value) j)
    by_stop Tap streams n j h = stays-tap_call (step_of j.reading.client (Event moment kind code value)) j h
    by_stop Owner streams n j h = h
    by_stop _ streams n j h = stays-call (step_of j.reading.client (Event moment kind code value)) j h

-- an open is one call, or a start that makes each query once too
pub open-bound : (d : Description) (most : ℕ) → HasQueries d most → IsBound d Open (suc most)
open-bound d most has = record { no_feedback = refl; grows = by_length; stays = by_stop }
  where
    by_length : (role : Role) (streams : List (List Stamped)) (n : ℕ) (j : Job) (past : List Step)
        → Grows d (length past + suc most) past (command_talk role d streams None n Open j)
    by_length Source streams n j past = call-length d (step_of NO_CLIENT Open) j past (suc most) (omega arith)
    by_length Client streams n j past = start-length d most j past has
    by_length Tap streams n j past =
        tap_call-length d (step_of j.reading.client Open) j past (suc most) (omega arith)
    by_length Joy streams n j past = joy_start-length d most j past has
    by_length Owner streams n j past = omega arith

    by_stop : (role : Role) (streams : List (List Stamped)) (n : ℕ) (j : Job) → j.stop ≡ None
        → Stays NoStop (command_talk role d streams None n Open j)
    by_stop Source streams n j h = stays-call (step_of NO_CLIENT Open) j h
    by_stop Client streams n j h = stays-start d j
    by_stop Tap streams n j h = stays-tap_call (step_of j.reading.client Open) j h
    by_stop Joy streams n j h = stays-joy_start d j
    by_stop Owner streams n j h = h

-- a follow that does not wait empties a full ring and synchronises once, at most
pub follow-bound : (d : Description) (most reads : ℕ) → HasQueries d most → ring d ≤ 64 * reads
    → IsBound d Follow (reads + suc most)
follow-bound d most reads has fits = record { no_feedback = refl; grows = by_length; stays = by_stop }
  where
    by_length : (role : Role) (streams : List (List Stamped)) (n : ℕ) (j : Job) (past : List Step)
        → Grows d (length past + (reads + suc most)) past (command_talk role d streams None n Follow j)
    by_length Client streams n j past = follow-length d most reads n j past has fits
    by_length _ streams n j past = omega arith

    by_stop : (role : Role) (streams : List (List Stamped)) (n : ℕ) (j : Job) → j.stop ≡ None
        → Stays NoStop (command_talk role d streams None n Follow j)
    by_stop Client streams n j h = stays-follow d n j h
    by_stop _ streams n j h = h

-- Lines

-- Each history has at most so many steps, and no job stopped; each actor is one of a device of this
-- description.
pub record IsShort (d : Description) (most : ℕ) (stage : Stage) : Type 0 where
  -- each device accepted at most so many steps
  pub pasts : (i : ℕ) (past : List Step) → slice_get stage.pasts i ≡ Some past → length past ≤ most
  -- each actor is on a device of that description, and its job did not stop
  pub actors : (i : ℕ) (a : ActorView) → slice_get stage.actors i ≡ Some a
      → (a.description ≡ d) × (a.job.stop ≡ None)

longer : (d : Description) (m n : ℕ) (stage : Stage) → m ≤ n → IsShort d m stage → IsShort d n stage
longer d m n stage more s =
    record { pasts = λ i past h. omega (arith, s.pasts i past h, more); actors = s.actors }

-- an item of a list in which one was set is that one, or stood there before
set_either : {X : Type 0} (xs : List X) (i k : ℕ) (y z : X) → slice_get (slice_set xs i y) k ≡ Some z
    → (z ≡ y) ⊎ (slice_get xs k ≡ Some z)
set_either [] i k y z h = inr h
set_either (x ∷ xs) zero zero y z h = inl cc
set_either (x ∷ xs) zero (suc k) y z h = inr h
set_either (x ∷ xs) (suc i) zero y z h = inr h
set_either (x ∷ xs) (suc i) (suc k) y z h = set_either xs i k y z h

-- what a line did, as a talk with its device
line-talk : (role : Role) (e d : Description) (streams : List (List Stamped)) (rounds : ℕ) (command : Command)
    (j new : Job) (past after : List Step) (calls : List Call) → e ≡ d → j.stop ≡ None
    → EndsWith (line_talk role e streams None rounds command j) calls (Some new) → AreExact e past after calls
    → talk_with d past (command_talk role d streams None rounds command j) ≡ (Some new, after)
unfolding line_talk
line-talk role e d streams rounds command j new past after calls same none ends exact =
    let there : EndsWith (line_talk role d streams None rounds command j) calls (Some new) =
    rw same at ends in
    let exactly : AreExact d past after calls = rw same at exact in
    ap (λ (s : Option Stop).
    talk_with d past (unless_stopped s j (command_talk role d streams None rounds command j))) (sym none)
    ∙ exact-talk d past after (line_talk role d streams None rounds command j) calls (Some new) there exactly

line-short : (r : RecordView) (d : Description) (rounds m k : ℕ) (stage now : Stage) (line : Line)
    → IsShort d m stage → IsBound d line.command k → m + k < d.log_limit
    → after_line r rounds stage line ≡ Some now → IsShort d (m + k) now
line-short r d rounds m k stage now line s bound room h =
    of_line
    (line-done r rounds stage now line
    (λ room text a past is. absurd (let both : None ≡ Some room = sym bound.no_feedback ∙ is in cc)) h)
  where
    of_line : IsLinePlayed r rounds stage now line → IsShort d (m + k) now
    of_line u =
        let a : ActorView = u.actor in
        let kept = s.actors line.actor a u.is_actor in
        let talk : Talk (Option Job) = command_talk a.role d r.streams None rounds line.command a.job in
        let did : talk_with d u.past talk ≡ (Some u.job, u.after) =
        line-talk a.role a.description d r.streams rounds line.command a.job u.job u.past u.after u.calls
        kept.0 kept.1 u.ends u.exact in
        let leaves : OfJob (Within (length u.past + k)) (talk_with d u.past talk).1
        (talk_with d u.past talk).0 =
        meets-with d (OfJob (Within (length u.past + k))) u.past talk
        (bound.grows a.role r.streams rounds a.job u.past) in
        let grows : length u.after ≤ length u.past + k = rw did at leaves in
        let before : length u.past ≤ m = s.pasts u.text.device u.past u.is_past in
        let same : length (talk_with d u.past talk).1 ≡ length u.after = rw did in
        let within : length u.after ≤ m + k = omega (arith, grows, before) in
        let stays : NoStop (talk_with d u.past talk).0 =
        stays-with NoStop d u.past talk (bound.stays a.role r.streams rounds a.job kept.1)
        (omega (arith, grows, before, room)) in
        let stopless : u.job.stop ≡ None = rw did at stays in
        record {
          pasts = λ i past is.
              elim (set_either stage.pasts u.text.device i u.after past (rw (← u.pasts) is)) [
                | inl new ↦ omega (arith, within, ap length new)
                | inr old ↦ omega (arith, s.pasts i past old)
              ];
          actors =
              λ i b is.
              elim (set_either stage.actors a.actor i (record a { job = u.job; owning = u.owning }) b
              (rw (← u.actors) is)) [
                | inl new ↦ rw new (kept.0, stopless)
                | inr old ↦ s.actors i b old
              ];
        }

-- These lines add at most so many steps to a history, and stop no job while it is shorter than its limit.
abbrev pub Adds : RecordView → Description → ℕ → List Line → Type 0
Adds r d n lines =
    (rounds m : ℕ) (stage last : Stage) → IsShort d m stage → m + n < d.log_limit
    → after_lines r rounds stage lines ≡ Some last → IsShort d (m + n) last

-- without a line the stage stays as it is
pub adds-none : (r : RecordView) (d : Description) → Adds r d 0 []
unfolding after_lines
adds-none r d = λ rounds m stage last s room h.
    let same : stage ≡ last = cc in
    subst (IsShort d (m + 0)) same (longer d m (m + 0) stage (omega arith) s)

-- the first line adds up to its bound, and the others go on from there
pub adds-line : (r : RecordView) (d : Description) (n k : ℕ) (line : Line) (lines : List Line)
    → IsBound d line.command k → Adds r d n lines → Adds r d (k + n) (line ∷ lines)
unfolding after_lines
adds-line r d n k line lines bound more = λ rounds m stage last s room h.
    option_and_then_some _ (after_line r rounds stage line) last h (λ now is_now rest.
    longer d ((m + k) + n) (m + (k + n)) last (omega arith)
    (more rounds (m + k) now last
    (line-short r d rounds m k stage now line s bound (omega (arith, room)) is_now)
    (omega (arith, room)) rest))

-- lines that add at most so many steps add at most any greater number
pub adds-more : (r : RecordView) (d : Description) (n k : ℕ) (lines : List Line) → n ≤ k → Adds r d n lines
    → Adds r d k lines
adds-more r d n k lines more adds = λ rounds m stage last s room h.
    longer d (m + n) (m + k) last (omega (arith, more))
    (adds rounds m stage last s (omega (arith, more, room)) h)

-- the second lines go on from what the first ones left, so the numbers add up
pub adds-append : (r : RecordView) (d : Description) (n k : ℕ) (xs ys : List Line) → Adds r d n xs
    → Adds r d k ys → Adds r d (n + k) (xs ++ ys)
adds-append r d n k xs ys one two = λ rounds m stage last s room h.
    option_and_then_some _ (after_lines r rounds stage xs) last
    (sym (after_lines-append r rounds stage xs ys) ∙ h) (λ between first second.
    longer d ((m + n) + k) (m + (n + k)) last (omega arith)
    (two rounds (m + n) between last (one rounds m stage between s (omega (arith, room)) first)
    (omega (arith, room)) second))
