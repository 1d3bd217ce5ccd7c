-- Where so many rounds are enough for a line, more of them change nothing.
use Rattle.std.proofs.Common.{◌≡◌, ℕ, zero, suc, ◌+◌, Bool, true, false, if◌then◌else◌, List, [], ◌∷◌, ◌++◌}
use Rattle.std.proofs.Common.{refl, sym, arith, add_comm, Option, Some, None, ap, ◌∙◌}
use Rattle.inp_reader.specs.Talk.{talk_with, calls_with}
use Rattle.inp_runs.proofs.Common.{Stamped, Description, Call, Command, Skip, Follow, Line, Role, Client, Joy}
use Rattle.inp_runs.proofs.Common.{Talk, finish, EndsWith, Stop, Waiting, unless_stopped, Job, ActorView}
use Rattle.inp_runs.proofs.Common.{finished, split-and_then, on_job, option_map, Step, feedback_room}
use Rattle.inp_runs.proofs.Common.{RecordView, Stage}
use Rattle.inp_actors.specs.declared.command.Command.TheVariants.{Next}
use Rattle.inp_script.specs.Client.{LineProgress, Turn, goes_on, ends_with, is_done, next_round, on_turn}
use Rattle.inp_script.specs.Client.{rounds}
use Rattle.inp_script.specs.Client.{hand_talk, client_talk}
use Rattle.inp_script.specs.DoneLine.{line_talk, command_talk}
use Rattle.inp_script.proofs.JoyLonger.{ends-then, joystick-longer}
use Rattle.inp_runs.specs.Job.{lines_talk}
use Rattle.std.specs.Prelude.{slice_get, option_and_then}
use Rattle.inp_script.specs.declared.run.Played.{Played}
use Rattle.inp_script.specs.Ended.{played_of}
use Rattle.inp_runs.specs.Play.{after_line, after_lines, play, first_stage, after_talk, by_command}
use Rattle.inp_runs.specs.Play.{after_line_of, runs_of}
use Rattle.inp_runs.proofs.order.Calls.{exact-talk, talk_with-ends, talk_with-exact}
use Rattle.inp_runs.proofs.LinesWalk.{on_job-ends}

-- what ends one talk in a job ends the other in it
abbrev Lasts : Talk (Option Job) → Talk (Option Job) → Type 0
Lasts talk longer =
    (calls : List Call) (j : Job) → EndsWith talk calls (Some j) → EndsWith longer calls (Some j)

module _ (d : Description) (wait : Option Waiting) (skips : Bool) where
  rounds-longer : (n more : ℕ) (g : LineProgress)
      → Lasts (rounds d wait skips n g) (rounds d wait skips (n + more) g)
  unfolding rounds
  rounds-longer zero more g calls j h = let f = finished None (Some j) calls h in absurd cc
  rounds-longer (suc n) more g calls j h =
      let p = split-and_then (next_round d wait skips g) (on_turn (rounds d wait skips n)) calls (Some j) h in
      let same : suc n + more ≡ suc (n + more) = omega arith in
      rw (same, p.calls_are)
      (ends-then (next_round d wait skips g) (on_turn (rounds d wait skips (n + more))) p.between
      (Some j) p.first p.later p.first_ends
      (by_turn p.between p.later (λ (here : LineProgress) e. rounds-longer n more here p.later j e)
      p.later_ends))
    where
      by_turn : (turn : Turn) (second : List Call)
          → ((here : LineProgress) → EndsWith (rounds d wait skips n here) second (Some j)
          → EndsWith (rounds d wait skips (n + more) here) second (Some j))
          → EndsWith (on_turn (rounds d wait skips n) turn) second (Some j)
          → EndsWith (on_turn (rounds d wait skips (n + more)) turn) second (Some j)
      by_turn (goes_on here) second longer e = longer here e
      by_turn (ends_with job) second longer e = e

  hand-longer : (left : Option ℕ) (n more : ℕ) (old : Job)
      → Lasts (hand_talk d wait skips left n old) (hand_talk d wait skips left (n + more) old)
  hand-longer left n more old = by_flag (is_done left)
    where
      start : LineProgress
      start = record { job = old; left = left; agains = 0 }

      by_flag : (b : Bool)
          → Lasts (if b then finish (Some old) else rounds d wait skips n start)
          (if b then finish (Some old) else rounds d wait skips (n + more) start)
      by_flag true = λ calls j h. h
      by_flag false = rounds-longer n more start

client-longer : (d : Description) (wait : Option Waiting) (n more : ℕ) (command : Command) (old : Job)
    → Lasts (client_talk d wait n command old) (client_talk d wait (n + more) command old)
client-longer d wait n more (Next count) old = hand-longer d None false (Some count) n more old
client-longer d wait n more (Skip count) old = hand-longer d None true (Some count) n more old
client-longer d wait n more Follow old = hand-longer d wait false None n more old
client-longer d wait n more command old = λ calls j h. h

command-longer : (role : Role) (d : Description) (streams : List (List Stamped)) (wait : Option Waiting)
    (n more : ℕ) (command : Command) (old : Job)
    → Lasts (command_talk role d streams wait n command old)
    (command_talk role d streams wait (n + more) command old)
command-longer Client d streams wait n more command old = client-longer d wait n more command old
command-longer Joy d streams wait n more command old =
    λ calls j h. joystick-longer d n (n + more) command old j calls (omega arith) h
command-longer _ d streams wait n more command old = λ calls j h. h

module _ (role : Role) (d : Description) (streams : List (List Stamped)) (wait : Option Waiting)
    (n more : ℕ) where
  pub line-longer : (command : Command) (old : Job)
      → Lasts (line_talk role d streams wait n command old)
      (line_talk role d streams wait (n + more) command old)
  unfolding line_talk
  line-longer command old = by_stop old.stop
    where
      by_stop : (stop : Option Stop)
          → Lasts (unless_stopped stop old (command_talk role d streams wait n command old))
          (unless_stopped stop old (command_talk role d streams wait (n + more) command old))
      by_stop None = command-longer role d streams wait n more command old
      by_stop (Some stop) = λ calls j h. h

  lines-longer : (lines : List Line) (old : Job)
      → Lasts (lines_talk role d streams wait n lines old)
      (lines_talk role d streams wait (n + more) lines old)
  unfolding lines_talk
  lines-longer [] old calls j h = h
  lines-longer (line ∷ lines) old calls j h =
      let next : Option Job → Talk (Option Job) = on_job (lines_talk role d streams wait n lines) in
      let long : Option Job → Talk (Option Job) = on_job (lines_talk role d streams wait (n + more) lines) in
      let talk : Talk (Option Job) = line_talk role d streams wait n line.command old in
      let p = split-and_then talk next calls (Some j) h in
      rw p.calls_are
      (on_job-ends (lines_talk role d streams wait n lines) p.between p.later j p.later_ends (λ mid is e.
      ends-then (line_talk role d streams wait (n + more) line.command old) long (Some mid)
      (Some j) p.first p.later
      (line-longer line.command old p.first mid (rw is at p.first_ends))
      (lines-longer lines mid p.later j e)))

-- a line in so many rounds, and the lines behind it in so many
pub lines-next : (role : Role) (d : Description) (streams : List (List Stamped)) (wait : Option Waiting)
    (n m : ℕ) (line : Line) (lines : List Line) (old mid new : Job) (calls more : List Call)
    → EndsWith (line_talk role d streams wait n line.command old) calls (Some mid)
    → EndsWith (lines_talk role d streams wait m lines mid) more (Some new)
    → EndsWith (lines_talk role d streams wait (n + m) (line ∷ lines) old) (calls ++ more) (Some new)
unfolding lines_talk
lines-next role d streams wait n m line lines old mid new calls more h k =
    ends-then (line_talk role d streams wait (n + m) line.command old)
    (on_job (lines_talk role d streams wait (n + m) lines)) (Some mid) (Some new) calls more
    (line-longer role d streams wait n m line.command old calls mid h)
    (rw add_comm at (lines-longer role d streams wait m n lines mid more new k))

-- what ends a line whatever is answered ends it where the one-thread device answers
pub line_talk-more : (role : Role) (d : Description) (streams : List (List Stamped)) (wait : Option Waiting)
    (n k : ℕ) (command : Command) (old : Job) (past : List Step) (j : Job)
    → (talk_with d past (line_talk role d streams wait n command old)).0 ≡ Some j
    → talk_with d past (line_talk role d streams wait (n + k) command old)
    ≡ talk_with d past (line_talk role d streams wait n command old)
line_talk-more role d streams wait n k command old past j h =
    let talk : Talk (Option Job) = line_talk role d streams wait n command old in
    let more : Talk (Option Job) = line_talk role d streams wait (n + k) command old in
    let calls : List Call = calls_with d past talk in
    let behind : List Step = (talk_with d past talk).1 in
    let ends : EndsWith talk calls (Some j) = rw h at (talk_with-ends d past talk) in
    rw (
      exact-talk d past behind more calls (Some j)
          (line-longer role d streams wait n k command old calls j ends) (talk_with-exact d past talk),
      ← h,
    )

pub bind-more : {A B : Type 0} (f g : A → Option B) (o : Option A) (b : B)
    → ((a : A) → f a ≡ Some b → g a ≡ Some b) → option_and_then f o ≡ Some b → option_and_then g o ≡ Some b
bind-more f g None b more h = h
bind-more f g (Some a) b more h = more a h

map-some : {A B : Type 0} (f : A → B) (o : Option A) (b : B) → option_map f o ≡ Some b
    → (a : A) × (o ≡ Some a)
map-some f None b h = absurd cc
map-some f (Some a) b h = (a, refl)

-- a feedback call has no rounds
command-more : (o : Option ℕ) (s t : Stage) (device : ℕ) (a : ActorView) (past : List Step)
    (talked more : Option Stage) → (talked ≡ Some t → more ≡ Some t)
    → by_command o s device a past talked ≡ Some t → by_command o s device a past more ≡ Some t
command-more None s t device a past talked more longer h = longer h
command-more (Some room) s t device a past talked more longer h = h

module _ (r : RecordView) (n k : ℕ) where
  -- of a talk
  talked-more : (s t : Stage) (line : Line) (device : ℕ) (a : ActorView) (past : List Step)
      → after_talk s device a
      (talk_with a.description past (line_talk a.role a.description r.streams None n line.command a.job))
      ≡ Some t
      → after_talk s device a
      (talk_with a.description past
      (line_talk a.role a.description r.streams None (n + k) line.command a.job)) ≡ Some t
  talked-more s t line device a past h =
      let done =
      talk_with a.description past (line_talk a.role a.description r.streams None n line.command a.job) in
      let some : (j : Job) × (done.0 ≡ Some j) = map-some _ done.0 t h in
      ap (after_talk s device a)
      (line_talk-more a.role a.description r.streams None n k line.command a.job past some.0 some.1) ∙ h

  after_line_of-more : (s t : Stage) (line : Line) (device : ℕ) (a : ActorView) (past : List Step)
      → after_line_of r n s line device a past ≡ Some t
      → after_line_of r (n + k) s line device a past ≡ Some t
  after_line_of-more s t line device a past h =
      command-more (feedback_room line.command) s t device a past
      (after_talk s device a
      (talk_with a.description past (line_talk a.role a.description r.streams None n line.command a.job)))
      (after_talk s device a
      (talk_with a.description past
      (line_talk a.role a.description r.streams None (n + k) line.command a.job)))
      (talked-more s t line device a past) h

  pub after_line-more : (s t : Stage) (line : Line) → after_line r n s line ≡ Some t
      → after_line r (n + k) s line ≡ Some t
  unfolding after_line
  after_line-more s t line h =
      bind-more _ _ (slice_get r.actors line.actor) t
      (λ text. bind-more _ _ (slice_get s.actors line.actor) t
      (λ a. bind-more _ _ (slice_get s.pasts text.device) t
      (λ past. after_line_of-more s t line text.device a past))) h

  -- each line comes out the same with more rounds, and so do all in a row
  pub after_lines-more : (s t : Stage) (lines : List Line) → after_lines r n s lines ≡ Some t
      → after_lines r (n + k) s lines ≡ Some t
  unfolding after_lines
  after_lines-more s t [] h = h
  after_lines-more s t (line ∷ lines) h =
      both (λ now. after_lines-more now t lines) (after_line r n s line) refl h
    where
      both : ((now : Stage) → after_lines r n now lines ≡ Some t → after_lines r (n + k) now lines ≡ Some t)
          → (o : Option Stage) → after_line r n s line ≡ o
          → option_and_then (λ now. after_lines r n now lines) o ≡ Some t
          → option_and_then (λ now. after_lines r (n + k) now lines) (after_line r (n + k) s line) ≡ Some t
      both more None e i = absurd cc
      both more (Some now) e i =
          ap (option_and_then (λ (u : Stage). after_lines r (n + k) u lines))
          (after_line-more s now line e) ∙ more now i

-- all lines come out the same with more rounds, and so does the result
pub play-more : (n k : ℕ) (r : RecordView) (played : Played) → play n r ≡ Some played
    → play (n + k) r ≡ Some played
unfolding play
play-more n k r played h =
    let made : Stage → Played = λ (stage : Stage). played_of (runs_of r stage) in
    let some = map-some made (after_lines r n (first_stage r) r.lines) played h in
    ap (option_map made) (after_lines-more r n k (first_stage r) some.0 r.lines some.1 ∙ sym some.1) ∙ h
