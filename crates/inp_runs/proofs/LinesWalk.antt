-- The talks of an actor's lines, walked once: what has to be shown of one line, of a source's step, and of
-- its end.
use Rattle.std.proofs.Common.{◌≡◌, ℕ, List, [], ◌∷◌, refl, subst, Option, Some, None, Bool, false, true}
use Rattle.std.proofs.Common.{nat_eq, ◌++◌, append_assoc, append-nil}
use Rattle.inp_script.proofs.LineWalk.{call_if-meets}
use Rattle.inp_runs.proofs.Common.{cond_both, Step, Inject, End, Stamped, Description, Answer, is_accepted}
use Rattle.inp_runs.proofs.Common.{Command, Stream, Stream16, Line, Role, Source, Each, NO_CLIENT, Talk}
use Rattle.inp_runs.proofs.Common.{finish, and_then, EndsWith, Any, Meets, meets-then, Stop, Waiting}
use Rattle.inp_runs.proofs.Common.{line_talk, unless_stopped, Job, step_of, after_call, source_talk, end_talk}
use Rattle.inp_runs.proofs.Common.{OfJob, on_job, last_talk, lines_by, is_open_step, filter-append, Call}
use Rattle.inp_runs.proofs.Common.{finished, split-and_then}
use Rattle.inp_script.specs.Line.{stream_talk, stream_numbered}
use Rattle.inp_runs.specs.Job.{lines_talk}
use Rattle.inp_reader.proofs.Talks.{LeadsTo-append, LeadsTo-and_then}

-- of the step that a command makes, if it makes one
abbrev pub OfStep : (Step → Type 0) → Option Step → Type 0
OfStep P None = Unit {0}
OfStep P (Some x) = P x

abbrev pub is_open_if : Option Step → Bool
is_open_if None = false
is_open_if (Some x) = is_open_step x

-- these lines are of any role
pub any-lines : (lines : List Line) → Each (λ (line : Line). Unit {0}) lines
any-lines [] = tt
any-lines (line ∷ lines) = (tt, any-lines lines)

-- The steps that a source asks for have a property, N: each that injects an event, and the one of its
-- command.
module _ {S : Type 0} (R : S → Step → Answer → S → Type 0) (I : S → Job → Type 0) where
  stream-keeps : (N : Step → Type 0) → ((s t : S) (j : Job) (x : Step) (a : Answer) → N x → I s j → R s x a t
      → I t (after_call j x a))
      → ((stamped : Stamped) → N (Inject stamped.event stamped.now))
      → (stream : List Stamped) (s : S) (j : Job) → I s j → Meets Any R (OfJob I) s (stream_talk stream j)
  unfolding stream_talk
  stream-keeps N calls injects [] s j i = i
  stream-keeps N calls injects (stamped ∷ stream) s j i = (
    tt,
    λ t a by.
        let x : Step = Inject stamped.event stamped.now in
        let here : I t (after_call j x a) = calls s t j x a (injects stamped) i by in
        cond_both (is_accepted a.reply) _ _ (Meets Any R (OfJob I) t)
        (λ _. stream-keeps N calls injects stream t (after_call j x a) here) (λ _. here),
  )

  -- each call of a source keeps what is known of its job, and so does the whole line
  pub source-keeps : (N : Step → Type 0) → ((s t : S) (j : Job) (x : Step) (a : Answer) → N x → I s j
      → R s x a t → I t (after_call j x a))
      → ((stamped : Stamped) → N (Inject stamped.event stamped.now))
      → (streams : List (List Stamped)) (command : Command)
      → OfStep N (step_of NO_CLIENT command) → (s : S) (j : Job) → I s j
      → Meets Any R (OfJob I) s (source_talk streams command j)
  source-keeps N calls injects streams (Stream file index) of s j i =
      stream-keeps N calls injects (stream_numbered streams index) s j i
  source-keeps N calls injects streams (Stream16 file index) of s j i =
      stream-keeps N calls injects (stream_numbered streams index) s j i
  source-keeps N calls injects streams command of s j i =
      call_if-meets R I j (step_of NO_CLIENT command) (λ u v x a is. calls u v j x a (subst (OfStep N) is of))
      s i

  -- a job that stopped does nothing
  pub unless-keeps : (stop : Option Stop) (s : S) (j : Job) (talk : Talk (Option Job)) → I s j
      → Meets Any R (OfJob I) s talk
      → Meets Any R (OfJob I) s (unless_stopped stop j talk)
  unless-keeps None s j talk i more = more
  unless-keeps (Some stop) s j talk i more = i

  -- behind its lines a source says that it is done, where lines wait, and another one nothing
  pub last-keeps : (wait : Option Waiting) (role : Role) (s : S) (j : Job)
      → (role ≡ Source → (t : S) (a : Answer) → R s End a t → I t (after_call j End a)) → I s j
      → Meets Any R (OfJob I) s (last_talk wait role j)
  last-keeps None role s j ends i = i
  last-keeps (Some waiting) Source s j ends i = by j.stop
    where
      by : (stop : Option Stop) → Meets Any R (OfJob I) s (end_talk stop j)
      by None = (tt, ends refl)
      by (Some stop) = i
  last-keeps (Some waiting) role s j ends i = i

  -- lines, one after another, each with a command of this kind
  pub lines-keep : (C : Command → Type 0) (role : Role) (d : Description) (streams : List (List Stamped))
      (wait : Option Waiting) (n : ℕ)
      → ((command : Command) → C command → (s : S) (j : Job) → I s j
      → Meets Any R (OfJob I) s (line_talk role d streams wait n command j))
      → ((s : S) (j : Job) → I s j → Meets Any R (OfJob I) s (last_talk wait role j))
      → (lines : List Line) → Each (λ (line : Line). C line.command) lines → (s : S) (j : Job) → I s j
      → Meets Any R (OfJob I) s (lines_talk role d streams wait n lines j)
  unfolding lines_talk
  lines-keep C role d streams wait n one last [] of s j i = last s j i
  lines-keep C role d streams wait n one last (line ∷ lines) of s j i =
      meets-then Any R (OfJob I) (OfJob I) s (line_talk role d streams wait n line.command j)
      (on_job (lines_talk role d streams wait n lines))
      (one line.command of.0 s j i) (λ t o k. by t o (λ mid m. lines-keep C role d streams wait n one last
      lines of.1 t mid m) k)
    where
      by : (t : S) (o : Option Job) → ((mid : Job) → I t mid
          → Meets Any R (OfJob I) t (lines_talk role d streams wait n lines mid))
          → OfJob I t o → Meets Any R (OfJob I) t (on_job (lines_talk role d streams wait n lines) o)
      by t None more k = tt
      by t (Some mid) more k = more mid k

-- lines leave a job where the line before them did
pub on_job-ends : {R : Type 0} (next : Job → Talk (Option Job)) (o : Option Job) (calls : List Call) (k : Job)
    → EndsWith (on_job next o) calls (Some k)
    → ((mid : Job) → o ≡ Some mid → EndsWith (next mid) calls (Some k) → R) → R
on_job-ends next None calls k ends more = let f = finished None (Some k) calls ends in absurd cc
on_job-ends next (Some mid) calls k ends more = more mid refl ends

-- the calls of one line more, where nobody waits
pub lines_talk-more : (role : Role) (d : Description) (streams : List (List Stamped)) (rounds : ℕ)
    (lines : List Line) (line : Line) (first mid last : Job) (calls more : List Call)
    → EndsWith (lines_talk role d streams None rounds lines first) calls (Some mid)
    → EndsWith (line_talk role d streams None rounds line.command mid) more (Some last)
    → EndsWith (lines_talk role d streams None rounds (lines ++ line ∷ []) first) (calls ++ more) (Some last)
unfolding lines_talk
lines_talk-more role d streams rounds [] line first mid last calls more h k =
    let f = finished (Some first) (Some mid) calls h in
    let same : first ≡ mid = (let e = f.1 in cc) in
    let next : Option Job → Talk (Option Job) = on_job (lines_talk role d streams None rounds []) in
    rw (same, f.0)
    (LeadsTo-and_then (line_talk role d streams None rounds line.command mid)
    (finish (Some last)) next more k)
lines_talk-more role d streams rounds (other ∷ lines) line first mid last calls more h k =
    let talk : Talk (Option Job) = line_talk role d streams None rounds other.command first in
    let p = split-and_then talk (on_job (lines_talk role d streams None rounds lines)) calls (Some mid) h in
    let long : Option Job → Talk (Option Job) =
    on_job (lines_talk role d streams None rounds (lines ++ line ∷ [])) in
    let rest : EndsWith (long p.between) (p.later ++ more) (Some last) =
    on_job-ends (lines_talk role d streams None rounds lines) p.between p.later mid p.later_ends (λ j is e.
    rw is
    (lines_talk-more role d streams rounds lines line j mid last p.later more e k)) in
    rw (p.calls_are, append_assoc)
    (LeadsTo-append (and_then talk long) (long p.between) (finish (Some last)) p.first (p.later ++ more)
    (LeadsTo-and_then talk (finish p.between) long p.first p.first_ends) rest)

-- a line more of this actor, or of another one
pub lines_by-more : (actor : ℕ) (lines : List Line) (line : Line) → nat_eq line.actor actor ≡ true
    → lines_by actor (lines ++ line ∷ []) ≡ lines_by actor lines ++ line ∷ []
lines_by-more actor lines line h = rw (filter-append, h)

-- a line of another actor is left out
pub lines_by-other : (actor : ℕ) (lines : List Line) (line : Line) → nat_eq line.actor actor ≡ false
    → lines_by actor (lines ++ line ∷ []) ≡ lines_by actor lines
lines_by-other actor lines line h = rw (filter-append, h) (append-nil (lines_by actor lines))
