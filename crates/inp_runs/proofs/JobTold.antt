-- What the sight of a job tells of its calls.
use Rattle.std.proofs.Common.{◌≡◌, ℕ, List, [], ◌∷◌, ◌++◌, refl, sym, subst, Option, Some, None}
use Rattle.inp_script.proofs.Told.{Tells, tells-then, tells-call, tells-none}
use Rattle.inp_reader.proofs.Meets.{run-listed}
use Rattle.inp_runs.proofs.Common.{Stamped, Description, Call, Line, Role, IsSizedFor-first_view, Talk}
use Rattle.inp_runs.proofs.Common.{EndsWith, Waiting, line_talk, Job, first_job, lines_talk, AreTold, Any}
use Rattle.inp_runs.proofs.Common.{Listed, Meets, listed-run, meets-ends, OfJob, job-ends-meet, End}
use Rattle.inp_runs.proofs.Common.{after_call, Answer}
use Rattle.inp_script.proofs.LineTold.{line-told}
use Rattle.inp_runs.proofs.memory.ReaderTalks.{AreAnswered, leaves-ends}
use Rattle.inp_runs.proofs.memory.LineTalks.{IsKept, IsKeptIfSome, leaves-lines}
use Rattle.inp_runs.proofs.LinesWalk.{any-lines, last-keeps, lines-keep}

-- these calls made the sight of the job
abbrev ToldBy : List Call → Job → Type 0
ToldBy calls j = Tells calls [] j.sight

-- what a talk adds to it
tells-more : (s : List Call) (j : Job) (talk : Talk (Option Job)) → ToldBy s j
    → ((calls : List Call) (k : Job) → EndsWith talk calls (Some k) → Tells calls j.sight k.sight)
    → Meets Any Listed (OfJob ToldBy) s talk
tells-more s j talk told more =
    job-ends-meet Listed ToldBy s talk (λ t calls k run ends.
    rw (run-listed s t calls run)
    (tells-then s calls [] j.sight k.sight told (more calls k ends)))

lines-told : (role : Role) (d : Description) (streams : List (List Stamped)) (wait : Option Waiting) (n : ℕ)
    (lines : List Line) (j k : Job) (calls : List Call) → j.sight ≡ []
    → EndsWith (lines_talk role d streams wait n lines j) calls (Some k) → ToldBy calls k
lines-told role d streams wait n lines j k calls none h =
    meets-ends Any Listed (OfJob ToldBy) [] calls (lines_talk role d streams wait n lines j) calls (Some k)
    (lines-keep Listed ToldBy (λ command. Unit {0}) role d streams wait n
    (λ command any s i told. tells-more s i (line_talk role d streams wait n command i) told
    (λ cs l. line-told role d streams wait n command i l cs))
    (λ s i told. last-keeps Listed ToldBy wait role s i (λ e t a by. called s t i a by told) told)
    lines (any-lines lines) [] j (subst (Tells [] []) (sym none) (tells-none []))) (listed-run [] calls) h
  where
    called : (s t : List Call) (i : Job) (a : Answer) → Listed s End a t → ToldBy s i
        → ToldBy t (after_call i End a)
    called s t i a by told =
        rw by
        (tells-then s (record { step = End; answer = a } ∷ []) [] i.sight (after_call i End a).sight told
        (tells-call End (record { step = End; answer = a }) i.sight refl))

-- each call adds its own entry to the sight; where lines wait, some answers Again are left out
pub job-told : (role : Role) (d : Description) (streams : List (List Stamped)) (wait : Option Waiting) (n : ℕ)
    (lines : List Line) (k : Job) (calls : List Call) → AreAnswered d calls
    → EndsWith (lines_talk role d streams wait n lines (first_job role d)) calls (Some k)
    → AreTold wait calls k.sight
job-told role d streams None n lines k calls answered h =
    let kept : IsKept d k ([] ++ _) =
    leaves-ends d (IsKeptIfSome d) [] (lines_talk role d streams None n lines (first_job role d)) calls
    (Some k) answered h
    (leaves-lines role d streams n lines (first_job role d) [] (IsSizedFor-first_view d, refl)) in
    sym kept.1
job-told role d streams (Some waiting) n lines k calls answered h =
    let t : Tells calls [] k.sight =
    lines-told role d streams (Some waiting) n lines (first_job role d) k calls refl h in
    record { kept = t.kept; part = t.part; entries = rw (t.entries, ← t.sight) }
