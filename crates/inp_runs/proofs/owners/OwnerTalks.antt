-- An owner's lines are no calls of an evdev.
use Rattle.std.proofs.Common.{◌≡◌, ℕ, List, [], ◌∷◌, refl, Option, Some, None}
use Rattle.inp_runs.proofs.Common.{Stamped, Description, Call, Line, Owner, finish, EndsWith, Stop, Waiting}
use Rattle.inp_runs.proofs.Common.{unless_stopped, Job, first_job, finished, last_talk}
use Rattle.inp_script.specs.DoneLine.{line_talk}
use Rattle.inp_runs.specs.Job.{lines_talk}

last-nothing : (wait : Option Waiting) (j : Job) → last_talk wait Owner j ≡ finish (Some j)
last-nothing None j = refl
last-nothing (Some waiting) j = refl

-- where nothing is asked, a job that stopped and one that goes on do the same
pub stopped-nothing : (stop : Option Stop) (j : Job) → unless_stopped stop j (finish (Some j)) ≡ finish
    (Some j)
stopped-nothing None j = refl
stopped-nothing (Some stop) j = refl

-- the lines of an owner end at once, in the job that it had
pub lines-nothing : (d : Description) (streams : List (List Stamped)) (wait : Option Waiting) (n : ℕ)
    (lines : List Line) (j : Job) → lines_talk Owner d streams wait n lines j ≡ finish (Some j)
unfolding lines_talk line_talk
lines-nothing d streams wait n [] j = last-nothing wait j
lines-nothing d streams wait n (line ∷ lines) j = rw stopped-nothing (lines-nothing d streams wait n lines j)

-- so an owner sees nothing
pub owner-silent : (d : Description) (streams : List (List Stamped)) (wait : Option Waiting) (n : ℕ)
    (lines : List Line) (k : Job) (calls : List Call)
    → EndsWith (lines_talk Owner d streams wait n lines (first_job Owner d)) calls (Some k) → k.sight ≡ []
owner-silent d streams wait n lines k calls h =
    let first : Job = first_job Owner d in
    let ends : EndsWith (finish (Some first)) calls (Some k) = rw lines-nothing at h in
    let f = finished (Some first) (Some k) calls ends in
    let same : first ≡ k = (let e = f.1 in cc) in
    rw (← same)
