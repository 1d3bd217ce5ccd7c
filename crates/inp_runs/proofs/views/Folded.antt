-- The view of a job is the fold of its whole sight.
use Rattle.std.proofs.Common.{◌≡◌, ℕ, suc, true, nat_eq, List, [], ◌∷◌, refl, Option, Some}
use Rattle.std.specs.Prelude.{slice_get}
use Rattle.inp_runs.proofs.Common.{cond_both, eqb-true, Stamped, Step, Description, Call, IsLegalFrom}
use Rattle.inp_runs.proofs.Common.{IsLegalRun, next_place, ActorText, Line, Role, is_command_of, RecordView}
use Rattle.inp_runs.proofs.Common.{IsRecord, Each, EndsWith, Waiting, line_talk, Job, first_job, lines_by}
use Rattle.inp_runs.proofs.Common.{last_talk, lines_talk, Any, Meets, meets-ends, OfJob, job-ends-meet}
use Rattle.inp_script.specs.Fold.{IsFolded}
use Rattle.inp_script.proofs.Folds.{ArePlaced, Placed, placed-run, run-placed}
use Rattle.inp_script.proofs.LineFolds.{line_talk-folds, is_folded-first}
use Rattle.inp_runs.proofs.LinesWalk.{lines-keep, last-keeps}

-- each call of a legal run has its place
pub legal-placed : (d : Description) (h : List Step) (least : ℕ) (calls : List Call)
    → IsLegalFrom d h least calls → ArePlaced d h calls
legal-placed d h least [] l = tt
legal-placed d h least (call ∷ calls) l = (l.1, legal-placed d h (next_place call.answer.reply) calls l.2)

-- each line is one that the role has
abbrev pub AreOfRole : Role → List Line → Type 0
AreOfRole role lines = Each (λ (line : Line). is_command_of role line.command ≡ true) lines

lines-folded : (role : Role) (d : Description) (h : List Step) (streams : List (List Stamped))
    (wait : Option Waiting) (rounds : ℕ) (lines : List Line) (j k : Job) (calls : List Call)
    → AreOfRole role lines → ArePlaced d h calls
    → EndsWith (lines_talk role d streams wait rounds lines j) calls (Some k) → IsFolded role d h j
    → IsFolded role d h k
lines-folded role d h streams wait rounds lines j k calls of_role placed ends fold =
    meets-ends Any (Placed d h) (OfJob Folds) tt tt
    (lines_talk role d streams wait rounds lines j) calls (Some k)
    (lines-keep (Placed d h) Folds (λ command. is_command_of role command ≡ true) role d streams wait rounds
    (λ command of u i had. job-ends-meet (Placed d h) Folds u (line_talk role d streams wait rounds command i)
    (λ v cs l run e. line_talk-folds role d h streams wait rounds command i l cs of
    (run-placed d h u v cs run) e had))
    last lines of_role tt j fold)
    (placed-run d h calls placed) ends
  where
    Folds : Unit {0} → Job → Type 0
    Folds u i = IsFolded role d h i

    last : (u : Unit {0}) (i : Job) → Folds u i → Meets Any (Placed d h) (OfJob Folds) u
        (last_talk wait role i)
    last u i had = last-keeps (Placed d h) Folds wait role u i
        (λ e v a there. rw e
        (rw e at had)) had

-- the lines of an actor are such
pub its_lines : (r : RecordView) (actor : ℕ) (text : ActorText) → slice_get r.actors actor ≡ Some text
    → (lines : List Line)
    → ((i : ℕ) (line : Line) (its : ActorText) → slice_get lines i ≡ Some line
    → slice_get r.actors line.actor ≡ Some its → is_command_of its.role line.command ≡ true)
    → AreOfRole text.role (lines_by actor lines)
its_lines r actor text is [] h = tt
its_lines r actor text is (line ∷ lines) h =
    (cond_both (nat_eq line.actor actor) _ _ (λ x. AreOfRole text.role (lines_by actor lines)
    → AreOfRole text.role x)
    (λ e more. (h 0 line text refl (rw (eqb-true line.actor actor e) is), more))
    (λ e more. more)) (its_lines r actor text is lines (λ i l its e. h (suc i) l its e))

-- the first view is the fold of no sight, and each line of the role keeps the view the fold
pub view-folded : (r : RecordView) (d : Description) (h : List Step) (wait : Option Waiting)
    (rounds actor : ℕ) (text : ActorText) (last : Job) (calls : List Call) → IsRecord r
    → slice_get r.actors actor ≡ Some text → IsLegalRun d h calls
    → EndsWith (lines_talk text.role d r.streams wait rounds (lines_by actor r.lines) (first_job text.role d))
    calls (Some last) → IsFolded text.role d h last
view-folded r d h wait rounds actor text last calls is_record is_text legal follows =
    lines-folded text.role d h r.streams wait rounds (lines_by actor r.lines)
    (first_job text.role d) last calls
    (its_lines r actor text is_text r.lines is_record.commands)
    (legal-placed d h 0 calls legal) follows (is_folded-first text.role d h (first_job text.role d) refl)
