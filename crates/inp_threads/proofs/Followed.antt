-- An actor that did all its lines followed them on the whole history, of which it saw a beginning.
use Rattle.std.proofs.Common.{◌≡◌, ℕ, false, List, [], ◌∷◌, reverse, sym, ap, ◌∙◌, Option, Some}
use Rattle.std.specs.Prelude.{slice_get}
use Rattle.std.specs.List.{count_by}
use Rattle.std.proofs.lemmas.List.{reverse-reverse}
use mathlib.Core.List.{IsPrefix}
use Rattle.inp_model.specs.Run.{next_place}
use Rattle.inp_script.proofs.Common.{Step, Description, ActorText, is_owner, RecordView, IsRecord, UEntry}
use Rattle.inp_script.proofs.Common.{step_made, ActorView, Job, first_job, BeginsWith, Call, IsLegalFrom}
use Rattle.inp_script.proofs.Common.{ended_of, Owner, LeadsTo}
use Rattle.inp_model.proofs.Leaves.{HasPlace-longer}
use Rattle.inp_runs.specs.Done.{HasFollowed}
use Rattle.inp_runs.specs.Job.{calls_at, is_entry_at, lines_by}
use Rattle.inp_threads.proofs.Common.{rooms_of, PassView, OwnsSeen, steps_among, step_places, HasWorked}
use Rattle.inp_threads.proofs.Common.{HasOwnedLines, Waiting}
use Rattle.inp_runs.proofs.Done.{followed-told}
use Rattle.inp_runs.proofs.DoingAll.{no-owner}
use Rattle.inp_runs.proofs.Entries.{told-counts}
use Rattle.inp_runs.proofs.owners.OwnerTalks.{lines-nothing}
use Rattle.inp_port.proofs.Places.{steps-begins, step_places-begins}
use Rattle.inp_threads.proofs.CallsAt.{HasAllCalls, calls-no_steps, lines-owned}
use Rattle.inp_threads.proofs.Counts.{times, times-calls}
use Rattle.inp_script.specs.Ended.{HasDeviceSlots}

-- a call that has its place in a history has it in a longer one
pub legal-longer : (d : Description) (h k : List Step) (least : ℕ) (calls : List Call) → BeginsWith h k
    → IsLegalFrom d h least calls → IsLegalFrom d k least calls
legal-longer d h k least [] begins l = tt
legal-longer d h k least (call ∷ calls) begins l = (
  l.0,
  HasPlace-longer d h k call begins l.1,
  legal-longer d h k (next_place call.answer.reply) calls begins l.2,
)

module _ (r : RecordView) (d : Description) (wait : Option Waiting) (a : ActorView)
    (view : PassView Description UEntry) (entries : List UEntry) (text : ActorText)
    (is_role : a.role ≡ text.role) (begins : IsPrefix view.seen entries)
    (cells : HasDeviceSlots d (ended_of a)) where
  -- a caller followed its lines on the steps of all entries that begin with what it saw
  abbrev pub caller-followed : is_owner text.role ≡ false → HasWorked r d wait a view
      → HasFollowed r d wait (steps_among step_made entries) text.role a
  caller-followed caller w =
      let begun = steps-begins step_made view.seen entries begins in
      record {
        calls = w.calls;
        legal =
            legal-longer d (steps_among step_made view.seen) (steps_among step_made entries) 0 w.calls
            (begun.0, sym begun.1) w.legal;
        rounds = w.rounds;
        follows = rw is_role at w.follows;
        is_role = is_role;
        cells = cells;
        owned = λ owner. absurd (no-owner text.role caller owner);
      }

  -- an owner made no calls of an evdev, and all feedback calls
  pub owner-followed : text.role ≡ Owner → HasOwnedLines r d a view → HasAllCalls (reverse entries) view.own
      → HasFollowed r d wait (steps_among step_made entries) text.role a
  unfolding LeadsTo
  owner-followed owner w all = record {
    calls = [];
    legal = tt;
    rounds = 0;
    follows =
        rw (owner, lines-nothing d r.streams wait 0 (lines_by a.actor r.lines) (first_job Owner d), ← w.job);
    is_role = is_role;
    cells = cells;
    owned = λ _. lines-owned d (rooms_of (lines_by a.actor r.lines)) view entries a.owning w.fed begins all;
  }

  module _ (owns : OwnsSeen view) where
    -- a caller has as many accepted calls at a place as its pass owns it among the steps
    pub caller-counts : is_owner text.role ≡ false → HasWorked r d wait a view → IsRecord r
        → slice_get r.actors a.actor ≡ Some text → (place : ℕ)
        → calls_at place a ≡ times place (step_places step_made entries view.own)
    caller-counts caller w is_record is_text = λ place.
        sym (told-counts wait w.calls a.job.sight
        (followed-told r d wait (steps_among step_made entries) text a is_record is_text
        (caller-followed caller w)) place)
        ∙ sym (times-calls place w.calls)
        ∙ ap (times place) (sym w.own
        ∙ sym (step_places-begins step_made view.seen entries view.own begins owns))

    -- and an owner has none
    pub owner-counts : HasOwnedLines r d a view → (place : ℕ)
        → calls_at place a ≡ times place (step_places step_made entries view.own)
    owner-counts w = λ place.
        let none : step_places step_made entries view.own ≡ [] =
        step_places-begins step_made view.seen entries view.own begins owns
        ∙ ap (λ (es : List UEntry). step_places step_made es view.own) (sym (reverse-reverse view.seen))
        ∙ calls-no_steps d (reverse view.seen) view.own w.fed.done w.fed.before w.fed.calls in
        ap (λ (j : Job). count_by (is_entry_at place) j.sight) w.job ∙ ap (times place) (sym none)
