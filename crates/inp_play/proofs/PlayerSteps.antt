-- The lines of a record, one after another.
use Rattle.std.proofs.Common.{◌≡◌, ℕ, ◌+◌, ◌≤◌, List, [], ◌∷◌, ◌++◌, length, take, drop, Option, Some, None}
use Rattle.std.proofs.Common.{refl, ap, ◌∙◌, add_comm, get_or}
use Rattle.std.specs.Prelude.{slice_get, option_and_then}
use Rattle.std.proofs.Math.Seq.{take-add, drop-cons}
use Rattle.std.proofs.lemmas.Option.{get_or_from_slice_get, slice_get_within}
use Rattle.std.proofs.lemmas.List.{take_all}
use Rattle.inp_script.proofs.Common.{ActorText, Line, RecordView, IsRecord, played_of, ActorView}
use Rattle.inp_script.specs.declared.run.Played.{Played}
use Rattle.inp_runs.specs.Play.{first_stage, play, IsPlay}
use Rattle.inp_play.specs.Player.{IsPlayer, DoesOn, HasDone}
use Rattle.inp_play.specs.declared.player.Player.{Player}
use Rattle.inp_play.proofs.Common.{UdevView, Stage, after_line, after_lines, runs_of, stage_of}
use Rattle.inp_play.proofs.PlayerLines.{IsFound, found}
use Rattle.inp_runs.proofs.order.Rounds.{after_lines-more}

-- Which line it is, and what it finds

-- what was looked up in the record's lists is what the line finds
pub found_by : (r : RecordView) (p : Player) (number : ℕ) (line : Line) (text : ActorText) (a : ActorView)
    (device : UdevView) (lines : List Line) (actors : List ActorText) → IsRecord r → IsPlayer r p
    → lines ≡ r.lines → slice_get lines number ≡ Some line → actors ≡ r.actors
    → slice_get actors line.actor ≡ Some text → a ≡ get_or p.actors.items line.actor a
    → device ≡ get_or p.devices.items text.device device
    → IsFound r p.devices.items p.actors.items number line text a device
found_by r p number line text a device lines actors keeps is same is_line these is_text is_actor is_device =
    found r p.devices.items p.actors.items number line text a device keeps is.devices is.actors
    (rw (← same) is_line)
    (rw (← these) is_text) is_actor is_device

-- One after another

-- lines are done one after another, so the second ones go on from what the first ones left
pub after_lines-append : (r : RecordView) (n : ℕ) (s : Stage) (lines more : List Line)
    → after_lines r n s (lines ++ more)
    ≡ option_and_then (λ now. after_lines r n now more) (after_lines r n s lines)
unfolding after_lines
after_lines-append r n s [] more = refl
after_lines-append r n s (line ∷ lines) more =
    elim (after_line r n s line) as (λ (o : Option Stage). option_and_then
    (λ now. after_lines r n now (lines ++ more)) o ≡ option_and_then (λ now. after_lines r n now more)
    (option_and_then (λ now. after_lines r n now lines) o)) [
      | None ↦ refl
      | Some now ↦ after_lines-append r n now lines more
    ]

one_at : (lines : List Line) (i : ℕ) (line : Line) → slice_get lines i ≡ Some line
    → take 1 (drop i lines) ≡ line ∷ []
one_at lines i line h =
    rw (drop-cons lines i line (slice_get_within lines i line h), get_or_from_slice_get lines i line line h)

-- one line alone
pub one-line : (r : RecordView) (n number : ℕ) (s t : Stage) (line : Line)
    → slice_get r.lines number ≡ Some line → after_line r n s line ≡ Some t
    → after_lines r n s (take 1 (drop number r.lines)) ≡ Some t
unfolding after_lines
one-line r n number s t line there h =
    ap (after_lines r n s) (one_at r.lines number line there) ∙ ap (option_and_then (λ now. Some now)) h

-- So many lines from this number on were done, and the devices and the actors are still those of the record.
pub record IsDone (r : RecordView) (number count : ℕ) (old new : Player) : Type 0 where
  -- so many lines were done
  pub done : DoesOn r number count old new
  -- the devices and the actors are still the record's
  pub player : IsPlayer r new

-- before the first line none is done, and the stage is the first one
pub done-none : (r : RecordView) (p : Player) → IsPlayer r p → stage_of p ≡ first_stage r → HasDone r 0 p
unfolding after_lines
done-none r p is h = record { player = is; rounds = 0; does = rw (← h) }

-- the lines follow those done before, and each has as many rounds as all of them took
pub done-more : (r : RecordView) (n count : ℕ) (old new : Player) → HasDone r n old → DoesOn r n count old new
    → IsPlayer r new → HasDone r (n + count) new
done-more r n count old new done does is =
    let more : ℕ = done.rounds + does.rounds in
    let lines : List Line = take count (drop n r.lines) in
    let before : after_lines r more (first_stage r) (take n r.lines) ≡ Some (stage_of old) =
    after_lines-more r done.rounds does.rounds (first_stage r) (stage_of old) (take n r.lines) done.does in
    let last : after_lines r more (stage_of old) lines ≡ Some (stage_of new) =
    rw (add_comm done.rounds does.rounds)
    (after_lines-more r does.rounds done.rounds (stage_of old) (stage_of new) lines does.does) in
    record {
      player = is;
      rounds = more;
      does =
          ap (after_lines r more (first_stage r)) (take-add n count r.lines)
          ∙ after_lines-append r more (first_stage r) (take n r.lines) lines
          ∙ ap (option_and_then (λ now. after_lines r more now lines)) before
          ∙ last;
    }

-- all lines are done, so what was gathered is what the play comes to
pub done-all : (r : RecordView) (n : ℕ) (p : Player) (played : Played) → HasDone r n p → length r.lines ≤ n
    → played ≡ played_of (runs_of r (stage_of p)) → IsPlay r played
unfolding play
done-all r n p played done all h = record {
  rounds = done.rounds;
  plays = simp (← take_all n r.lines all, done.does, ← h);
}
