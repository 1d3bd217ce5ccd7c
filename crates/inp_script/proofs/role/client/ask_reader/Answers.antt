use Rattle.std.proofs.Common.{◌≡◌, ℕ, List, map, ◌++◌, false}
use Rattle.std.proofs.lemmas.Result.{IfOk-weaker}
use Rattle.inp_reader.specs.Effort.{is_idle}
use Rattle.inp_script.specs.Effort.{Shrinks}
use Rattle.inp_script.proofs.Common.{Description, EvdevView, CallMade, ReaderState, next_talk, mode_of}
use Rattle.inp_script.proofs.Common.{turn_of}
use Rattle.inp_script.proofs.Common.{job_of, made_sight, effort, total_effort}
use Rattle.inp_reader.specs.FollowsTalk.{FollowsTalk}
use Rattle.inp_script.specs.declared.role.client.Turn.{Turn}
use Rattle.inp_script.proofs.Noted.{round-noted, round-begun}
use Rattle.inp_script.proofs.Turns.{mode_of-busy, turn-shrinks}
use Rattle.inp_script.proofs.role.client.ask_reader.Goals as goal

pub returns-clause-turn : goal.returns-clause-turn
returns-clause-turn g c =
    let a : EvdevView = g.E.Evdev.told c.args.dev.now in
    let b : EvdevView = g.E.Evdev.told c.next-next.new.dev in
    let r : ReaderState = c.args.reader.now.reading in
    let s : ReaderState = c.next-next.new.self.reading in
    let d : Description = c.args.reader.now.description in
    let made : List CallMade = c.next-next.new.self.made in
    let mode : c.mode_of-mode.result ≡ mode_of c.args.skips r.phase =
    rw (c.mode_of-mode.ensures, c.phase.ensures.phase) in
    let says : FollowsTalk a b _ made (next_talk d (mode_of c.args.skips r.phase) r) (c.next-next.result, s) =
    rw mode at c.next-next.ensures.says in
    let seen : c.push_made.new.self
    ≡ record c.args.notes.now { sight = c.args.notes.now.sight ++ map made_sight made } =
    rw (c.in_ok-push_made.ensures, c.made.ensures.made) in
    IfOk-weaker c.note_next.result _ _
    (λ (turn : Turn) is.
    round-noted a b d c.args.wait c.args.skips r s c.args.notes.now c.push_made.new.self made
    c.args.progress.left c.args.progress.agains c.next-next.result
    (turn_of turn (job_of s c.note_next.new.self)) says seen (is s))
    c.note_next.ensures.turn

pub returns-clause-shrinks : goal.returns-clause-shrinks
returns-clause-shrinks g c =
    let r : ReaderState = c.args.reader.now.reading in
    let s : ReaderState = c.next-next.new.self.reading in
    let before : ℕ = effort (g.E.Evdev.told c.args.dev.now) r in
    let after : ℕ = effort (g.E.Evdev.told c.next-next.new.dev) s in
    let mode : c.mode_of-mode.result ≡ mode_of c.args.skips r.phase =
    rw (c.mode_of-mode.ensures, c.phase.ensures.phase) in
    let busy : is_idle c.mode_of-mode.result r.phase ≡ false = rw mode (mode_of-busy c.args.skips r.phase) in
    IfOk-weaker c.note_next.result _
    (Shrinks c.args.wait (total_effort c.args.wait before c.args.progress.agains) after)
    (λ (turn : Turn) is.
    turn-shrinks c.args.wait c.args.progress.left c.args.progress.agains c.next-next.result
    (job_of s c.push_made.new.self) (job_of s c.note_next.new.self) turn after before (is s)
    (c.next-next.ensures.less busy))
    c.note_next.ensures.turn

-- the reader's calls were made, though memory ran out while they were noted
pub returns-in_err-push_made-clause-begun : goal.returns-in_err-push_made-clause-begun
returns-in_err-push_made-clause-begun g c =
    round-begun _ _ c.args.reader.now.description c.args.wait c.args.skips c.args.reader.now.reading _
    c.args.notes.now _ c.args.progress.left c.args.progress.agains _ c.mode_of-mode.result
    (rw (c.mode_of-mode.ensures, c.phase.ensures.phase)) c.next-next.ensures.says

-- the reader's calls are those of the round, noted or not
pub returns-clause-begun : goal.returns-clause-begun
returns-clause-begun g c =
    round-begun _ _ c.args.reader.now.description c.args.wait c.args.skips c.args.reader.now.reading _
    c.args.notes.now _ c.args.progress.left c.args.progress.agains _ c.mode_of-mode.result
    (rw (c.mode_of-mode.ensures, c.phase.ensures.phase)) c.next-next.ensures.says
