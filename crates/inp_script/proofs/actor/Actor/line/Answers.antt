use Rattle.std.proofs.Common.{◌≡◌, rules, true, false, ℕ}
use Rattle.std.specs.Prelude.{Some, OnOk, is_some}
use Rattle.std.specs.List.{slice_get}
use Rattle.std.proofs.lemmas.Option.{slice_get_within}
use Rattle.std.proofs.lemmas.Result.{on_ok_weaker}
use Rattle.inp_model.proofs.Leaves.{left-none}
use Rattle.inp_script.proofs.Common.{Line, Job, ActorView, job_in, Begins, BeginsLine, IsCommandFor}
use Rattle.inp_script.proofs.Common.{command_talk}
use Rattle.inp_script.proofs.TalkCalls.{begins-none, begins-left}
use Rattle.inp_script.proofs.Lines.{begins-line}
use Rattle.inp_script.proofs.LinesDone.{IsLineDone, command-of, line-stopped, line-went_on}
use Rattle.inp_script.proofs.actor.Actor.line.Goals as goal

-- an actor that stopped makes no call at a line
pub returns-then-is_some : goal.returns-then-is_some
returns-then-is_some g c =
    let actor : ActorView = c.args.self.now in
    let stopped : is_some actor.job.stop ≡ true =
    rw (← c.self.view_is, ← c.is_some.ensures) c.if-is_some.true in
    let all =
    line-stopped (g.E.Evdev.told c.args.dev.now) actor c.args.rec.now c.args.wait c.args.line
    c.requires.device c.lines.ensures.«record» c.requires.actor c.requires.line stopped in
    record {
      done = all.done;
      begun = record {
        line = c.requires.line.line;
        is_line = c.requires.line.is_line;
        rounds = 0;
        begins = begins-none _ _;
      };
      places = all.places;
      legal = all.legal;
      view = all.view;
      turns = all.turns;
      actor = search rules;
      left = left-none _;
    }

-- the record has the line of that number
pub get-requires : goal.get-requires
get-requires g c =
    record {
      within =
          slice_get_within c.lines.result.now c.args.line c.requires.line.line
          (rw c.lines.ensures.lines c.requires.line.is_line);
    }

pub do_command-requires-clause-command : goal.do_command-requires-clause-command
do_command-requires-clause-command g c =
    let got : Line = c.get.result.now in
    let is_line : slice_get c.args.rec.now.lines c.args.line ≡ Some got =
    rw (← c.lines.ensures.lines) c.get.ensures.item in
    rw (← c.self.view_is) at
    (command-of c.args.rec.now c.args.self.now c.args.line got c.lines.ensures.«record» c.requires.actor
    c.requires.line is_line)

-- an actor that goes on does the line by its command
pub returns : goal.returns
returns g c =
    let a = g.E.Evdev.told c.args.dev.now in
    let b = g.E.Evdev.told c.do_command.new.dev in
    let r = c.args.rec.now in
    let actor : ActorView = c.args.self.now in
    let new : Job = job_in c.do_command.new.self c.do_command.new.notes in
    let got : Line = c.get.result.now in
    let is_line : slice_get r.lines c.args.line ≡ Some got =
    rw (← c.lines.ensures.lines) c.get.ensures.item in
    let command : IsCommandFor actor.role r.streams got.command =
    command-of r actor c.args.line got c.lines.ensures.«record» c.requires.actor c.requires.line is_line in
    let goes : is_some actor.job.stop ≡ false =
    rw (← c.self.view_is, ← c.is_some.ensures) c.if-is_some.false in
    let all : OnOk c.do_command.result (IsLineDone a b actor r c.args.wait c.args.line new) =
    on_ok_weaker c.do_command.result
    (λ does. line-went_on a b actor r c.args.wait c.args.line got new c.requires.device is_line command goes
    (rw (← c.self.view_is) does))
    c.do_command.ensures.done in
    let some_rounds : (n : ℕ) × Begins a b
    (command_talk actor.role actor.description r.streams c.args.wait n got.command actor.job) =
    rw (← c.self.view_is) c.do_command.ensures.begun in
    let begun : BeginsLine a b actor r c.args.wait c.args.line =
    begins-line actor r c.args.wait c.args.line got is_line a b some_rounds.0 goes some_rounds.1 in
    record {
      done = on_ok_weaker c.do_command.result (λ h. h.done) all;
      begun = begun;
      places = on_ok_weaker c.do_command.result (λ h. h.places) all;
      legal = on_ok_weaker c.do_command.result (λ h. h.legal) all;
      view = on_ok_weaker c.do_command.result (λ h. h.view) all;
      turns = on_ok_weaker c.do_command.result (λ h. h.turns) all;
      actor = search rules;
      left = begins-left _ _ _ begun.begins;
    }
