use Rattle.std.proofs.Common.{◌≡◌, ◌≤◌, ◌-◌, length, take}
use Rattle.inp_script.specs.ActorLine.{IsActedOn}
use Rattle.inp_runs.specs.Job.{lines_by}
use Rattle.inp_runs.proofs.DoingAll.{AreDone}
use Rattle.inp_runs.proofs.actor_lines.do_lines.Given as goal

abbrev pub invariant-loop-from : goal.invariant-loop-from
invariant-loop-from g l = record {
  within : l.from ≤ length l.lines;
  done : AreDone g.D.Evdev.told g.D.Feeds.feeds l.rec l.wait l.initial.dev l.dev
      (take l.from (lines_by l.number l.rec.lines)) l.initial.actor l.actor;
  actor : l.actor ≡ record l.initial.actor { job = l.actor.job; owning = l.actor.owning };
  left : IsActedOn g.D.Evdev.told g.D.Feeds.feeds l.initial.actor.role l.initial.dev l.dev;
}

abbrev pub decreases-loop-from : goal.decreases-loop-from
decreases-loop-from g l = length l.lines - l.from
