use Rattle.std.proofs.Common.{◌≡◌, List, map, ◌++◌}
use Rattle.std.proofs.lemmas.Result.{IfOk-weaker}
use Rattle.inp_script.proofs.Common.{CallMade, Notes, made_sight, effort}
use Rattle.inp_script.specs.declared.role.joystick.AfterRead.{AfterRead}
use Rattle.inp_script.specs.JoyProgress.{LeavesLess}
use Rattle.inp_script.proofs.JoyReads.{read-noted, read-begun, read-less}
use Rattle.inp_script.proofs.role.joystick.read_once.Goals as goal

-- the read's calls are noted, and then what it answered
pub returns-clause-done : goal.returns-clause-done
returns-clause-done g c =
    let a = g.E.Evdev.told c.args.dev.now in
    let b = g.E.Evdev.told c.read-read.new.dev in
    let old : Notes = c.args.notes.now in
    let made : List CallMade = c.read-read.new.self.made in
    let seen : c.push_made.new.self ≡ record old { sight = old.sight ++ map made_sight made } =
    rw (c.in_ok-push_made.ensures, c.made.ensures.made) in
    IfOk-weaker c.note_read.result _ _
    (λ (left_by : AfterRead) goes.
    read-noted a b _ _ _ old made _ _ _ c.read-read.ensures.says c.push_made.new.self c.note_read.new.self
    left_by seen goes)
    c.note_read.ensures

-- the line goes on only behind an answer that leaves less to do
pub returns-clause-less : goal.returns-clause-less
returns-clause-less g c =
    let before = effort (g.E.Evdev.told c.args.dev.now) c.args.joy.now.joying.reading in
    let after = effort (g.E.Evdev.told c.read-read.new.dev) c.read-read.new.self.joying.reading in
    IfOk-weaker c.note_read.result _ (λ (left_by : AfterRead). LeavesLess left_by after before)
    (λ (left_by : AfterRead) goes.
    read-less c.read-read.result c.read-read.new.out left_by c.push_made.new.self c.note_read.new.self
    c.read-read.new.self.joying after before goes c.read-read.ensures.less)
    c.note_read.ensures

-- the read's calls were made, though memory ran out while they were noted
pub returns-in_err-push_made-clause-begun : goal.returns-in_err-push_made-clause-begun
returns-in_err-push_made-clause-begun g c = read-begun _ _ _ _ _ _ _ _ _ _ c.read-read.ensures.says

-- the read's calls are those of one round, noted or not
pub returns-clause-begun : goal.returns-clause-begun
returns-clause-begun g c = read-begun _ _ _ _ _ _ _ _ _ _ c.read-read.ensures.says
