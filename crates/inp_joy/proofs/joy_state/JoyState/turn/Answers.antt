use Rattle.std.proofs.Common.{sym, subst, Some, refl}
use Rattle.inp_joy.specs.declared.joy_state.JoyState.{JoyState}
use Rattle.inp_joy.specs.Joy.{next_in_startup}
use Rattle.inp_joy.specs.JoyState.{kept_joying, turn_of_end, ReaderCalls, TurnEndPictures}
use Rattle.inp_joy.proofs.ReaderCalls.{calls-none, calls-weaker}
use Rattle.inp_joy.proofs.Outcomes.{hand_out_record-pictures, shows-pictures, startup-less}
use Rattle.inp_joy.proofs.TurnEnds.{over-none, startup_over, record-pictured, turn-pictured, outcome-pictured}
use Rattle.inp_joy.proofs.TurnCases.{says-turn, says-startup}
use Rattle.inp_joy.proofs.joy_state.JoyState.turn.Goals as goal

pub go_on-requires-clause-few : goal.go_on-requires-clause-few
go_on-requires-clause-few g c =
    let d = c.args.self.now.reader.description in
    c.requires.short
    (startup_over d (kept_joying c.args.self.now)
    (over-none d c.args.self.now.reader.reading.view c.args.self.now.handed c.in-None.ensures.found))

-- the startup record that is there is handed out, without a call
pub returns-in-Some-clause-says : goal.returns-in-Some-clause-says
returns-in-Some-clause-says g c =
    let d = c.args.self.now.reader.description in
    says-turn _ _ _ _ d (kept_joying c.args.self.now) (Some c.in-Some.joy_record) _ c.in-Some.ensures.found
    (says-startup _ _ _ d (kept_joying c.args.self.now) c.in-Some.joy_record _
    (rw c.hand_startup.ensures.rest) c.hand_startup.ensures.turn)

-- no call was made, and a record handed out is no frame
pub returns-in-Some-clause-calls : goal.returns-in-Some-clause-calls
returns-in-Some-clause-calls g c =
    let a = g.E.Evdev.told c.args.dev.now in
    let d = c.args.self.now.reader.description in
    let k = kept_joying c.hand_startup.new.self in
    subst (λ (s : JoyState).
    ReaderCalls a a c.args.self.now.made s.made d c.args.self.now.reader.reading s.reader.reading
    (TurnEndPictures a d k c.hand_startup.result)) (sym c.hand_startup.ensures.rest)
    (calls-none a c.args.self.now.made d c.args.self.now.reader.reading
    (TurnEndPictures a d k c.hand_startup.result)
    (hand_out_record-pictures a d
    (next_in_startup (kept_joying c.args.self.now)) k c.in-Some.joy_record c.hand_startup.result
    c.hand_startup.ensures.turn))

pub returns-in-Some-clause-pictured : goal.returns-in-Some-clause-pictured
returns-in-Some-clause-pictured g c =
    let d = c.args.self.now.reader.description in
    let j = kept_joying c.args.self.now in
    let k = kept_joying c.hand_startup.new.self in
    outcome-pictured d k c.hand_startup.result
    (rw c.hand_startup.ensures.turn
    (record-pictured d j c.in-Some.joy_record (sym c.in-Some.ensures.found) c.requires.pictured, tt))

pub returns-in-None-clause-calls : goal.returns-in-None-clause-calls
returns-in-None-clause-calls g c =
    let b = g.E.Evdev.told c.go_on.new.dev in
    let d = c.args.self.now.reader.description in
    let k = kept_joying c.go_on.new.self in
    let shown =
    turn-pictured d (kept_joying c.args.self.now) c.go_on.ensures.says.calls
    (turn_of_end c.go_on.result k) c.requires.state.view.sized c.requires.pictured c.in-None.ensures.found
    c.go_on.ensures.says.talk_ends in
    calls-weaker _ _ _ _ _ _ _ _ _
    (λ shows. shows-pictures b d c.go_on.new.self.reader k c.go_on.result refl
    c.go_on.ensures.state.description shown shows) c.go_on.ensures.calls

pub returns-in-None-clause-pictured : goal.returns-in-None-clause-pictured
returns-in-None-clause-pictured g c =
    let d = c.args.self.now.reader.description in
    let k = kept_joying c.go_on.new.self in
    outcome-pictured d k c.go_on.result
    (turn-pictured d (kept_joying c.args.self.now) c.go_on.ensures.says.calls
    (turn_of_end c.go_on.result k) c.requires.state.view.sized c.requires.pictured c.in-None.ensures.found
    c.go_on.ensures.says.talk_ends)

-- a turn that hands out a record needs no measure
pub returns-in-Some-clause-less : goal.returns-in-Some-clause-less
returns-in-Some-clause-less g c =
    startup-less (next_in_startup (kept_joying c.args.self.now))
    (kept_joying c.hand_startup.new.self) c.in-Some.joy_record c.hand_startup.result _ _
    c.hand_startup.ensures.turn
