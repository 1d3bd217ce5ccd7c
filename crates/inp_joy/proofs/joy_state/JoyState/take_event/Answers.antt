use Rattle.std.proofs.Common.{refl, ap, arith}
use Rattle.inp_joy.specs.declared.joy_state.JoyState.{JoyState}
use Rattle.inp_joy.specs.JoyState.{kept_joying}
use Rattle.inp_joy.proofs.ReaderCalls.{calls-then, calls-weaker}
use Rattle.inp_joy.proofs.Outcomes.{next-less, less-then, next-shows}
use Rattle.inp_joy.proofs.Nexts.{lost-needed}
use Rattle.inp_joy.proofs.TurnCases.{says-event_lost, says-event}
use Rattle.inp_joy.proofs.joy_state.JoyState.take_event.Goals as goal

pub synchronise-requires-clause-needed : goal.synchronise-requires-clause-needed
synchronise-requires-clause-needed g c =
    lost-needed c.args.self.now.reader.description c.args.self.now.reader.reading
    c.next-next.new.self.reader.reading c.in-Dropped.ensures.says.calls c.in-Dropped.event c.requires.plain
    c.in-Dropped.ensures.says.talk_ends

pub returns-in-Dropped-clause-says : goal.returns-in-Dropped-clause-says
returns-in-Dropped-clause-says g c =
    let k = kept_joying c.next-next.new.self in
    says-event_lost _ _ _ _ _ _ c.args.self.now.reader.description
    (kept_joying c.args.self.now) k c.in-Dropped.event
    c.next-next.new.self.reader.reading _ c.in-Dropped.ensures.says
    (rw c.in-Dropped.ensures.rest)
    (rw c.in-Dropped.ensures.state.description at c.synchronise.ensures.says)

pub returns-in-Dropped-clause-calls : goal.returns-in-Dropped-clause-calls
returns-in-Dropped-clause-calls g c =
    calls-then _ _ _ _ _ _ c.args.self.now.reader.description _ _ _ _ _ c.in-Dropped.ensures.calls
    (rw c.in-Dropped.ensures.state.description at c.synchronise.ensures.calls)

pub returns-in_default-clause-says : goal.returns-in_default-clause-says
returns-in_default-clause-says g c =
    let d = c.args.self.now.reader.description in
    let mid = c.next-next.new.self in
    rw (ap (λ (s : JoyState). s.made) c.after_next.ensures.rest)
    (says-event _ _ _ _ d (kept_joying c.args.self.now)
    (kept_joying mid) c.next-next.result mid.reader.reading _
    c.next-next.ensures.says c.in_default.not-Dropped
    (rw c.next-next.ensures.rest)
    (rw c.next-next.ensures.state.description at c.after_next.ensures.turn))

pub returns-in_default-clause-calls : goal.returns-in_default-clause-calls
returns-in_default-clause-calls g c =
    let mid = c.next-next.new.self in
    let after = kept_joying c.after_next.new.self in
    let shows =
    next-shows (g.E.Evdev.told c.next-next.new.dev) mid.reader mid.reader.description
    (kept_joying mid) after c.next-next.result c.after_next.result in
    rw (
      ap (λ (s : JoyState). s.made) c.after_next.ensures.rest,
      ap (λ (s : JoyState). s.reader) c.after_next.ensures.rest,
    )
    (calls-weaker _ _ _ _ _ _ _ _ _
    (λ shown. shows c.after_next.ensures.turn shown) c.next-next.ensures.calls)

pub returns-in-Dropped-clause-less : goal.returns-in-Dropped-clause-less
returns-in-Dropped-clause-less g c =
    less-then c.synchronise.result _ _ _ c.synchronise.ensures.less
    (omega (arith, c.in-Dropped.ensures.less refl))

pub returns-in_default-clause-less : goal.returns-in_default-clause-less
returns-in_default-clause-less g c =
    let mid = c.next-next.new.self in
    rw (ap (λ (s : JoyState). s.reader) c.after_next.ensures.rest)
    (next-less mid.reader.description (kept_joying mid) (kept_joying c.after_next.new.self) c.next-next.result
    c.after_next.result _ _ c.after_next.ensures.turn (c.next-next.ensures.less refl))
