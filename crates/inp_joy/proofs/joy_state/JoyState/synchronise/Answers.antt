use Rattle.std.proofs.Common.{sym, ap}
use Rattle.inp_joy.specs.declared.joy_state.JoyState.{JoyState}
use Rattle.inp_joy.specs.JoyState.{kept_joying}
use Rattle.inp_joy.proofs.ReaderCalls.{calls-weaker}
use Rattle.inp_joy.proofs.Outcomes.{stop-less, sync-shows}
use Rattle.inp_joy.proofs.TurnCases.{says-sync_stopped, says-sync_whole}
use Rattle.inp_joy.proofs.joy_state.JoyState.synchronise.Goals as goal

-- the synchronisation was stopped, and the read stops with its answer
pub returns-in-Some-clause-says : goal.returns-in-Some-clause-says
returns-in-Some-clause-says g c =
    says-sync_stopped _ _ _ _ c.args.self.now.reader.description (kept_joying c.args.self.now)
    (kept_joying c.next-next.new.self) c.next-next.result c.next-next.new.self.reader.reading c.in-Some.read
    c.next-next.ensures.says (rw c.next-next.ensures.rest) c.in-Some.ensures

-- the synchronisation was not stopped, so a startup begins
pub returns-clause-says : goal.returns-clause-says
returns-clause-says g c =
    rw (ap (λ (s : JoyState). s.made) c.begin_startup.ensures.rest)
    (says-sync_whole _ _ _ _ c.args.self.now.reader.description (kept_joying c.args.self.now)
    (kept_joying c.begin_startup.new.self)
    c.next-next.result c.next-next.new.self.reader.reading c.next-next.ensures.says
    (sym c.in_default.ensures) c.begin_startup.ensures.joying)

-- the calls are the reader's, and a stopped synchronisation is no frame
pub returns-in-Some-clause-calls : goal.returns-in-Some-clause-calls
returns-in-Some-clause-calls g c =
    calls-weaker _ _ _ _ _ _ _ _ _
    (λ shown. sync-shows (g.E.Evdev.told c.next-next.new.dev) c.next-next.new.self.reader c.next-next.result
    c.in-Some.read c.in-Some.ensures) c.next-next.ensures.calls

-- the calls are the reader's, and of a startup that begins nothing is to be shown
pub returns-clause-calls : goal.returns-clause-calls
returns-clause-calls g c =
    rw c.begin_startup.ensures.rest
    (calls-weaker _ _ _ _ _ _ _ _ (Unit {0}) (λ shown. tt) c.next-next.ensures.calls)

-- an answer that stopped a synchronisation needs no measure
pub returns-in-Some-clause-less : goal.returns-in-Some-clause-less
returns-in-Some-clause-less g c = stop-less c.next-next.result c.in-Some.read _ _ c.in-Some.ensures
