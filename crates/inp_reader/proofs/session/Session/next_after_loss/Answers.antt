use Rattle.std.proofs.Common.{sym, refl}
use Rattle.inp_reader.specs.Talk.{finish}
use Rattle.std.specs.Prelude.{Ok, Err}
use Rattle.inp_reader.specs.Session.{reading_of}
use Rattle.inp_reader.proofs.NextWalk.{synced-handing}
use Rattle.inp_reader.proofs.TalksOfSessions.{says-synchronised, says-still}
use Rattle.inp_reader.proofs.session.Session.next_after_loss.Goals as goal

-- a synchronisation that was stopped ends the call with that reply
pub returns-in-Some-clause-says : goal.returns-in-Some-clause-says
returns-in-Some-clause-says g c =
    let r = reading_of c.args.self.now in
    says-synchronised _ _ c.args.mode r (Err c.in-Some.reply) _ c.in-Some.ensures.says refl
    (says-still refl (λ i. finish (sym c.stop_of.ensures i, sym c.in-Some.ensures.reading i)))

-- behind a synchronisation the call goes on as in phase Handing
pub returns-in-None-clause-says : goal.returns-in-None-clause-says
returns-in-None-clause-says g c =
    let r = reading_of c.args.self.now in
    let view = c.synchronise.new.self.asker.view in
    says-synchronised _ _ c.args.mode r (Ok view) _ c.in-None.ensures.says
    (synced-handing c.args.caps.now c.args.mode r
    (reading_of c.synchronise.new.self) view c.in-None.ensures.reading) c.go_on.ensures.says
