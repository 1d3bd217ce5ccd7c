use Rattle.std.proofs.Common.{sym, ap, ◌∙◌, refl, lit≤}
use Rattle.inp_script.specs.Job.{ActorView}
use Rattle.tests_play.proofs.FullDevice.{has-after}
use Rattle.tests_play.proofs.Clients.{its-line, its-waiting}
use Rattle.tests_play.proofs.waiting.do_line.Goals as goal

pub line-requires-clause-line : goal.line-requires-clause-line
line-requires-clause-line c =
    its-line c.args.rec.now c.args.client.now c.args.line c.requires.number c.requires.line

pub line-requires-clause-device : goal.line-requires-clause-device
line-requires-clause-device c = c.requires.keyboard ∙ sym c.requires.description

pub line-requires-clause-wait : goal.line-requires-clause-wait
line-requires-clause-wait c =
    its-waiting c.args.rec.now c.args.client.now _ c.requires.actor c.requires.number c.requires.device
    c.requires.source (lit≤ tt) refl

pub returns-clause-actor : goal.returns-clause-actor
returns-clause-actor c =
    has-after c.args.rec.now c.args.client.now c.line.new.self c.line.ensures.actor c.requires.actor

pub returns-clause-number : goal.returns-clause-number
returns-clause-number c = ap (λ (x : ActorView). x.actor) c.line.ensures.actor ∙ c.requires.number

pub returns-clause-description : goal.returns-clause-description
returns-clause-description c =
    ap (λ (x : ActorView). x.description) c.line.ensures.actor ∙ c.requires.description
