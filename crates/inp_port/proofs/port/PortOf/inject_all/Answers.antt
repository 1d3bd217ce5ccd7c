use Rattle.std.proofs.Common.{◌≡◌, sym, ◌∙◌, Some}
use Rattle.inp_turn.specs.Shared.{shared_id}
use Rattle.inp_turn.specs.Pass.{view_of}
use Rattle.inp_port.proofs.Turns.{all-begins, turn-served, all-turn-begins, told_all}
use Rattle.inp_port.proofs.port.PortOf.inject_all.Goals as goal

-- the entries of the events come behind those that were found
pub give-requires-clause-grown : goal.give-requires-clause-grown
give-requires-clause-grown g c =
    let found = g.S.Kept.entries c.take-held.result.state in
    let now = g.S.Kept.entries c.serve_all-injected.new.self in
    rw c.take-held.ensures.view
    (all-begins g.S.Served.made
    (g.S.Kept.base c.take-held.result.state) found c.args.events.now c.serve_all-injected.result now
    c.serve_all-injected.ensures.served)

-- the pass saw what was found at its turn and the events, whose places are its own
pub returns-clause-served : goal.returns-clause-served
returns-clause-served g c =
    let found = g.S.Kept.entries c.take-held.result.state in
    let now = g.S.Kept.entries c.serve_all-injected.new.self in
    let base = g.S.Kept.base c.take-held.result.state in
    let is : Some base ≡ Some c.args.self.now.caps =
    sym c.take-held.ensures.base ∙ c.requires.ready.described in
    turn-served g.S.Served.made c.args.self.now.caps base (view_of c.args.pass.now)
    (view_of c.give.new.pass) found now c.args.events.now c.serve_all-injected.result
    (cc is) c.take-held.ensures.begins
    c.serve_all-injected.ensures.served (rw (c.give.ensures.view, c.take-held.ensures.view))

-- what the pass had seen was there at its turn, and the events came behind it
pub returns-clause-seen : goal.returns-clause-seen
returns-clause-seen g c =
    all-turn-begins g.S.Served.made c.args.self.now.caps (view_of c.args.pass.now)
    (view_of c.give.new.pass) c.args.events.now c.serve_all-injected.result (returns-clause-served g c)

pub returns-clause-injected : goal.returns-clause-injected
returns-clause-injected g c =
    told_all g.S.Served.made c.args.self.now.caps (shared_id c.args.self.now.shared) (view_of c.args.pass.now)
    (view_of c.give.new.pass) c.args.events.now c.serve_all-injected.result c.args.pass.now.owns_seen
    (returns-clause-served g c)
