use Rattle.std.proofs.Common.{rules}
use Rattle.inp_turn.specs.Shared.{shared_id}
use Rattle.inp_turn.specs.Pass.{view_of}
use Rattle.inp_model.specs.Reply.{is_accepted}
use Rattle.inp_port.proofs.Turns.{grown-begins, told_call, turn-begins, turn-enters_nothing, turn-own_stays}
use Rattle.inp_port.proofs.Turns.{turn-out_stays, turn-cells_stay}
use Rattle.inp_port.proofs.port.PortOf.call.Goals as goal

-- the step is the last entry behind those that were found, or none is added
pub give-requires-clause-grown : goal.give-requires-clause-grown
give-requires-clause-grown g c = let entries = g.S.Kept.entries in let now = entries c.serve-reply.new.self in
    rw c.take-held.ensures.view
    (grown-begins g.S.Served.made (entries c.take-held.result.state) c.args.step
    (is_accepted c.serve-reply.result) now c.serve-reply.ensures.served.grown)

-- what the pass had seen was there at its turn, and the step came behind it at most
pub returns-clause-seen : goal.returns-clause-seen
returns-clause-seen g c =
    turn-begins g.S.Served.made c.args.self.now.caps (view_of c.args.pass.now)
    (view_of c.give.new.pass) c.args.step c.serve-reply.result c.args.out.now c.serve-reply.new.out
    c.args.cells.now c.serve-reply.new.cells (search rules)

pub returns-clause-called : goal.returns-clause-called
returns-clause-called g c =
    told_call g.S.Served.made c.args.self.now.caps (shared_id c.args.self.now.shared)
    (view_of c.args.pass.now) (view_of c.give.new.pass) c.args.step c.serve-reply.result c.args.out.now
    c.serve-reply.new.out c.args.cells.now
    c.serve-reply.new.cells c.args.pass.now.owns_seen (search rules)

pub returns-clause-nothing_entered : goal.returns-clause-nothing_entered
returns-clause-nothing_entered g c =
    turn-enters_nothing g.S.Served.made c.args.self.now.caps (view_of c.args.pass.now)
    (view_of c.give.new.pass) c.args.step c.serve-reply.result c.args.out.now c.serve-reply.new.out
    c.args.cells.now c.serve-reply.new.cells (search rules)

pub returns-clause-own_stays : goal.returns-clause-own_stays
returns-clause-own_stays g c =
    turn-own_stays g.S.Served.made c.args.self.now.caps (view_of c.args.pass.now)
    (view_of c.give.new.pass) c.args.step c.serve-reply.result c.args.out.now c.serve-reply.new.out
    c.args.cells.now c.serve-reply.new.cells (search rules)

pub returns-clause-out_stays : goal.returns-clause-out_stays
returns-clause-out_stays g c =
    turn-out_stays g.S.Served.made c.args.self.now.caps (view_of c.args.pass.now)
    (view_of c.give.new.pass) c.args.step c.serve-reply.result c.args.out.now c.serve-reply.new.out
    c.args.cells.now c.serve-reply.new.cells (search rules)

pub returns-clause-cells_stay : goal.returns-clause-cells_stay
returns-clause-cells_stay g c =
    turn-cells_stay g.S.Served.made c.args.self.now.caps (view_of c.args.pass.now)
    (view_of c.give.new.pass) c.args.step c.serve-reply.result c.args.out.now c.serve-reply.new.out
    c.args.cells.now c.serve-reply.new.cells (search rules)
