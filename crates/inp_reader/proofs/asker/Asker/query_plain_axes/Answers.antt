use Rattle.std.proofs.Common.{rules, ◌≡◌, true, false}
use Rattle.std.specs.Prelude.{is_some}
use Rattle.inp_reader.specs.Reader.{axis_queries, axes_among}
use Rattle.inp_reader.proofs.Axes.{plain_axes-parts}
use Rattle.inp_reader.proofs.TalksInTurn.{says-stop-if, says-go-on, says-same}
use Rattle.inp_reader.proofs.asker.Asker.query_plain_axes.Goals as goal

-- stopped at an axis below those of slots, it does not ask for those above them
pub returns-then-is_some-clause-says : goal.returns-then-is_some-clause-says
returns-then-is_some-clause-says g c =
    let stopped : is_some c.query_axes-stop.result ≡ true = search rules in
    says-same _ _ c.args.self.now.view _ (plain_axes-parts c.args.caps.now c.args.client)
    (says-stop-if (axis_queries c.args.client (axes_among c.args.caps.now 0 47))
    (axis_queries c.args.client (axes_among c.args.caps.now 62 2)) c.args.self.now.view
    c.query_axes-stop.new.self.view c.query_axes-stop.result stopped c.query_axes-stop.ensures.says)

-- the axes below those of slots, and then those above them, are the plain ones
pub returns-clause-says : goal.returns-clause-says
returns-clause-says g c =
    let goes_on : is_some c.query_axes-stop.result ≡ false = search rules in
    says-same _ _ c.args.self.now.view _ (plain_axes-parts c.args.caps.now c.args.client)
    (says-go-on (axis_queries c.args.client (axes_among c.args.caps.now 0 47))
    (axis_queries c.args.client (axes_among c.args.caps.now 62 2)) c.args.self.now.view
    c.query_axes-stop.new.self.view c.query_axes-stop.result _ goes_on c.query_axes-stop.ensures.says
    c.query_axes.ensures.says)
