use Rattle.std.proofs.Common.{◌<◌, length, w32, FitsSigned, arith, rules, sym, subst}
use Rattle.std.proofs.lemmas.Int.{to_z-of_z}
use Rattle.inp_state.specs.State.{StateStandsFor}
use Rattle.inp_state.specs.contracts.state.State.{the_view}
use Rattle.inp_state.proofs.Arms.{described-stands}
use Rattle.inp_state.proofs.state.State.describe.Goals as goal

pub returns : goal.returns
returns c =
    let fits : FitsSigned w32 c.args.info.value = search rules in
    let within : c.args.code < length c.self.inside.axes = omega (arith, c.requires.within) in
    let there : c.args.code < length c.self.inside.infos = omega (arith, c.requires.within) in
    record {
      stands = λ d r h. described-stands d r (the_view c.self.inside) c.args.code c.args.info _ _ within there
          (rw (c.from.ensures, to_z-of_z w32 c.args.info.value fits))
          (rw c.from-2.ensures)
          (subst (StateStandsFor d r) (sym c.self.view_is) h);
    }
