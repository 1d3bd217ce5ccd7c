use Rattle.inp_recon.proofs.Sizes.{IsSizedFor-first_view}
use Rattle.inp_script.proofs.role.state.RoleState.new.Goals as goal

pub returns-in_ok-new-in-Source-clause-sized : goal.returns-in_ok-new-in-Source-clause-sized
returns-in_ok-new-in-Source-clause-sized c =
    rw (
      c.in_ok-new-in-Source.ensures.view,
      (IsSizedFor-first_view c.args.caps.now).cells,
      ← c.copy.ensures.same,
    )
