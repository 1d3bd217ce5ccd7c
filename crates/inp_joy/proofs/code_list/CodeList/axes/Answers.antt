use Rattle.inp_joy.proofs.Numbers.{axes-made}
use Rattle.inp_joy.proofs.code_list.CodeList.axes.Goals as goal

-- the two ranges of codes that were added are those of the axes
pub returns : goal.returns
returns c =
    axes-made c.args.caps.now c.add_supported.new.self c.add_supported-2.new.self
    (rw (c.add_supported.ensures.added, c.in_ok-list.ensures)) c.add_supported-2.ensures.added
