use Rattle.inp_joy.proofs.Numbers.{buttons-made}
use Rattle.inp_joy.proofs.code_list.CodeList.buttons.Goals as goal

-- the two ranges of codes that were added are those of the buttons, in that order
pub returns : goal.returns
returns c =
    buttons-made c.args.caps.now c.add_supported.new.self c.add_supported-2.new.self
    (rw (c.add_supported.ensures.added, c.in_ok-list.ensures)) c.add_supported-2.ensures.added
