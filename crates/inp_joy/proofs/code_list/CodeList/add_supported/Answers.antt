use Rattle.std.proofs.Common.{sym, ◌∙◌}
use Rattle.inp_joy.proofs.Numbers.{codes-none, codes-more, codes-skip}
use Rattle.inp_joy.proofs.code_list.CodeList.add_supported.Goals as goal
use Rattle.inp_joy.proofs.code_list.CodeList.add_supported.Goals.{then-supports, else-supports}

-- before the first code nothing was added
pub loop-code-init : goal.loop-code-init
loop-code-init c = record {
  added = codes-none c.args.caps.now c.args.kind c.args.first c.args.self.now c.requires.few;
  few = c.requires.few;
}

-- a supported code is added unless the list is full, another one adds nothing
pub loop-code-preserved : goal.loop-code-preserved
loop-code-preserved c = record {
  added =
      elim c.if-supports.branch [
        | then-supports w ↦ w.self-is
            ∙ codes-more c.args.caps.now c.args.kind c.args.first c.loop-code.code c.args.self.now
            c.loop-code.self w.add.new.self c.loop-code.auto.code (sym c.supports.ensures.supported
            ∙ w.if-supports.true) c.loop-code.invariant.added w.add.ensures.added
        | else-supports w ↦ w.self-is
            ∙ codes-skip c.args.caps.now c.args.kind c.args.first c.loop-code.code c.args.self.now
            c.loop-code.self c.loop-code.auto.code (sym c.supports.ensures.supported
            ∙ w.if-supports.false) c.loop-code.invariant.added
      ];
  few =
      elim c.if-supports.branch [
        | then-supports w ↦ rw w.self-is w.add.ensures.few
        | else-supports w ↦ rw w.self-is c.loop-code.invariant.few
      ];
}
