use Rattle.inp_texts.proofs.digits.+store_long.Given as goal

abbrev pub decreases-store_long : goal.decreases-store_long
decreases-store_long l = l.number
