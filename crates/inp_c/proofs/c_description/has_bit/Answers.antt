use Rattle.std.proofs.Common.{ℕ, ◌==◌, ◌/◌, ◌%◌, get_or, ap}
use Rattle.std.proofs.lemmas.Nat.Bits.{shr_and_one}
use Rattle.inp_c.proofs.c_description.has_bit.Goals as goal

-- a word that is shifted down has the code's bit at its lowest place
pub returns : goal.returns
returns c =
    ap (λ (d : ℕ). d == 1) (shr_and_one (get_or c.args.words.now (c.args.code / 64) 0) (c.args.code % 64))
