-- The two bytes of the table are the two digits.
use Rattle.std.proofs.Common.{◌≡◌, ℕ, ◌+◌, ◌/◌, ◌%◌, List, [], ◌∷◌, ◌++◌, take, set, arith, append_assoc}
use Rattle.std.proofs.Common.{length-set}
use Rattle.std.proofs.lemmas.Grind.{take-set_at}
use Rattle.inp_texts.proofs.Decimals.{pair-at}
use Rattle.inp_texts.proofs.digits.store_two.Goals as goal

pub returns : goal.returns
returns c =
    let p = pair-at c.args.number c.requires.short in
    let at = c.args.at in
    let bytes : List ℕ = c.args.bytes.now in
    let tens : ℕ = 48 + c.args.number / 10 in
    let ones : ℕ = 48 + c.args.number % 10 in
    let inner : take (at + 1) (set bytes at tens) ≡ take at bytes ++ tens ∷ [] =
    take-set_at bytes at (at + 1) tens (omega arith) (omega arith) in
    let outer : take (at + 2) (set (set bytes at tens) (at + 1) ones)
    ≡ take (at + 1) (set bytes at tens) ++ ones ∷ [] =
    take-set_at (set bytes at tens) (at + 1) (at + 2) ones (omega arith)
    (omega (arith, length-set bytes at tens)) in
    rw (p.0, p.1)
    (record { stored = rw (outer, inner) (append_assoc (take at bytes) (tens ∷ []) (ones ∷ [])) })
