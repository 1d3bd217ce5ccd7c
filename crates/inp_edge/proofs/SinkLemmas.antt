-- Bytes written piece by piece.
use Rattle.std.proofs.Common.{◌≡◌, ℕ, ◌+◌, ◌-◌, List, ◌++◌, take, drop, length, Option, Some, None, ap, ◌∙◌}
use Rattle.std.proofs.Common.{append_assoc, arith}
use Rattle.std.proofs.Math.Seq.{take-add}
use Rattle.std.proofs.lemmas.Grind.{common_steps}
use Rattle.inp_edge.specs.Sink.{Appends}

-- a piece, and then the next one
pub Appends-append : (p q : List ℕ) (before between after : Option (List ℕ)) → Appends p before between
    → Appends q between after → Appends (p ++ q) before after
Appends-append p q None None None h k = tt
Appends-append p q None None (Some w) h k = elim k [ ]
Appends-append p q None (Some v) after h k = elim h [ ]
Appends-append p q (Some u) None after h k = elim h [ ]
Appends-append p q (Some u) (Some v) None h k = elim k [ ]
Appends-append p q (Some u) (Some v) (Some w) h k = k ∙ (ap (λ x. x ++ q) h ∙ append_assoc u p q)

-- what the slice `&xs[n..]` holds
tail_is : (xs : List ℕ) (n : ℕ) → take (length xs - n) (drop n xs) ≡ drop n xs
tail_is xs n = grind (arith, common_steps)

-- the first n bytes, and then the first m of `&bytes[n..]`
pub Appends_more : (bytes : List ℕ) (n m : ℕ) (before between after : Option (List ℕ))
    → Appends (take n bytes) before between
    → Appends (take m (take (length bytes - n) (drop n bytes))) between after
    → Appends (take (n + m) bytes) before after
Appends_more bytes n m before between after h k =
    let e = rw (tail_is bytes n) at k in
    rw (take-add n m bytes) (Appends-append (take n bytes) (take m (drop n bytes)) before between after h e)
