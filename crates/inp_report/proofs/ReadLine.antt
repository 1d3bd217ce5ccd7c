-- The line of a read is its words one after the other.
use Rattle.std.proofs.Common.{◌≡◌, ℕ, List, ◌++◌, refl}
use Rattle.std.specs.Prelude.{codes, decimal}
use Rattle.std.proofs.lemmas.List.{append_assoc}
use Rattle.inp_report.specs.Words.{LINE_FEED}

-- pieces that end within the call or the reply, joined
joined : (text call read client space most reply took at count end : List ℕ)
    → ((((text ++ ((call ++ read) ++ client)) ++ (space ++ most)) ++ ((reply ++ took) ++ at))
    ++ (space ++ count)) ++ end
    ≡ text ++ (call ++ ((read ++ (client ++ (space ++ most)))
    ++ (reply ++ ((took ++ (at ++ (space ++ count))) ++ end))))
joined text call read client space most reply took at count end = simp append_assoc refl

-- written in five pieces, it is the call and the reply with their words between
pub read-line : (text one two three four line : List ℕ) (client most at count a b c d : ℕ)
    → a ≡ client → b ≡ most → c ≡ at → d ≡ count
    → one ≡ text ++ (codes "call read " ++ decimal a) → two ≡ one ++ (codes " " ++ decimal b)
    → three ≡ two ++ (codes " reply took " ++ decimal c) → four ≡ three ++ (codes " " ++ decimal d)
    → line ≡ four ++ codes "\n"
    → line
    ≡ text ++ (codes "call " ++ ((codes "read " ++ (decimal client ++ (codes " " ++ decimal most)))
    ++ (codes " reply " ++ ((codes "took " ++ (decimal at ++ (codes " " ++ decimal count))) ++ LINE_FEED))))
read-line text one two three four line client most at count a b c d ia ib ic id i1 i2 i3 i4 i5 =
    rw (i5, i4, i3, i2, i1, ia, ib, ic, id)
    (joined text (codes "call ") (codes "read ") (decimal client) (codes " ") (decimal most)
    (codes " reply ") (codes "took ") (decimal at) (decimal count) LINE_FEED)
