-- One piece written behind another.
use Rattle.std.proofs.Common.{◌≡◌, ℕ, ◌+◌, ◌*◌, ◌≤◌, List, [], ◌++◌, length, take, drop, sym, ap, ◌∙◌, arith}
use Rattle.std.proofs.Common.{append_assoc, length-append, length-drop}
use Rattle.std.proofs.lemmas.List.{append-nil, take_all, drop_all, take_at, drop_at}
use borrow.Rule.Slice.PartMut.{put_mid, mid_of}

-- a piece written over what stands behind a front
behind : (f rest b : List ℕ) (a k n : ℕ) → length f ≡ a → length rest ≡ k → length b ≡ n → n ≤ k
    → put_mid a k (f ++ rest) (b ++ drop n (mid_of a k (f ++ rest))) ≡ (f ++ b) ++ drop n rest
behind f rest b a k n p q r h =
    let front : take a (f ++ rest) ≡ f = take_at f rest a p in
    let back : drop a (f ++ rest) ≡ rest = drop_at f rest a p in
    let whole : take k rest ≡ rest = take_all k rest (omega arith) in
    let none : drop k rest ≡ [] = drop_all k rest (omega arith) in
    rw (front, back, whole, none, append-nil) (sym (append_assoc f b (drop n rest)))

step : (x w f rest b : List ℕ) (a k n : ℕ) → x ≡ f ++ rest → length f ≡ a → length rest ≡ k → length b ≡ n
    → n ≤ k → w ≡ b ++ drop n (mid_of a k x) → put_mid a k x w ≡ (f ++ b) ++ drop n rest
step x w f rest b a k n e p q r h g = rw (g, e) (behind f rest b a k n p q r h)

-- five pieces of a record, one behind another
pub written : (t : ℕ) (out w1 w2 w3 w4 w5 b1 b2 b3 b4 b5 : List ℕ) → length out ≡ 2 * t + 8
    → length b1 ≡ t → length b2 ≡ t → length b3 ≡ 2 → length b4 ≡ 2 → length b5 ≡ 4
    → w1 ≡ b1 ++ drop t out
    → w2 ≡ b2 ++ drop t (mid_of t (t + 8) w1)
    → w3 ≡ b3 ++ drop 2 (mid_of (2 * t) 8 (put_mid t (t + 8) w1 w2))
    → w4 ≡ b4 ++ drop 2 (mid_of (2 * t + 2) 6 (put_mid (2 * t) 8 (put_mid t (t + 8) w1 w2) w3))
    → w5 ≡ b5 ++ drop 4
    (mid_of (2 * t + 4) 4 (put_mid (2 * t + 2) 6 (put_mid (2 * t) 8 (put_mid t (t + 8) w1 w2) w3) w4))
    → put_mid (2 * t + 4) 4 (put_mid (2 * t + 2) 6 (put_mid (2 * t) 8 (put_mid t (t + 8) w1 w2) w3) w4) w5
    ≡ b1 ++ b2 ++ b3 ++ b4 ++ b5
written t out w1 w2 w3 w4 w5 b1 b2 b3 b4 b5 o l1 l2 l3 l4 l5 e1 e2 e3 e4 e5 =
    let x2 = put_mid t (t + 8) w1 w2 in
    let x3 = put_mid (2 * t) 8 x2 w3 in
    let x4 = put_mid (2 * t + 2) 6 x3 w4 in
    let r1 = drop t out in let r2 = drop t r1 in let r3 = drop 2 r2 in let r4 = drop 2 r3 in
    let k1 : length r1 ≡ t + 8 = omega (arith, length-drop t out) in
    let k2 : length r2 ≡ 8 = omega (arith, length-drop t r1) in
    let k3 : length r3 ≡ 6 = omega (arith, length-drop 2 r2) in
    let k4 : length r4 ≡ 4 = omega (arith, length-drop 2 r3) in
    let f2 : length (b1 ++ b2) ≡ 2 * t = omega (arith, length-append b1 b2) in
    let f3 : length (b1 ++ b2 ++ b3) ≡ 2 * t + 2 = omega (arith, length-append (b1 ++ b2) b3) in
    let f4 : length (b1 ++ b2 ++ b3 ++ b4) ≡ 2 * t + 4 = omega (arith, length-append (b1 ++ b2 ++ b3) b4) in
    let s2 : x2 ≡ (b1 ++ b2) ++ r2 = step w1 w2 b1 r1 b2 t (t + 8) t e1 l1 k1 l2 (omega arith) e2 in
    let s3 : x3 ≡ (b1 ++ b2 ++ b3) ++ r3 =
    step x2 w3 (b1 ++ b2) r2 b3 (2 * t) 8 2 s2 f2 k2 l3 (omega arith) e3 in
    let s4 : x4 ≡ (b1 ++ b2 ++ b3 ++ b4) ++ r4 =
    step x3 w4 (b1 ++ b2 ++ b3) r3 b4 (2 * t + 2) 6 2 s3 f3 k3 l4 (omega arith) e4 in
    let s5 = step x4 w5 (b1 ++ b2 ++ b3 ++ b4) r4 b5 (2 * t + 4) 4 4 s4 f4 k4 l5 (omega arith) e5 in
    s5 ∙ ap (λ (r : List ℕ). (b1 ++ b2 ++ b3 ++ b4 ++ b5) ++ r) (drop_all 4 r4 (omega arith))
    ∙ append-nil (b1 ++ b2 ++ b3 ++ b4 ++ b5)
