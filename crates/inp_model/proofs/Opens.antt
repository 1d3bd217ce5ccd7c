-- How many clients a past opened, and their numbers.
use Rattle.std.proofs.Common.{◌≡◌, ℕ, zero, suc, ◌+◌, ◌<◌, ◌≤◌, Bool, true, false, ◌&&◌, if◌then◌else◌}
use Rattle.std.proofs.Common.{nat_eq, List, [], ◌∷◌, ◌++◌, length, arith}
use Rattle.std.specs.List.{range_with_len}
use Rattle.std.proofs.lemmas.Bool.Decides.{nat_tests}
use Rattle.inp_model.specs.declared.step.Step.{Step}
use Rattle.inp_model.specs.Step.{is_open_step, is_close_of}
use Rattle.inp_model.specs.Past.{opens, is_open}

-- whether a client is open after a step, by whether the step opens or closes it
abbrev open_by : Bool → Bool → Bool → Bool
open_by opening closing before = if opening then true else if closing then false else before

lt_more : (opening closing before : Bool) (n c : ℕ) → (before ≡ true → c < n)
    → open_by (opening && nat_eq n c) closing before ≡ true → c < (if opening then suc n else n)
lt_more true closing before n c h is = grind (arith, nat_tests, h, is)
lt_more false true before n c h is = absurd (cc is)
lt_more false false before n c h is = h is

-- a client that is open was opened
pub is_open-lt : (past : List Step) (c : ℕ) → is_open past c ≡ true → c < opens past
unfolding is_open opens
is_open-lt [] c h = absurd (cc h)
is_open-lt (x ∷ past) c h =
    lt_more (is_open_step x) (is_close_of c x) (is_open past c) (opens past) c (is_open-lt past c) h

opens_more : (opening : Bool) (n m : ℕ) → n ≤ m → (if opening then suc n else n) ≤ suc m
opens_more true n m h = omega (arith, h)
opens_more false n m h = omega (arith, h)

-- no more clients were opened than there are steps
pub opens-le : (past : List Step) → opens past ≤ length past
unfolding opens
opens-le [] = omega arith
opens-le (x ∷ past) = opens_more (is_open_step x) (opens past) (length past) (opens-le past)

-- a range that ends one later
pub range-more : (a n : ℕ) → range_with_len a (suc n) ≡ range_with_len a n ++ (a + n) ∷ []
range-more a zero = let same : a ≡ a + zero = omega arith in rw (← same)
range-more a (suc n) =
    let same : (a + 1) + n ≡ a + suc n = omega arith in
    rw (range-more (a + 1) n, same)
