-- Lists whose items are numbered, and lists that are one behind the other.
use Rattle.std.proofs.Common.{◌≡◌, ℕ, zero, suc, ◌+◌, Bool, List, [], ◌∷◌, ◌++◌, length, take, drop, set}
use Rattle.std.proofs.Common.{Some, refl, ap, ◌∙◌, arith, append-nil}
use Rattle.std.specs.Prelude.{slice_range}
use Rattle.std.proofs.lemmas.List.{length-set, take_all, drop_all}
use Rattle.std.specs.List.{slice_get}
use Rattle.inp_joy.specs.declared.joy_record.JoyRecord.{JoyRecord}
use Rattle.inp_joy.specs.Joy.{map_numbered}

-- a place within the front list has the same item with another list behind it
pub slice_get-left : {X : Type 0} (xs ys : List X) (k : ℕ) (x : X) → slice_get xs k ≡ Some x
    → slice_get (xs ++ ys) k ≡ Some x
slice_get-left [] ys k x h = absurd cc
slice_get-left (y ∷ xs) ys zero x h = h
slice_get-left (y ∷ xs) ys (suc k) x h = slice_get-left xs ys k x h

-- a place behind the front list is the place of the other one, counted from its own start
pub slice_get-right : {X : Type 0} (xs ys : List X) (k : ℕ)
    → slice_get (xs ++ ys) (length xs + k) ≡ slice_get ys k
slice_get-right [] ys k = let e : 0 + k ≡ k = omega arith in rw e
slice_get-right (x ∷ xs) ys k =
    let e : suc (length xs) + k ≡ suc (length xs + k) = omega arith in
    rw e (slice_get-right xs ys k)

-- the item of a number
pub map_numbered-get : {X : Type 0} (f : ℕ → X → JoyRecord) (first k : ℕ) (xs : List X) (x : X)
    → slice_get xs k ≡ Some x → slice_get (map_numbered f first xs) k ≡ Some (f (first + k) x)
map_numbered-get f first k [] x h = absurd cc
map_numbered-get f first zero (y ∷ xs) x h =
    let e : first ≡ first + zero = omega arith in
    let same : y ≡ x = cc in
    rw (← same, ← e)
map_numbered-get f first (suc k) (y ∷ xs) x h =
    let e : first + 1 + k ≡ first + suc k = omega arith in
    rw (map_numbered-get f (first + 1) k xs x h, e)

-- each item gives one record, so there are as many
pub length-map_numbered : {X : Type 0} (f : ℕ → X → JoyRecord) (first : ℕ) (xs : List X)
    → length (map_numbered f first xs) ≡ length xs
length-map_numbered f first [] = refl
length-map_numbered f first (x ∷ xs) = rw (length-map_numbered f (first + 1) xs)

-- The bits of a word that was set at one place

-- the buffer of 64 places has the word alone, so what is read back is the word with one place set
pub word-set : (word empty first second last : List Bool) (n : ℕ) (on : Bool) → length empty ≡ 64
    → length word ≡ 64 → first ≡ take 0 empty ++ word ++ drop 64 empty → second ≡ set first n on
    → last ≡ slice_range second 0 64 → last ≡ set word n on
word-set word empty first second last n on none long h k m =
    let same : first ≡ word = rw (h, drop_all 64 empty (omega (arith, none))) (append-nil word) in
    let is : second ≡ set word n on = rw (k, same) in
    m ∙ take_all 64 second (omega (arith, ap length is, length-set word n on, long)) ∙ is
