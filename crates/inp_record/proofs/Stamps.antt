-- Streams, record by record.
use Rattle.std.proofs.Common.{◌≡◌, ℕ, zero, suc, ◌+◌, ◌-◌, ◌*◌, ◌/◌, ◌<◌, ◌≤◌, Bool, true, false, ◌||◌}
use Rattle.std.proofs.Common.{nat_eq, nat_le, nat_lt, List, [], ◌∷◌, ◌++◌, length, drop, take, Option, Some}
use Rattle.std.proofs.Common.{None, option_map, Ok, Err, refl, ap, append_assoc, length-drop, add-one, arith}
use Rattle.std.proofs.Common.{inl, inr}
use Rattle.std.specs.Prelude.{slice_get}
use Rattle.std.specs.List.{list_all, range_with_len}
use Rattle.std.proofs.lemmas.List.{append-nil, take_rest}
use Rattle.std.proofs.Math.Nat.{add-div_right, div-le_self}
use Rattle.std.proofs.lemmas.Bool.Decides.{nat_tests}
use Rattle.std.proofs.lemmas.List.Folds.{list_all-append}
use Rattle.std.proofs.lemmas.Bool.{and_parts, or_parts, ltb-true, ltb-false}
use Rattle.inp_model.specs.declared.event.Event.{Event}
use Rattle.inp_model.specs.declared.stamped.Stamped.{Stamped}
use Rattle.inp_model.specs.declared.stamped.TheConstants.{MOMENT_MAX}
use Rattle.inp_actors.specs.declared.line.Line.{Line}
use Rattle.inp_actors.specs.Command.{stream_of, first_of}
use Rattle.inp_actors.specs.Record.{streams_of}
use Rattle.inp_model.specs.Injection.{AreInTime}
use Rattle.inp_stream.specs.declared.stream_refused.StreamRefused.{StreamRefused}
use Rattle.inp_stream.specs.declared.stream_refused.StreamRefused.TheVariants.{Short, BadTime}
use Rattle.inp_stream.specs.Stream.{record_len, microseconds_of, moment_in, event_in, decoded}
use Rattle.inp_record.specs.Stream.{stamps_from, stamps_of}
use Rattle.inp_record.proofs.Options.{push_get, unrefused}

-- what is read has the length of a record and a moment within its limit
pub decoded_is : (t : ℕ) (bytes : List ℕ) (p : Event × ℕ) → decoded t bytes ≡ Ok p
    → (record_len t ≤ length bytes) × (p.1 ≤ MOMENT_MAX)
decoded_is t bytes p e =
    let moment : ℕ = moment_in t bytes in
    let bad : Bool = nat_le 1000000 (microseconds_of t bytes) in
    let long = unrefused (nat_lt (length bytes) (record_len t)) Short _ p e in
    let good = unrefused (bad || nat_lt MOMENT_MAX moment) BadTime _ p long.1 in
    let is : (event_in (drop (2 * t) bytes), moment) ≡ p = cc good.1 in
    let early = ltb-false _ _ (or_parts bad (nat_lt MOMENT_MAX moment) good.0).1 in
    (ltb-false _ _ long.0, rw (← is) early)

abbrev pub stamp_of : Event × ℕ → Stamped
stamp_of p = record { event = p.0; now = p.1 }

-- these stamps before others
abbrev pub onto : List Stamped → Option (List Stamped) → Option (List Stamped)
onto stamps more = option_map (λ s. stamps ++ s) more

-- one record less
counted : (n m k : ℕ) → 0 < n → m ≡ k + n → m / n ≡ suc (k / n)
counted n m k h e = rw (e, add-div_right) (add-one (k / n))

-- a record in front
pub rest_read : (t : ℕ) (rest : List ℕ) (p : Event × ℕ) → decoded t rest ≡ Ok p
    → stamps_of t rest ≡ option_map (λ (s : List Stamped). stamp_of p ∷ s)
    (stamps_of t (drop (record_len t) rest))
unfolding stamps_from
rest_read t rest p e =
    let n = record_len t in
    let long : n ≤ length rest = (decoded_is t rest p e).0 in
    let count : length rest / n ≡ suc (length (drop n rest) / n) =
    counted n (length rest) (length (drop n rest)) (omega arith) (omega (arith, length-drop n rest)) in
    rw (count, e)

-- no record in front
pub rest_refused : (t : ℕ) (rest : List ℕ) (why : StreamRefused) → 0 < length rest → decoded t rest ≡ Err why
    → stamps_of t rest ≡ None
unfolding stamps_from
rest_refused t rest why h e = by_count (length rest / record_len t)
  where
    by_count : (k : ℕ) → stamps_from t k rest ≡ None
    by_count zero = let some : nat_eq (length rest) 0 ≡ false = grind (arith, nat_tests) in rw some refl
    by_count (suc k) = rw e

-- one more behind those that were read
pub grown : (stamps : List Stamped) (x : Stamped) (more : Option (List Stamped))
    → onto stamps (option_map (λ (s : List Stamped). x ∷ s) more) ≡ onto (stamps ++ x ∷ []) more
grown stamps x None = refl
grown stamps x (Some s) = rw (← append_assoc stamps (x ∷ []) s)

-- no byte is left, so there are no more events than those that were read
pub none_left : (t : ℕ) (stamps : List Stamped) (rest : List ℕ) → length rest ≡ 0
    → onto stamps (stamps_of t rest) ≡ Some stamps
unfolding stamps_from
none_left t stamps [] h =
    let none : 0 / record_len t ≡ 0 = omega (arith, div-le_self 0 (record_len t)) in
    rw (none, append-nil)
none_left t stamps (b ∷ rest) h = absurd (omega arith)

-- the events before were in time, and so is the new one
pub pushed_in_time : (stamps : List Stamped) (x : Stamped) → AreInTime stamps → x.now ≤ MOMENT_MAX
    → AreInTime (stamps ++ x ∷ [])
pushed_in_time stamps x h k i s g = elim (push_get stamps x i s g) [
  | inl e ↦ h i s e
  | inr e ↦ let same : s.now ≡ x.now = rw e in omega (arith, same)
]

-- the number of a line's stream is one of a stream
below : (a n : ℕ) → list_all (λ k. nat_lt k (a + n)) (range_with_len a n) ≡ true
below a zero = refl
below a (suc n) =
    let first : nat_lt a (a + suc n) ≡ true = grind (arith, nat_tests) in
    let same : a + 1 + n ≡ a + suc n = omega arith in
    let rest : list_all (λ k. nat_lt k (a + suc n)) (range_with_len (a + 1) n) ≡ true =
    rw same at (below (a + 1) n) in
    rw (first, rest) refl

first_all : (p : ℕ → Bool) (xs : List ℕ) (k : ℕ) → first_of xs ≡ Some k → list_all p xs ≡ true → p k ≡ true
first_all p [] k e h = absurd (cc e)
first_all p (x ∷ xs) k e h = let same : x ≡ k = cc e in rw same at (and_parts (p x) (list_all p xs) h).0

stream_all : (p : ℕ → Bool) (lines : List Line) (i : ℕ) (l : Line) (k : ℕ) → slice_get lines i ≡ Some l
    → first_of (stream_of l.command) ≡ Some k → list_all p (streams_of lines) ≡ true → p k ≡ true
stream_all p [] i l k g s h = absurd (cc g)
stream_all p (x ∷ lines) zero l k g s h =
    let same : x ≡ l = cc g in
    first_all p (stream_of x.command) k (rw same s)
    (and_parts _ _ (rw (list_all-append p (stream_of x.command) (streams_of lines)) at h)).0
stream_all p (x ∷ lines) (suc i) l k g s h =
    stream_all p lines i l k g s
    (and_parts _ _ (rw (list_all-append p (stream_of x.command) (streams_of lines)) at h)).1

-- the streams of all lines are the numbers below their count, and the line's is one of them
pub stream_within : (lines : List Line) (n i : ℕ) (l : Line) (k : ℕ) → slice_get lines i ≡ Some l
    → first_of (stream_of l.command) ≡ Some k → streams_of lines ≡ range_with_len 0 n → k < n
stream_within lines n i l k g s e =
    let all : list_all (λ j. nat_lt j (0 + n)) (streams_of lines) ≡ true = rw e (below 0 n) in
    omega (arith, ltb-true k (0 + n) (stream_all (λ j. nat_lt j (0 + n)) lines i l k g s all))

-- before the first record
pub none_yet : (means : Option (List Stamped))
    → record { read : means ≡ onto [] means; in_time : AreInTime [] }
none_yet None = record { read = refl; in_time = λ i s g. absurd (cc g) }
none_yet (Some s) = record { read = refl; in_time = λ i s g. absurd (cc g) }

-- a record has at least one byte, so fewer are left behind it
pub smaller : (n : ℕ) (rest : List ℕ) → 0 < n → n ≤ length rest
    → length (take (length rest - n) (drop n rest)) < length rest
smaller n rest h k = omega (arith, ap length (take_rest rest n), length-drop n rest)

-- the first record of what is left gives the next event, and the others are left
pub more_read : (t : ℕ) (means : Option (List Stamped)) (rest : List ℕ) (stamps : List Stamped)
    (p : Event × ℕ) → means ≡ onto stamps (stamps_of t rest) → decoded t rest ≡ Ok p
    → means ≡ onto (stamps ++ stamp_of p ∷ [])
    (stamps_of t (take (length rest - record_len t) (drop (record_len t) rest)))
more_read t means rest stamps p e h =
    rw (
      take_rest rest (record_len t),
      ← grown stamps (stamp_of p) (stamps_of t (drop (record_len t) rest)),
      ← rest_read t rest p h,
      ← e,
    )
