-- Bytes are those of the number that they make.
use Rattle.std.proofs.Common.{◌≡◌, ℕ, zero, suc, ◌+◌, ◌*◌, ◌/◌, ◌%◌, ◌^◌, ◌<◌, ◌≤◌, List, [], ◌∷◌, ◌++◌}
use Rattle.std.proofs.Common.{length, take, drop, slice_index, refl, sym, ap, ◌∙◌, arith, length-drop}
use Rattle.std.proofs.Common.{append_assoc, ◌-◌, w32, Bool, true, false, ◌||◌, if◌then◌else◌, nat_le, nat_lt}
use Rattle.std.proofs.Common.{Ok, Err}
use Rattle.std.proofs.Math.Nat.{div-div-eq-div-mul, pow-succ'}
use Rattle.std.proofs.Math.Seq.{take-add}
use Rattle.std.proofs.lemmas.List.{get_or-drop}
use Rattle.std.proofs.lemmas.Int.{of_z-to_z}
use Rattle.std.proofs.lemmas.Bool.Decides.{nat_tests}
use Rattle.std.specs.Int.{byte_at, bytes_low_first, cast_unsigned}
use Rattle.byteorder.specs.Endian.{little_from, little_number, little_bytes}
use Rattle.byteorder.specs.Numbers.{little_from-cons, little_from-lt}
use Rattle.inp_model.specs.declared.event.Event.{Event}
use Rattle.inp_model.specs.declared.stamped.TheConstants.{MOMENT_MAX}
use Rattle.inp_stream.specs.declared.fields.TheConstants.{SECOND}
use Rattle.inp_stream.specs.declared.stream_refused.StreamRefused.TheVariants.{Short, BadTime}
use Rattle.inp_stream.specs.Stream.{record_len, seconds_of, microseconds_of, moment_in, event_in}
use Rattle.inp_stream.specs.Stream.{HasOneSpelling}

-- a byte of a number, by the number without its lowest byte
byte_at-shift : (i x : ℕ) → byte_at (suc i) x ≡ byte_at i (x / 256)
byte_at-shift zero x = refl
byte_at-shift (suc i) x =
    ap (λ (y : ℕ). y % 256) (ap (λ (p : ℕ). x / p) (pow-succ' 256 (suc i))
    ∙ sym (div-div-eq-div-mul x 256 (256 ^ suc i)))

bytes_low_first-shift : (i n x : ℕ) → bytes_low_first (suc i) n x ≡ bytes_low_first i n (x / 256)
bytes_low_first-shift i zero x = refl
bytes_low_first-shift i (suc n) x = let e = byte_at-shift i x in let r =
    bytes_low_first-shift (suc i) n x in rw (e, r) refl

-- the bytes of the number that bytes make
pub little_bytes-number : (n : ℕ) (xs : List ℕ) → n ≤ length xs → ((i : ℕ) → slice_index xs i < 256)
    → little_bytes n (little_number n xs) ≡ take n xs
little_bytes-number zero xs h f = refl
little_bytes-number (suc n) [] h f = absurd (omega arith)
little_bytes-number (suc n) (b ∷ xs) h f =
    let x = little_number (suc n) (b ∷ xs) in
    let below : b < 256 = f 0 in
    let rest : little_from 1 n (b ∷ xs) ≡ little_number n xs = little_from-cons 0 n b xs in
    let value : x ≡ b + 256 * little_number n xs = ap (λ (r : ℕ). b + 256 * r) rest in
    let low : x % 256 ≡ b = omega arith in
    let high : x / 256 ≡ little_number n xs = omega arith in
    let ih = little_bytes-number n xs (omega arith) (λ i. f (suc i)) in
    let moved : bytes_low_first 1 n x ≡ take n xs =
    bytes_low_first-shift 0 n x ∙ ap (bytes_low_first 0 n) high ∙ ih in
    rw (low, moved) refl

are_bytes_behind : (xs : List ℕ) (k : ℕ) → ((i : ℕ) → slice_index xs i < 256) → (i : ℕ)
    → slice_index (drop k xs) i < 256
are_bytes_behind xs k f i = let e : slice_index (drop k xs) i ≡ slice_index xs (k + i) =
    get_or-drop k xs i 0 in omega (arith, f (k + i))

-- the time of a record
time_of : (t : ℕ) (bytes : List ℕ) (time : ℕ) → moment_in t bytes ≡ time → microseconds_of t bytes < SECOND
    → (time / SECOND ≡ seconds_of t bytes) × (time % SECOND ≡ microseconds_of t bytes)
time_of t bytes time e h = (omega arith, omega arith)

-- the two halves of a time, and the three pieces of an event
time_in_pieces : (t : ℕ) (bytes : List ℕ) → take (2 * t) bytes ≡ take t bytes ++ take t (drop t bytes)
time_in_pieces t bytes = let twice : 2 * t ≡ t + t = omega arith in ap (λ (k : ℕ). take k bytes) twice
    ∙ take-add t t bytes

event_in_pieces : (xs : List ℕ) → take 8 xs ≡ take 2 xs ++ take 2 (drop 2 xs) ++ take 4 (drop 4 xs)
event_in_pieces xs = take-add 4 4 xs ∙ ap (λ (l : List ℕ). l ++ take 4 (drop 4 xs)) (take-add 2 2 xs)

-- a record in five pieces
in_pieces : (t : ℕ) (bytes : List ℕ)
    → let xs =
    drop (2 * t) bytes in take (record_len t) bytes ≡ take t bytes ++ take t (drop t bytes) ++ take 2 xs
    ++ take 2 (drop 2 xs) ++ take 4 (drop 4 xs)
in_pieces t bytes =
    let xs = drop (2 * t) bytes in
    take-add (2 * t) 8 bytes
    ∙ ap (λ (l : List ℕ). l ++ take 8 xs) (time_in_pieces t bytes)
    ∙ ap (λ (l : List ℕ). take t bytes ++ take t (drop t bytes) ++ l) (event_in_pieces xs)
    ∙ regrouped (take t bytes ++ take t (drop t bytes)) (take 2 xs) (take 2 (drop 2 xs)) (take 4 (drop 4 xs))
  where
    regrouped : (a b c d : List ℕ) → a ++ (b ++ c ++ d) ≡ a ++ b ++ c ++ d
    regrouped a b c d = simp append_assoc

-- what is read was not refused
not_refused : {V : Type 0} (short bad : Bool) (v w : V)
    → (if short then Err Short else if bad then Err BadTime else Ok v) ≡ Ok w
    → (short ≡ false) × (bad ≡ false) × (v ≡ w)
not_refused true bad v w e = absurd (cc e)
not_refused false true v w e = absurd (cc e)
not_refused false false v w e = (refl, refl, cc)

neither : (a b : Bool) → (a || b) ≡ false → (a ≡ false) × (b ≡ false)
neither true b h = absurd (cc h)
neither false b h = (refl, h)

pieces_are : (a b c d g a' b' c' d' g' : List ℕ) → a ≡ a' → b ≡ b' → c ≡ c' → d ≡ d' → g ≡ g'
    → a ++ b ++ c ++ d ++ g ≡ a' ++ b' ++ c' ++ d' ++ g'
pieces_are a b c d g a' b' c' d' g' p q r s t = cc

pub one_spelling : (t : ℕ) → HasOneSpelling t
one_spelling t bytes event time f e =
    let xs = drop (2 * t) bytes in
    let h =
    not_refused (nat_lt (length bytes) (record_len t))
    (nat_le SECOND (microseconds_of t bytes) || nat_lt MOMENT_MAX (moment_in t bytes))
    (event_in xs, moment_in t bytes) (event, time) e in
    let micros =
    neither (nat_le SECOND (microseconds_of t bytes)) (nat_lt MOMENT_MAX (moment_in t bytes)) h.1 in
    let size : 2 * t + 8 ≤ length bytes = grind (arith, nat_tests, h.0) in
    let below : microseconds_of t bytes < SECOND = grind (arith, nat_tests, micros.0) in
    let at = time_of t bytes time (ap (λ (p : Event × ℕ). p.1) h.2) below in
    let is : event_in xs ≡ event = ap (λ (p : Event × ℕ). p.0) h.2 in
    let are = are_bytes_behind bytes (2 * t) f in
    let left : length xs ≡ length bytes - 2 * t = length-drop (2 * t) bytes in
    let part : (k n : ℕ) → k + n ≤ length xs
    → little_bytes n (little_number n (drop k xs)) ≡ take n (drop k xs) = λ k n q.
    little_bytes-number n (drop k xs) (omega (arith, length-drop k xs)) (are_bytes_behind xs k are) in
    let seconds : little_bytes t (time / SECOND) ≡ take t bytes =
    ap (little_bytes t) at.0 ∙ little_bytes-number t bytes (omega arith) f in
    let microseconds : little_bytes t (time % SECOND) ≡ take t (drop t bytes) =
    ap (little_bytes t) at.1
    ∙ little_bytes-number t (drop t bytes) (omega (arith, length-drop t bytes))
    (are_bytes_behind bytes t f) in
    let kind : little_bytes 2 event.kind ≡ take 2 xs =
    ap (λ (v : Event). little_bytes 2 v.kind) (sym is) ∙ little_bytes-number 2 xs (omega arith) are in
    let code : little_bytes 2 event.code ≡ take 2 (drop 2 xs) =
    ap (λ (v : Event). little_bytes 2 v.code) (sym is) ∙ part 2 2 (omega arith) in
    let number : little_number 4 (drop 4 xs) < 2 ^ 32 =
    little_from-lt 0 4 (drop 4 xs) (are_bytes_behind xs 4 are) in
    let value : little_bytes 4 (cast_unsigned w32 event.value) ≡ take 4 (drop 4 xs) =
    ap (λ (v : Event). little_bytes 4 (cast_unsigned w32 v.value)) (sym is)
    ∙ ap (little_bytes 4) (of_z-to_z w32 (little_number 4 (drop 4 xs)) number) ∙ part 4 4 (omega arith) in
    in_pieces t bytes ∙ sym (pieces_are _ _ _ _ _ _ _ _ _ _ seconds microseconds kind code value)
