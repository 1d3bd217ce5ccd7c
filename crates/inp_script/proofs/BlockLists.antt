-- Where the items of a list in blocks stand.
use Rattle.std.proofs.Common.{◌≡◌, ◌≤◌, ◌<◌, ◌+◌, ◌-◌, ◌*◌, ◌/◌, ◌%◌, ℕ, zero, suc, refl, sym, arith}
use Rattle.std.proofs.Common.{List, [], ◌∷◌, ◌++◌, length, take, drop, slice_index_or, flat_map}
use Rattle.std.specs.List.{All}
use Rattle.std.proofs.lemmas.List.{drop-append-le, length-append, length-drop, append_assoc}
use Rattle.std.proofs.Math.Seq.{drop-append-add, take-append_seam, take-length}
use Rattle.std.proofs.Math.Nat.{div-add-mod, mod-lt}

-- a part that is taken from an index to the end is all that stands there
pub whole-tail : {T : Type 0} (xs : List T) (n : ℕ) → take (length xs - n) (drop n xs) ≡ drop n xs
whole-tail xs n = rw (sym (length-drop n xs)) (take-length (drop n xs))

module _ {B T : Type 0} (items : B → List T) where
  -- so many full blocks have so many items
  pub count-full : (full : List B) → All (λ b. length (items b) ≡ 1024) full
      → length (flat_map items full) ≡ 1024 * length full
  count-full [] h = refl
  count-full (b ∷ bs) h =
      let first : length (items b) ≡ 1024 = h 0 b (omega arith) in
      let rest : length (flat_map items bs) ≡ 1024 * length bs =
      count-full bs (λ k d l. h (suc k) d (omega (arith, l))) in
      rw length-append (omega (arith, first, rest))

  -- behind the full blocks stand the items of the last one
  pub past-full : (full : List B) (last : List T) (n : ℕ) → All (λ b. length (items b) ≡ 1024) full
      → drop (1024 * length full + n) (flat_map items full ++ last) ≡ drop n last
  past-full full last n h =
      rw (sym (count-full full h)) (drop-append-add (flat_map items full) last n)

  -- what stands from an index in a full block on begins with the rest of that block
  pub from-block : (full : List B) (last : List T) (k n : ℕ) (d : B)
      → All (λ b. length (items b) ≡ 1024) full → k < length full → n ≤ 1024
      → drop (1024 * k + n) (flat_map items full ++ last)
      ≡ drop n (items (slice_index_or full k d)) ++ (flat_map items (drop (suc k) full) ++ last)
  from-block [] last k n d h l m = absurd (omega (arith, l))
  from-block (b ∷ bs) last zero n d h l m =
      let first : length (items b) ≡ 1024 = h 0 b (omega arith) in
      let within : n ≤ length (items b) = omega (arith, first, m) in
      let at : 0 + n ≡ n = omega arith in
      rw (at, append_assoc) (drop-append-le n (items b) (flat_map items bs ++ last) within)
  from-block (b ∷ bs) last (suc k) n d h l m =
      let first : length (items b) ≡ 1024 = h 0 b (omega arith) in
      let rest : All (λ c. length (items c) ≡ 1024) bs =
      λ i e j. h (suc i) e (omega (arith, j)) in
      let split : 1024 * suc k + n ≡ length (items b) + (1024 * k + n) = omega (arith, first) in
      rw (split, append_assoc, drop-append-add (items b) (flat_map items bs ++ last) (1024 * k + n))
      (from-block bs last k n d rest (omega (arith, l)) m)

  -- an index past the full blocks is one in the last block
  pub in-last : (full : List B) (last : List T) (start : ℕ)
      → All (λ b. length (items b) ≡ 1024) full → length last ≤ 1024
      → start < length (flat_map items full ++ last) → length full ≤ start / 1024
      → start % 1024 < length last
      × (drop (start % 1024) last
      ≡ take (length last - start % 1024) (drop start (flat_map items full ++ last)))
  in-last full last start h few l past =
      let parts : 1024 * (start / 1024) + start % 1024 ≡ start = div-add-mod start 1024 in
      let all : length (flat_map items full ++ last) ≡ 1024 * length full + length last =
      rw (length-append, count-full full h) refl in
      let behind : 1024 * length full + start % 1024 ≡ start =
      omega (arith, parts, all, few, l, past) in
      let there : drop start (flat_map items full ++ last) ≡ drop (start % 1024) last =
      rw behind at (past-full full last (start % 1024) h) in
      (omega (arith, parts, all, few, l, past), rw there (sym (whole-tail last (start % 1024))))

  -- an index in a full block
  pub in-full : (full : List B) (last : List T) (start : ℕ) (block : B)
      → All (λ b. length (items b) ≡ 1024) full → start / 1024 < length full
      → block ≡ slice_index_or full (start / 1024) block
      → start % 1024 < length (items block)
      × (drop (start % 1024) (items block)
      ≡ take (length (items block) - start % 1024) (drop start (flat_map items full ++ last)))
  in-full full last start block h within is =
      let parts : 1024 * (start / 1024) + start % 1024 ≡ start = div-add-mod start 1024 in
      let below : start % 1024 < 1024 = mod-lt start (omega arith) in
      let whole : length (items block) ≡ 1024 = rw is (h (start / 1024) block within) in
      let more : List T = flat_map items (drop (suc (start / 1024)) full) ++ last in
      let from : drop start (flat_map items full ++ last) ≡ drop (start % 1024) (items block) ++ more =
      rw (parts, sym is) at
      (from-block full last (start / 1024) (start % 1024) block h within (omega (arith, below))) in (
        omega (arith, below, whole),
        rw (from, sym (length-drop (start % 1024) (items block)))
            (sym (take-append_seam (drop (start % 1024) (items block)) more)),
      )
