-- What is written of the supported axes is what is written of each code, where it is one of them.
use Rattle.std.proofs.Common.{◌≡◌, ℕ, ◌-◌, Bool, true, false, List, [], ◌∷◌, ◌++◌, refl}
use Rattle.std.specs.Prelude.{ℤ, if◌then◌else◌}
use Rattle.std.specs.List.{filter, flat_map, range_with_len}
use Rattle.inp_model.specs.declared.event.TheConstants.{EV_ABS}
use Rattle.inp_model.specs.Description.{Description, supports}
use Rattle.inp_reader.specs.Reader.{axes_among}
use Rattle.inp_texts.proofs.Written.{written_all}
use Rattle.inp_report.specs.Entries.{value_entry, axis_entry}
use Rattle.inp_report.specs.Views.{values_text}

-- a test before each item picks the same as a filter of them
picked : (p : ℕ → Bool) (f : ℕ → List ℕ) (xs : List ℕ)
    → flat_map (λ x. if p x then f x else []) xs ≡ flat_map f (filter p xs)
picked p f [] = refl
picked p f (x ∷ xs) = by (p x) refl (picked p f xs)
  where
    by : (b : Bool) → p x ≡ b → flat_map (λ y. if p y then f y else []) xs ≡ flat_map f (filter p xs)
        → flat_map (λ x. if p x then f x else []) (x ∷ xs) ≡ flat_map f (filter p (x ∷ xs))
    by true e more = rw (e, more)
    by false e more = rw (e, more)

-- of so many codes from the first on
entries : (d : Description) (value_of : ℕ → ℤ) (first count : ℕ)
    → flat_map (axis_entry d value_of) (range_with_len first count)
    ≡ values_text value_of (axes_among d first count)
unfolding axes_among
entries d value_of first count =
    picked (supports d EV_ABS) (value_entry value_of) (range_with_len first count)

-- a loop that went through the codes wrote the values of the axes among them
pub entries-all : (d : Description) (value_of : ℕ → ℤ) (first : ℕ) (before text : List ℕ) (at count : ℕ)
    → at - first ≡ count
    → text ≡ before ++ flat_map (axis_entry d value_of) (range_with_len first (at - first))
    → text ≡ before ++ values_text value_of (axes_among d first count)
entries-all d value_of first before text at count same so_far =
    rw (← entries d value_of first count)
    (written_all (axis_entry d value_of) first before text at count same so_far)
