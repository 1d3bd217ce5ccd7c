-- The entries that a client's reads took: which one stands at an index, and that one more step leaves the
-- earlier ones.
use Rattle.std.proofs.Common.{◌≡◌, ◌<◌, ◌≤◌, inl, inr, ℕ, zero, suc, ◌-◌, List, [], ◌∷◌, ◌++◌, length, map}
use Rattle.std.proofs.Common.{take, refl, sym, ap, ◌∙◌, arith, append_assoc, length-append, Some}
use Rattle.std.specs.Prelude.{slice_get}
use Rattle.std.proofs.lemmas.Bool.{cases_lt}
use Rattle.std.proofs.lemmas.List.{length-map}
use Rattle.std.proofs.lemmas.Option.{slice_get_within, slice_get-map}
use Rattle.inp_model.specs.declared.taken.Taken.{Taken}
use Rattle.inp_model.specs.declared.step.Step.{Step}
use Rattle.inp_model.specs.Description.{Description}
use Rattle.inp_model.specs.Left.{Eats}
use Rattle.inp_model.specs.Queue.{Entry, taken_by_with, took_with}
use Rattle.inp_model.specs.Reply.{taken_of}
use Rattle.inp_recon.specs.ClientView.{ReadEntry, entries_of_read, read_entries_with}

-- ---- one of two lists

pub get-front : {X : Type 0} (xs ys : List X) (i : ℕ) → i < length xs
    → slice_get (xs ++ ys) i ≡ slice_get xs i
get-front [] ys i h = absurd (omega arith)
get-front (x ∷ xs) ys zero h = refl
get-front (x ∷ xs) ys (suc i) h = get-front xs ys i (omega arith)

pub get-behind : {X : Type 0} (xs ys : List X) (i : ℕ) → length xs ≤ i
    → slice_get (xs ++ ys) i ≡ slice_get ys (i - length xs)
get-behind [] ys i h = let e : i - 0 ≡ i = omega arith in rw e
get-behind (x ∷ xs) ys zero h = absurd (omega arith)
get-behind (x ∷ xs) ys (suc i) h =
    let e : i - length xs ≡ suc i - suc (length xs) = omega arith in
    rw (get-behind xs ys i (omega arith), e)

pub get-within : {X : Type 0} (xs : List X) (i : ℕ) → i < length xs → (x : X) × (slice_get xs i ≡ Some x)
get-within [] i h = absurd (omega arith)
get-within (x ∷ xs) zero h = (x, refl)
get-within (x ∷ xs) (suc i) h = get-within xs i (omega arith)

-- ---- what one read took

-- it is the one at this index, behind those in `earlier`
pub record IsOfRead (before : List Step) (earlier es : List Entry) (k : ℕ) (at : ReadEntry) : Type 0 where
  pub is_before : at.before ≡ before
  pub is_taken : at.taken ≡ earlier ++ take (suc k) es
  pub is_entry : slice_get es k ≡ Some at.entry

pub of-read : (before : List Step) (earlier es : List Entry) (k : ℕ) (at : ReadEntry)
    → slice_get (entries_of_read before earlier es) k ≡ Some at → IsOfRead before earlier es k at
of-read before earlier [] k at is = absurd cc
of-read before earlier (e ∷ es) zero at is =
    let first : ReadEntry = record { before = before; taken = earlier ++ e ∷ []; entry = e } in
    let same : first ≡ at = cc in
    rw (← same) (record { is_before = refl; is_taken = refl; is_entry = refl })
of-read before earlier (e ∷ es) (suc k) at is =
    let h : IsOfRead before (earlier ++ e ∷ []) es k at = of-read before (earlier ++ e ∷ []) es k at is in
    record {
      is_before = h.is_before;
      is_taken = h.is_taken ∙ append_assoc earlier (e ∷ []) (take (suc k) es);
      is_entry = h.is_entry;
    }

length-of_read : (before : List Step) (earlier es : List Entry)
    → length (entries_of_read before earlier es) ≡ length es
length-of_read before earlier [] = refl
length-of_read before earlier (e ∷ es) = ap suc (length-of_read before (earlier ++ e ∷ []) es)

-- ---- what all reads took

pub length-read_entries : (eats : Eats) (d : Description) (past : List Step) (client : ℕ)
    → length (read_entries_with eats d past client) ≡ length (took_with eats d past client)
unfolding read_entries_with took_with
length-read_entries eats d [] client = refl
length-read_entries eats d (x ∷ past) client =
    let old : List ReadEntry = read_entries_with eats d past client in
    let new : List Entry = taken_by_with eats d past client x in
    omega (
      arith,
      length-append old (entries_of_read past [] new),
      length-append (took_with eats d past client) new,
      length-read_entries eats d past client,
      length-of_read past [] new,
    )

module _ (eats : Eats) (d : Description) (past : List Step) (client i : ℕ) where
  -- what was read before, and what the entries are of
  abbrev old : List ReadEntry
  old = read_entries_with eats d past client

  abbrev took : List Entry
  took = took_with eats d past client

  -- what a step reads more
  abbrev new : Step → List ReadEntry
  new x = entries_of_read past [] (taken_by_with eats d past client x)

  pub entry-there : i < length took → (at : ReadEntry) × (slice_get old i ≡ Some at)
  entry-there h = get-within old i (omega (arith, length-read_entries eats d past client))

  -- one more step leaves the earlier ones
  pub entry-before : (x : Step) → i < length took
      → slice_get (read_entries_with eats d (x ∷ past) client) i ≡ slice_get old i
  unfolding read_entries_with
  entry-before x h = get-front old (new x) i (omega (arith, length-read_entries eats d past client))

  -- and the others are of that step
  pub entry-behind : (x : Step) → length took ≤ i
      → slice_get (read_entries_with eats d (x ∷ past) client) i ≡ slice_get (new x) (i - length took)
  unfolding read_entries_with
  entry-behind x h =
      rw (
        get-behind old (new x) i (omega (arith, length-read_entries eats d past client)),
        length-read_entries,
      )

  pub entry-kept : (x : Step) (at : ReadEntry) → slice_get old i ≡ Some at
      → slice_get (read_entries_with eats d (x ∷ past) client) i ≡ Some at
  entry-kept x at is =
      entry-before x (omega (arith, slice_get_within old i at is, length-read_entries eats d past client))
      ∙ is

-- ---- which event it is

-- the one of the same index
pub entry-took : (eats : Eats) (d : Description) (past : List Step) (client i : ℕ) (at : ReadEntry)
    → slice_get (read_entries_with eats d past client) i ≡ Some at
    → slice_get (took_with eats d past client) i ≡ Some at.entry
unfolding read_entries_with took_with
entry-took eats d [] client i at is = absurd cc
entry-took eats d (x ∷ past) client i at is =
    let T : List Entry = took_with eats d past client in
    let new : List Entry = taken_by_with eats d past client x in
    elim (cases_lt i (length T)) [
      | inl early ↦ get-front T new i early
          ∙ entry-took eats d past client i at (sym (entry-before eats d past client i x early) ∙ is)
      | inr late ↦ get-behind T new i late
          ∙ (of-read past [] new (i - length T) at (sym (entry-behind eats d past client i x late)
          ∙ is)).is_entry
    ]

-- where a client took this event at an index, the entry there
pub record HasEntry (eats : Eats) (d : Description) (past : List Step) (client i : ℕ) (taken : Taken) : Type
    0 where
  pub at : ReadEntry
  pub is_at : slice_get (read_entries_with eats d past client) i ≡ Some at
  pub is_taken : taken_of at.entry ≡ taken

pub entry-of : (eats : Eats) (d : Description) (past : List Step) (client i : ℕ) (taken : Taken)
    → slice_get (map taken_of (took_with eats d past client)) i ≡ Some taken
    → HasEntry eats d past client i taken
entry-of eats d past client i taken is =
    let T : List Entry = took_with eats d past client in
    let within : i < length T =
    omega (arith, slice_get_within (map taken_of T) i taken is, length-map T taken_of) in
    let found = entry-there eats d past client i within in
    let same : Some (taken_of found.0.entry) ≡ Some taken =
    rw (slice_get-map, entry-took eats d past client i found.0 found.1) at is in
    record { at = found.0; is_at = found.1; is_taken = cc }
