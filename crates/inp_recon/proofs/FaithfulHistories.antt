-- A history is faithful to a client where its reads are: each entry that the client took is one of one read.
use Rattle.std.proofs.Common.{◌≡◌, ◌<◌, ℕ, ◌-◌, nat_eq, List, [], ◌∷◌, length, sym, ap, ◌∙◌, arith, inl, inr}
use Rattle.std.proofs.Common.{Some}
use Rattle.std.specs.Prelude.{slice_get}
use Rattle.std.proofs.lemmas.Bool.{cases_Bool, eqb-true, cases_lt}
use Rattle.std.proofs.lemmas.Option.{slice_get_within}
use Rattle.inp_model.specs.declared.step.Step.{Step}
use Rattle.inp_model.specs.declared.step.Step.TheVariants.{Read}
use Rattle.inp_model.specs.Description.{Description}
use Rattle.inp_model.specs.Left.{Eats}
use Rattle.inp_model.specs.Queue.{Entry, taken_by_with, took_with}
use Rattle.inp_recon.specs.ClientView.{entries_of_read, read_entries_with}
use Rattle.inp_recon.specs.Faithful.{AreFaithful, AreReadsFaithful}
use Rattle.inp_recon.proofs.ReadEntries.{of-read, entry-before, entry-behind}

-- a step that takes something is the client's read
is_read : (eats : Eats) (d : Description) (past : List Step) (client : ℕ) (x : Step)
    → 0 < length (taken_by_with eats d past client x) → (count : ℕ) × (x ≡ Read client count)
is_read eats d past client (Read reader count) some = elim (cases_Bool (nat_eq reader client)) [
  | inl e ↦ (count, rw (eqb-true reader client e))
  | inr e ↦ (let none : taken_by_with eats d past client (Read reader count) ≡ [] =
      rw e in absurd (omega (arith, ap length none)))
]
is_read eats d past client x some = absurd (omega arith)

pub faithful_by_reads : AreReadsFaithful → AreFaithful
unfolding read_entries_with
faithful_by_reads reads eats d [] client described accepted i at f is report followed = absurd cc
faithful_by_reads reads eats d (x ∷ past) client described accepted i at f is report followed =
    elim (cases_lt i n) [
      | inl early ↦ faithful_by_reads reads eats d past client described accepted.0 i at f
          (sym (entry-before eats d past client i x early) ∙ is) report followed
      | inr late ↦ (let new : slice_get (entries_of_read past [] es) (i - n) ≡ Some at =
          sym (entry-behind eats d past client i x late) ∙ is in
          let some : i - n < length es =
          slice_get_within es (i - n) at.entry (of-read past [] es (i - n) at new).is_entry in
          let read = is_read eats d past client x (omega (arith, some)) in
          reads eats d past client read.0 described
          (accepted.0, rw read.1 at accepted.1)
          (i - n) at f
          (rw read.1 at new)
          report followed)
    ]
  where
    n : ℕ
    n = length (took_with eats d past client)

    es : List Entry
    es = taken_by_with eats d past client x
