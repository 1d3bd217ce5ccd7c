-- One more filter behind the others, up to the last one.
use Rattle.std.proofs.Common.{◌≡◌, ◌≤◌, ℕ, ◌+◌, [], ◌∷◌, ◌++◌, List, length, take, Some, None, inl, inr, sym}
use Rattle.std.proofs.Common.{◌∙◌, arith}
use Rattle.std.specs.List.{slice_get}
use Rattle.std.proofs.lemmas.List.{take_more, take_all}
use Rattle.std.proofs.lemmas.Option.{slice_get_within, get_or_from_slice_get, slice_get_cases}
use Rattle.inp_model.specs.declared.filter.Filter.{Filter}
use Rattle.inp_filter.specs.FilterState.{FiltersStandFor}
use Rattle.inp_filter.proofs.Rows.{FiltersStandFor-push}
use Rattle.inp_filter.proofs.filters.Filters.new.Goals.{in-Some+in_ok-push, in_default}
use Rattle.inp_filter.proofs.filters.Filters.new.Goals as goal

taken_some : (fs : List Filter) (i : ℕ) (f : Filter) → slice_get fs i ≡ Some f
    → take (i + 1) fs ≡ take i fs ++ f ∷ []
taken_some fs i f h = rw (take_more fs i f (slice_get_within fs i f h), get_or_from_slice_get fs i f f h)

past_end : (fs : List Filter) (i : ℕ) → slice_get fs i ≡ None → length fs ≤ i
past_end fs i h = elim (slice_get_cases fs i).1 [ inl x ↦ absurd (cc (x.2, h)) | inr x ↦ x.0 ]

taken_none : (fs : List Filter) (i : ℕ) → slice_get fs i ≡ None → take (i + 1) fs ≡ take i fs
taken_none fs i h =
    take_all (i + 1) fs (omega (arith, past_end fs i h)) ∙ sym (take_all i fs (past_end fs i h))

pub loop-index-init : goal.loop-index-init
unfolding FiltersStandFor
loop-index-init c = record { stands = rw c.new-kept.ensures.items tt; few = λ h. absurd (omega (arith, h)) }

pub loop-index-preserved : goal.loop-index-preserved
loop-index-preserved c =
    let fs : List Filter = c.args.caps.now.filters in
    let i : ℕ = c.loop-index.index in
    record {
      stands = elim c.match-filter.branch [
        | in-Some+in_ok-push w ↦
            rw (
              w.kept-is,
              w.in_ok-push.ensures.items,
              taken_some fs i w.in-Some.filter (sym w.in-Some.ensures.filter),
            )
            (FiltersStandFor-push (take i fs) c.loop-index.kept.items w.in-Some.filter w.new.result
            c.loop-index.invariant.stands w.new.ensures.fresh)
        | in_default w ↦
            rw (w.kept-is, taken_none fs i (sym w.in_default.ensures.filter)) c.loop-index.invariant.stands
      ];
      few = λ h. c.filter.ensures.range;
    }

pub returns : goal.returns
returns c = record {
  fresh =
      rw (take_all c.loop-index.index c.args.caps.now.filters
      (omega (arith, c.loop-index.invariant.few))) at c.loop-index.invariant.stands;
}
