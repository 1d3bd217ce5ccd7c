-- Lines of filters that a loop writes one by one.
use Rattle.std.proofs.Common.{◌≡◌, ℕ, ◌+◌, List, [], ◌++◌, map, take, sym, ◌∙◌, inl, inr, arith, append-nil}
use Rattle.std.specs.Prelude.{slice_get}
use Rattle.std.proofs.lemmas.List.{take_all}
use Rattle.std.proofs.lemmas.Option.{slice_get_cases}
use Rattle.inp_model.specs.declared.filter.Filter.{Filter}
use Rattle.inp_record.specs.canon.Words.{line_text, lines_text}
use Rattle.inp_record.specs.canon.Device.{filter_words, filter_lines}
use Rattle.inp_record.proofs.Written.{line_more}

-- one turn writes the filter at an index, if there is one
pub filter_more : (fs : List Filter) (before text new : List ℕ) (at : ℕ)
    → text ≡ before ++ lines_text (map filter_words (take at fs))
    → new ≡ text ++ lines_text (filter_lines (slice_get fs at))
    → new ≡ before ++ lines_text (map filter_words (take (at + 1) fs))
filter_more fs before text new at so_far more =
    elim (slice_get_cases fs at).1 [
      | inl there ↦ let f : Filter = there.0 in
          let line : lines_text (filter_lines (slice_get fs at)) ≡ line_text (filter_words f) =
          rw there.2 (append-nil (line_text (filter_words f))) in
          line_more filter_words fs before text new at f there.1 there.3 so_far (rw (more, line))
      | inr past ↦ let none : lines_text (filter_lines (slice_get fs at)) ≡ [] = rw past.1 in
          let same : take at fs ≡ take (at + 1) fs =
          take_all at fs past.0 ∙ sym (take_all (at + 1) fs (omega (arith, past.0))) in
          rw (more, none, append-nil, so_far, same)
    ]
