use Rattle.std.proofs.Common.{◌≡◌, true, refl, sym, ap, ◌∙◌}
use Rattle.inp_codes.specs.ByNumber.{name_at}
use Rattle.inp_codes.specs.CodeNames.{kinds_with_codes, code_entries, name_of, codes_of_kind}
use Rattle.inp_codes.proofs.ByNumberLemmas.{name_at-names_by_number}
use Rattle.inp_codes.proofs.CodeNamesLemmas.{kinds_rise_from, codes_rise, numbers_rise-codes_in}
use Rattle.inp_codes.proofs.CodeNamesLemmas.{name_in-codes_in}
use Rattle.inp_codes.proofs.Computation.{event_codes}
use Rattle.inp_codes.proofs.codes.name_of.Goals as goal

-- the codes of each type rise, and so do the types
codes_rise_within : codes_rise kinds_with_codes ≡ true
unfolding event_codes
codes_rise_within = refl

kinds_rise : kinds_rise_from 0 kinds_with_codes ≡ true
unfolding event_codes
kinds_rise = refl

pub returns : goal.returns
unfolding name_of code_entries
returns c =
    let kind = c.args.kind in
    let code = c.args.code in
    record {
      name =
          c.name_at.ensures ∙ ap (λ names. name_at names code) c.code_names.ensures
          ∙ name_at-names_by_number (codes_of_kind kind) code
          (numbers_rise-codes_in kinds_with_codes kind codes_rise_within)
          ∙ sym (name_in-codes_in kinds_with_codes 0 kind code kinds_rise);
    }
