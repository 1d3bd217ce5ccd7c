use Rattle.std.proofs.Common.{refl, ap, ◌∙◌}
use Rattle.inp_codes.specs.ByNumber.{name_at}
use Rattle.inp_codes.specs.KindNames.{kind_entries}
use Rattle.inp_codes.proofs.ByNumberLemmas.{name_at-names_by_number}
use Rattle.inp_codes.proofs.Computation.{event_codes}
use Rattle.inp_codes.proofs.kinds.kind_name.Goals as goal

pub returns : goal.returns
unfolding event_codes
returns c = record {
  name =
      c.name_at.ensures ∙ ap (λ names. name_at names c.args.kind) c.kind_names.ensures
      ∙ name_at-names_by_number kind_entries c.args.kind refl;
}
