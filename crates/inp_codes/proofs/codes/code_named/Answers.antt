use Rattle.std.proofs.Common.{sym, refl, ◌∙◌, rules}
use Rattle.inp_codes.specs.CodeNames.{code_of}
use Rattle.inp_codes.proofs.LawLemmas.{no_code}
use Rattle.inp_codes.proofs.codes.code_named.Goals as goal

pub returns-then-begins_name : goal.returns-then-begins_name
unfolding code_of
returns-then-begins_name c =
    record { code = c.number_at.ensures ∙ c.code_rows.ensures.numbers.numbers c.args.name.now }

pub returns-else-begins_name : goal.returns-else-begins_name
returns-else-begins_name c =
    record { code = sym (no_code c.args.name.now (code_of c.args.name.now) refl (search rules)) }
