use Rattle.std.proofs.Common.{sym, ap, ◌∙◌, arith}
use Rattle.std.specs.Option.{option_copied}
use Rattle.inp_codes.proofs.ByNumberLemmas.{name_at-past, name_at-item, unless_empty-none, unless_empty-is}
use Rattle.inp_codes.proofs.by_number.name_at.Goals as goal

-- the index is past the end
pub returns-in_err-name : goal.returns-in_err-name
returns-in_err-name c =
    ap option_copied c.from_residual.ensures
    ∙ sym (name_at-past c.args.names.now c.args.number (omega (arith, c.in_err-name.ensures.lookup)))

-- the text at the index is empty
pub returns-then-is_empty : goal.returns-then-is_empty
returns-then-is_empty c =
    let item = c.in_ok-name.ensures.lookup in
    sym (name_at-item c.args.names.now c.args.number c.in_ok-name.name.now (omega (arith, item)) item.1
    ∙ unless_empty-none _ (sym c.is_empty.ensures ∙ c.if-is_empty.true))

-- the text at the index is the name
pub returns-else-is_empty : goal.returns-else-is_empty
returns-else-is_empty c =
    let item = c.in_ok-name.ensures.lookup in
    sym (name_at-item c.args.names.now c.args.number c.in_ok-name.name.now (omega (arith, item)) item.1
    ∙ unless_empty-is _ (sym c.is_empty.ensures ∙ c.if-is_empty.false))
