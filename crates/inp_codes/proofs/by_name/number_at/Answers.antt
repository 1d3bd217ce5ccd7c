use Rattle.std.proofs.Common.{◌≡◌, ◌<◌, sym, ap, ◌∙◌, true, length, get_or, Some, arith, rules}
use Rattle.std.specs.Str.{bytes_eq}
use Rattle.std.proofs.lemmas.List.{get_or_default}
use Rattle.inp_codes.proofs.ByNameLemmas.{own_number}
use Rattle.inp_codes.proofs.by_name.number_at.Goals as goal

-- the row at the place has the name
pub returns-then-eq : goal.returns-then-eq
returns-then-eq g c =
    let rows = c.args.rows.now in
    let place = c.args.place in
    let row = c.index-rows-place.result in
    let here : bytes_eq (get_or rows place row).0.now c.args.name.now ≡ true = search rules in
    let within : place < length rows = omega arith in
    sym (own_number rows c.args.name.now place row c.requires within here
    ∙ ap (λ r. Some r.1) (get_or_default rows place row c.index-rows-place-then-place-rows.result within))
