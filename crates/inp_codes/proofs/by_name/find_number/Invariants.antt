use Rattle.std.proofs.Common.{◌≡◌, drop}
use Rattle.inp_codes.specs.Table.{number_in}
use Rattle.inp_codes.specs.ByName.{row_entries}
use Rattle.inp_codes.proofs.by_name.find_number.Given as goal

abbrev pub invariant-loop-text : goal.invariant-loop-text
invariant-loop-text g l =
    number_in (row_entries l.rows) l.name ≡ number_in (row_entries (drop l.text-index l.rows)) l.name
