use Rattle.std.proofs.Common.{◌≡◌, drop}
use Rattle.inp_texts.specs.Table.{named, rows_of}
use Rattle.inp_texts.proofs.table.named.Given as goal

abbrev pub invariant-loop-name : goal.invariant-loop-name
invariant-loop-name g l = named (rows_of l.rows) l.word ≡ named (rows_of (drop l.name-index l.rows)) l.word
