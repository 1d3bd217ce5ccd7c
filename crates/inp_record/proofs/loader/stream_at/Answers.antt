use Rattle.std.proofs.Common.{sym, ◌∙◌}
use Rattle.inp_record.proofs.Stamps.{stream_within}
use Rattle.inp_record.proofs.loader.stream_at.Goals as goal

-- a line of a record takes a stream that the record has
pub returns-clause-within : goal.returns-clause-within
returns-clause-within c =
    let item = rw c.lines.ensures.lines at c.get.ensures.item in
    stream_within _ _ c.args.line c.get.result.now c.in-Some.index item (sym c.stream_index.ensures.index
    ∙ c.in-Some.is) c.lines.ensures.«record».numbered
