use Rattle.inp_c.proofs.StreamNumbers.{if_within}
use Rattle.inp_c.proofs.loaded_streams.stream_index.Goals as goal

-- a line of a record takes a stream that the record has
pub returns-clause-within : goal.returns-clause-within
returns-clause-within c =
    let item = rw c.lines-2.ensures.lines at c.get.ensures.item in
    if_within c.args.recorded.now c.args.line c.get.result.now c.stream_index.result
    c.lines-2.ensures.«record» item c.stream_index.ensures.index
