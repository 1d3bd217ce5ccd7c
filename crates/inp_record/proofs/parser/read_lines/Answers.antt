use Rattle.std.proofs.Common.{◌+◌, ◌-◌, ◌≤◌, [], length, map, take, drop, sym, ap, ◌∙◌, rules, arith}
use Rattle.std.proofs.lemmas.List.{length-take, take-take}
use Rattle.std.specs.Str.Lines.{strip_carriage_return}
use Rattle.inp_texts.specs.Line.{lines_behind, lines_of}
use Rattle.inp_record.specs.Meaning.{behind_line}
use Rattle.inp_record.proofs.LineByLine.{some_line, line_and_more, line_alone, counted_more, read_more}
use Rattle.inp_record.proofs.LineByLine.{more_read, fault_read, all_read}
use Rattle.inp_record.proofs.parser.read_lines.Goals as goal

pub overflow_add-line : goal.overflow_add-line
overflow_add-line c = omega (arith, some_line c.lines.rest.now, c.lines.invariant.counted, c.requires.few)

pub read_line-requires-clause-actors : goal.read_line-requires-clause-actors
read_line-requires-clause-actors c =
    omega (
      arith,
      some_line c.lines.rest.now,
      c.lines.invariant.counted,
      c.lines.invariant.actors,
      c.requires.few,
    )

-- the lines before were read, and the one at hand was not
pub returns-in-Err : goal.returns-in-Err
returns-in-Err c =
    let all = lines_of c.args.text.now in
    let bytes = strip_carriage_return (take c.line_end-end.result c.lines.rest.now) in
    let behind = map strip_carriage_return (lines_behind (drop c.line_end-end.result c.lines.rest.now)) in
    let past = c.lines.invariant.read.0 in
    let first = ap (map strip_carriage_return) c.line_end-end.ensures.first in
    let more =
    read_more all (lines_of c.lines.rest.now) behind c.lines.line past bytes first c.lines.invariant.read.2 in
    let means =
    rw c.strip_carriage_return-bytes.ensures.stripped at (c.read_line.ensures.behind past
    c.lines.invariant.read.1) in
    rw c.at.ensures
    (fault_read all behind c.lines.line (behind_line past bytes) c.in-Err.fault c.read_line.new.context more
    (rw c.in-Err.is at means))

pub returns-then-end-rest : goal.returns-then-end-rest
returns-then-end-rest c =
    let all = lines_of c.args.text.now in
    let bytes = strip_carriage_return (take c.line_end-end.result c.lines.rest.now) in
    let past = c.lines.invariant.read.0 in
    let alone =
    line_alone c.lines.rest.now c.line_end-end.result (omega arith) c.line_end-end.ensures.first in
    let more =
    read_more all (lines_of c.lines.rest.now) [] c.lines.line past bytes alone c.lines.invariant.read.2 in
    let means =
    rw c.strip_carriage_return-bytes.ensures.stripped at (c.read_line.ensures.behind past
    c.lines.invariant.read.1) in
    all_read all (c.lines.line + 1) c.read_line.new.context
    (counted_more all (lines_of c.lines.rest.now) [] c.lines.line bytes alone c.lines.invariant.counted)
    (more_read all [] c.lines.line
    (behind_line past bytes) c.in_default-read_line.field-0 c.read_line.new.context more
    (rw c.in_default-read_line.is at means))

pub read_line-requires-clause-front : goal.read_line-requires-clause-front
read_line-requires-clause-front c =
    let end = c.line_end-end.result in
    let rest = c.lines.rest.now in
    let few : length c.strip_carriage_return-bytes.result.now ≤ end =
    omega (arith, length-take end rest, c.strip_carriage_return-bytes.ensures.within) in
    sym (take-take (length c.strip_carriage_return-bytes.result.now) end rest few)
    ∙ c.strip_carriage_return-bytes.ensures.front

pub lines-preserved : goal.lines-preserved
lines-preserved c =
    let all = lines_of c.args.text.now in
    let end = c.line_end-end.result in
    let rest = c.lines.rest.now in
    let bytes = strip_carriage_return (take end rest) in
    let left = lines_of (take (length rest - (end + 1)) (drop (end + 1) rest)) in
    let past = c.lines.invariant.read.0 in
    let next =
    line_and_more rest end (omega (arith, c.line_end-end.ensures.within)) c.line_end-end.ensures.first in
    let more = read_more all (lines_of rest) left c.lines.line past bytes next c.lines.invariant.read.2 in
    let means =
    rw c.strip_carriage_return-bytes.ensures.stripped at (c.read_line.ensures.behind past
    c.lines.invariant.read.1) in
    record {
      counted = counted_more all (lines_of rest) left c.lines.line bytes next c.lines.invariant.counted;
      room = search rules;
      actors = search rules;
      read =
          more_read all left c.lines.line
          (behind_line past bytes) c.in_default-read_line.field-0 c.read_line.new.context more
          (rw c.in_default-read_line.is at means);
    }
