use Rattle.std.proofs.Common.{◌≡◌, length, refl, ap, ◌∙◌, arith}
use Rattle.std.proofs.lemmas.Result.{err_from_is_err_and}
use Rattle.inp_record.proofs.LineNumbers.{action_count}
use Rattle.inp_tool.proofs.Loads.{line_done_at, line_refused_at, none_read, all_read}
use Rattle.inp_tool.proofs.record_file.read_streams.Goals as goal

-- before the first line no stream was read
pub loop-line-init : goal.loop-line-init
loop-line-init g c = record {
  files_stay = refl;
  stays_told = refl;
  never_falls = omega arith;
  loaded = none_read _ _ c.args.recorded.now;
}

pub read_stream-requires-clause-lines : goal.read_stream-requires-clause-lines
read_stream-requires-clause-lines g c =
    rw (
      c.loop-line.invariant.loaded.whole,
      ← action_count c.args.text.now c.args.recorded.now c.requires.means,
    )

pub returns-in_err-read_stream-clause-read : goal.returns-in_err-read_stream-clause-read
returns-in_err-read_stream-clause-read g c =
    let p = err_from_is_err_and c.from_residual.result c.from_residual.ensures.1 in
    let i = c.loop-line.invariant in
    let h = c.in_err-read_stream.ensures in
    rw (p.1, p.2) (line_refused_at _ _ _ _ _ _ _ _ _ _ i.loaded h.read i.files_stay h.stays_told)

-- the line's stream was read, where it has one, from the same files
pub loop-line-preserved : goal.loop-line-preserved
loop-line-preserved g c =
    let i = c.loop-line.invariant in
    let h = c.in_ok-read_stream.ensures in
    record {
      files_stay = h.files_stay ∙ i.files_stay;
      stays_told = h.stays_told ∙ i.stays_told;
      never_falls = omega arith;
      loaded =
          line_done_at _ _ _ _ _ _ _ _ _ c.lines.ensures.record i.loaded h.read i.files_stay h.stays_told;
    }

-- all lines are done, so each stream of the record was read
pub returns-clause-read : goal.returns-clause-read
returns-clause-read g c =
    let lines : length c.lines.result.now ≡ length c.args.recorded.now.lines =
    ap length c.lines.ensures.lines in
    all_read _ c.args.recorded.now _ c.loop-line.line c.lines.ensures.record
    (omega (arith, lines)) c.loop-line.invariant.loaded
