use Rattle.std.proofs.Common.{◌≡◌, ◌<◌, length, sym, ap, subst, ◌∙◌, arith, Some}
use Rattle.std.specs.Prelude.{slice_get}
use Rattle.inp_threads.specs.Lines.{AreLinesDealt}
use Rattle.inp_threads.proofs.DealtLines.{none-dealt, one-more, all-dealt}
use Rattle.inp_threads.proofs.lines.deal_lines.Goals as goal

-- before the first line each actor has an empty list
pub loop-line-init : goal.loop-line-init
loop-line-init c =
    none-dealt c.args.rec.now c.len.result c.in_ok-lists.lists.items c.in_ok-lists.ensures.none
    (c.len.ensures.length ∙ ap length c.actors.ensures.actors)

pub push_line-requires : goal.push_line-requires
push_line-requires c =
    let at : slice_get c.args.rec.now.lines c.loop-line.line ≡ Some c.get.result.now =
    rw (← c.lines-in-loop-line.ensures.lines) c.get.ensures.item in
    record {
      actor =
          omega (
            arith,
            c.lines.ensures.record.actors c.loop-line.line c.get.result.now at,
            c.loop-line.invariant.count,
          );
    }

-- the line's number goes to the end of its actor's list
pub loop-line-preserved : goal.loop-line-preserved
loop-line-preserved c =
    let at : slice_get c.args.rec.now.lines c.loop-line.line ≡ Some c.get.result.now =
    rw (← c.lines-in-loop-line.ensures.lines) c.get.ensures.item in
    let within : c.get.result.now.actor < length c.loop-line.lists.items =
    omega (
      arith,
      c.lines.ensures.record.actors c.loop-line.line c.get.result.now at,
      c.loop-line.invariant.count,
    ) in
    one-more c.args.rec.now c.loop-line.line c.get.result.now c.loop-line.lists.items
    c.push_line.new.lists.items c.loop-line.invariant at within c.in_ok-push_line.ensures.more

-- at the end all lines are dealt
pub returns : goal.returns
returns c =
    record {
      dealt = subst (AreLinesDealt c.args.rec.now) (sym c.of.ensures.items)
          (all-dealt c.args.rec.now c.loop-line.line c.loop-line.lists.items c.loop-line.invariant
          (omega (arith, ap length c.lines.ensures.lines)));
    }
