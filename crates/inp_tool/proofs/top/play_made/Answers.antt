use Rattle.std.proofs.Common.{refl, None}
use Rattle.inp_actors.specs.Record.{RecordView}
use Rattle.inp_args.specs.declared.request.Request.TheVariants.{Make}
use Rattle.inp_make.specs.Generated.{generated}
use Rattle.inp_runs.proofs.Results.{promised-joys, promised-owners}
use Rattle.inp_tool.proofs.MadeBounds.{asked-not_full}
use Rattle.inp_tool.proofs.top.play_made.Goals as goal

pub returns-in-Ok : goal.returns-in-Ok
returns-in-Ok c = record {
  cause = λ words r asked same.
      let done = c.in-Ok.ensures in
      let made : RecordView = generated c.args.number c.args.count in
      let joys = promised-joys None made c.in-Ok.played done.came.promised in
      let owners = promised-owners None made c.in-Ok.played done.came.promised in
      let full =
      asked-not_full words c.args.number c.args.count c.in-Ok.played asked (done.came.in_order refl)
      joys owners in
      record {
        request = Make c.args.number c.args.count;
        asked = asked;
        recorded = generated c.args.number c.args.count;
        had = refl;
        untouched = λ none. same;
        answer = record {
          came = done.came;
          says = done.text;
          status = rw full;
          joys = done.joys;
          owners = done.owners;
        };
      };
}
