use Rattle.std.proofs.Common.{rules}
use Rattle.inp_edge.proofs.SinkLemmas.{Appends_more}
use Rattle.inp_edge.proofs.sink.write_all.Goals as goal

pub loop-done-preserved : goal.loop-done-preserved
loop-done-preserved g c = record {
  within = search rules;
  appended =
      Appends_more c.args.bytes.now c.loop-done.done c.in_ok-done.field-0 (g.O.Sink.written c.args.out.now)
      (g.O.Sink.written c.loop-done.out) (g.O.Sink.written c.write.new.self) c.loop-done.invariant.appended
      (search rules);
  faults_stay = search rules;
  no_call = search rules;
}
