use Rattle.std.proofs.Common.{◌≡◌, ◌≤◌}
use Rattle.std.specs.Prelude.{is_some}
use Rattle.inp_tool.specs.Edge.{reads_of}
use Rattle.inp_tool.specs.LoadedStreams.{IsLoadedTo}
use Rattle.inp_tool.proofs.record_file.read_streams.Given as goal

abbrev pub invariant-loop-line : goal.invariant-loop-line
invariant-loop-line g l =
    let I = g.I.Input in
    record {
      files_stay : I.files l.input ≡ I.files l.fn.input;
      stays_told : is_some (I.left l.input) ≡ is_some (I.left l.fn.input);
      never_falls : I.faults l.fn.input ≤ I.faults l.input;
      loaded : IsLoadedTo (reads_of I.files I.given I.left I.faults l.fn.input l.input) l.fn.recorded
          l.line l.recorded;
    }
