-- The words that a worked example unfolds, in one place: `unfolding computing_reader` opens all of them.
use Rattle.inp_recon.specs.Cells.{first_cells}
use Rattle.inp_recon.specs.View.{first_view, view_after_event, view_after_events, bits_in, view_after_answer}
use Rattle.inp_reader.specs.Talk.{talk_with, calls_with}
use Rattle.inp_reader.specs.Synthesis.{synth}
use Rattle.inp_reader.specs.Reader.{axes_among, queries, ask_each, start_talk, read_talk, sync_talk}
use Rattle.inp_reader.specs.ReaderPlace.{calls_since}

unfoldable pub computing_reader : Type 0
unfolding first_cells first_view view_after_event view_after_events bits_in view_after_answer talk_with
    calls_with synth axes_among queries ask_each start_talk read_talk sync_talk calls_since
computing_reader = Unit {0}
