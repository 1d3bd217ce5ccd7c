-- The words that a worked example unfolds, in one place: `unfolding computing` opens all of them.
use Rattle.inp_model.specs.Queue.{took_with}
use Rattle.inp_model.proofs.Computation.{computing as of_model}
use Rattle.inp_recon.specs.Cells.{first_cells}
use Rattle.inp_recon.specs.View.{first_view, view_after_event, view_after_events, bits_in, view_after_answer}
use Rattle.inp_recon.specs.ClientView.{client_view_with, read_entries_with}
use Rattle.inp_recon.specs.Synchronised.{sync_place, has_asked, taken_since_start, is_synchronised_with}
use Rattle.inp_recon.specs.Undisturbed.{frames_since_start, steps_since_frame, steps_since_frame_before_start}
use Rattle.inp_recon.specs.Undisturbed.{is_undisturbed}

unfoldable pub computing : Type 0
unfolding of_model took_with first_cells first_view view_after_event view_after_events bits_in
    view_after_answer client_view_with read_entries_with sync_place has_asked taken_since_start
    is_synchronised_with frames_since_start steps_since_frame steps_since_frame_before_start is_undisturbed
computing = Unit {0}
