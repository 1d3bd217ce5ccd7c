-- The words that a worked example unfolds, in one place.
use Rattle.inp_joy.specs.Codes.{codes_among, buttons}
use Rattle.inp_joy.specs.Joy.{startup, sync_turn, event_turn}
use Rattle.inp_script.specs.Client.{rounds}
use Rattle.inp_script.proofs.Common.{joy_start, turns, stream_talk, start_job, next_round, line_talk}
use Rattle.inp_script.proofs.Common.{start_joystick, read_on, read_records}
use Rattle.inp_joy.specs.Picture.{picture_after}

unfoldable pub computing_jobs : Type 0
unfolding stream_talk start_job next_round rounds line_talk
computing_jobs = Unit {0}

unfoldable pub computing_joysticks : Type 0
unfolding codes_among buttons startup joy_start sync_turn event_turn turns picture_after
    start_joystick read_on read_records
computing_joysticks = Unit {0}
